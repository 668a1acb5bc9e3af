use Rattle.std.proofs.Common.{◌∙◌, ap, sym, subst}
use Rattle.bisim_spec.specs.Tests.{together}
use Rattle.extent_report.specs.ListedBlocks.{extents_text}
use Rattle.extent_report.specs.Summaries.{shape_of_blocks, LabelsHaveTexts}
use Rattle.extent_report.proofs.Summed.{gathered}
use Rattle.extent_report.proofs.extents.text_by_chains.Goals as goal

pub returns : goal.returns
returns c =
    let texts = c.args.labels.now.texts in
    let p = c.in_ok-chains.chains in
    let same = c.in_ok-chains.ensures in
    c.from_string.ensures
    ∙ gathered texts p (subst (LabelsHaveTexts texts) (sym same) c.requires.labelled) c.from.result _ _ _ (c.from.ensures ∙ c.count_begun.ensures) c.new-out.ensures.bytes c.in_ok-push_count.ensures c.in_ok-push_blocks.ensures
    ∙ ap (λ p. extents_text (shape_of_blocks texts p) (together p.block_of)) same

use Rattle.std.proofs.Common.{◌++◌, ◌∙◌, ap, sym}
use Rattle.std.specs.Prelude.{string_bytes}
use Rattle.extent_report.proofs.Summed.{line_begun}
use Rattle.extent_report.proofs.NumberedTexts.{three_pushed}
use Rattle.extent_report.proofs.extents.push_block.Goals as goal

pub returns : goal.returns
returns c =
    let p = c.args.chains.now in
    let texts = c.args.labels.now.texts in
    let text = c.in_ok-push_str.ensures.bytes ∙ ap (λ t. string_bytes c.args.out.now ++ t) c.as_str.ensures in
    three_pushed _ _ _ _ _ _ _ text c.in_ok-push_nodes.ensures c.in_ok-end_line.ensures
    ∙ ap (λ t. string_bytes c.args.out.now ++ t)
    (sym (line_begun texts p c.requires.labelled c.args.first c.args.b c.label.result c.text-label.result.now c.requires.is_first_member c.requires.block c.label.ensures c.text-label.ensures))

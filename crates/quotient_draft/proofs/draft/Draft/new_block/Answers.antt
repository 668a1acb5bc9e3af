use Rattle.std.proofs.Common.{◌∙◌, ◌<◌, ◌^◌, sym, subst, ap, count_by, is_some}
use Rattle.block_partition.specs.LabelledPartitions.{put}
use Rattle.quotient_draft.specs.Drafts.{Drafted, with_added}
use Rattle.quotient_draft.specs.Basis.{IsOver}
use Rattle.quotient_draft.proofs.Scanned.{added_more}
use Rattle.quotient_draft.proofs.Over.{over_added}
use Rattle.quotient_draft.proofs.draft.Draft.new_block.Goals as goal

pub returns-clause-labels : goal.returns-clause-labels
returns-clause-labels c =
    let labels = c.args.base.now.blocks.labels in
    ap (with_added labels) c.in_ok-b.ensures.ok ∙ added_more labels c.self.inside.added c.in_ok-b.b c.args.label
    ∙ ap (λ (d : Drafted). put (with_added labels d.added) c.in_ok-b.b c.args.label) c.self.view_is

pub returns-clause-over : goal.returns-clause-over
returns-clause-over c =
    let labels = c.args.base.now.blocks.labels in
    let block = c.args.base.now.blocks.block_of in
    let d : Drafted = record { added = c.self.inside.added; moves = c.self.inside.moves.moves; left = c.self.inside.moves.left; taken = c.self.inside.moves.taken; supports = c.self.inside.changed } in
    over_added block labels d c.new_block.new.self c.in_ok-b.b c.args.label (subst (IsOver block labels) (sym c.self.view_is) c.requires.over)
    (subst (λ (e : Drafted). count_by is_some (with_added labels e.added) < 2 ^ 31) (sym c.self.view_is) c.requires.few)
    c.in_ok-b.ensures.least c.in_ok-b.ensures.ok

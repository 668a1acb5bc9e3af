use Rattle.std.proofs.Common.{◌∙◌}
use Rattle.ak_family.proofs.LabelledMembers.{labelled_below}
use Rattle.ak_family.proofs.Filled.{filled_keyed, filled_fits, filled_labels}
use Rattle.ak_family.proofs.keyed.keyed_summary.Goals as goal

pub fill-requires-clause-blocks : goal.fill-requires-clause-blocks
fill-requires-clause-blocks c =
    rw (c.deref.ensures.value, c.deref-2.ensures.value) (labelled_below c.args.view.now c.args.labelled.now.block.items c.args.labelled.now.labels.items c.requires.labelled)

pub new-requires : goal.new-requires
new-requires c =
    rw c.in_ok-summary.ensures.blocks
    (filled_keyed c.in_ok-blocks.blocks c.args.labelled.now.labels.items _ (rw (← c.deref-2.ensures.value) c.in_ok-blocks.ensures.labels) c.requires.count c.requires.distinct)

pub returns-clause-blocks : goal.returns-clause-blocks
returns-clause-blocks c = rw (c.in_ok-level.ensures.quotient, c.in_ok-summary.ensures.blocks, ← c.deref.ensures.value) c.in_ok-blocks.ensures.blocks

pub returns-clause-fits : goal.returns-clause-fits
returns-clause-fits c =
    rw c.in_ok-level.ensures.quotient
    (filled_fits c.args.view.now c.args.labelled.now.block.items c.args.labelled.now.labels.items c.in_ok-summary.summary c.created.ensures.graph c.requires.partition c.requires.labelled
    (rw c.requires.count c.requires.span.inhabited)
    (rw (c.in_ok-summary.ensures.blocks, ← c.deref.ensures.value) c.in_ok-blocks.ensures.blocks)
    (rw (c.in_ok-summary.ensures.blocks, ← c.deref-2.ensures.value) c.in_ok-blocks.ensures.labels)
    (λ a b. rw c.in_ok-summary.ensures.blocks (c.in_ok-summary.ensures.supports a b ∙ c.requires.listed.same c.in_ok-blocks.blocks.block_of a b)))

pub returns-clause-labels : goal.returns-clause-labels
returns-clause-labels c =
    rw c.in_ok-level.ensures.quotient
    (filled_labels c.args.view.now c.args.labelled.now.block.items c.args.labelled.now.labels.items c.in_ok-summary.summary c.requires.labelled
    (rw (c.in_ok-summary.ensures.blocks, ← c.deref.ensures.value) c.in_ok-blocks.ensures.blocks)
    (rw (c.in_ok-summary.ensures.blocks, ← c.deref-2.ensures.value) c.in_ok-blocks.ensures.labels))

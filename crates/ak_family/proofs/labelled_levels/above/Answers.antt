use Rattle.graph_spec.specs.Shapes.{shape_of}
use Rattle.bisim_levels.specs.SidedKeys.{IsAround}
use Rattle.ak_family.proofs.LabelledMembers.{keys_begin_by, labelled_above, own_below}
use Rattle.ak_family.proofs.labelled_levels.above.Goals as goal

pub own_numbers-requires : goal.own_numbers-requires
own_numbers-requires c = keys_begin_by _ _ _ _ c.in_ok-level.ensures.numbered

pub look_up-requires : goal.look_up-requires
look_up-requires c =
    rw (c.deref-2.ensures.value, c.deref-3.ensures.value)
    (own_below c.args.view.now c.args.below.now.block.items c.args.below.now.labels.items (IsAround c.args.sides (shape_of c.args.view.now) c.args.below.now.block.items) c.in_ok-level.level.block.items c.in_ok-level.level.keys c.in_ok-own.own.items
    c.requires.labelled (rw (← c.deref.ensures.value) c.in_ok-level.ensures.numbered) c.in_ok-level.ensures.span c.in_ok-own.ensures.first c.in_ok-own.ensures.count)

pub returns-clause-agrees : goal.returns-clause-agrees
returns-clause-agrees c = rw (← c.deref.ensures.value) c.in_ok-level.ensures.agrees

pub returns-clause-labelled : goal.returns-clause-labelled
returns-clause-labelled c =
    labelled_above c.args.view.now c.args.below.now.block.items c.args.below.now.labels.items (IsAround c.args.sides (shape_of c.args.view.now) c.args.below.now.block.items) c.in_ok-level.level.block.items c.in_ok-level.level.keys c.in_ok-own.own.items
    c.in_ok-labels.labels.items c.requires.labelled (rw (← c.deref.ensures.value) c.in_ok-level.ensures.numbered) c.in_ok-own.ensures.first
    (rw (← c.deref-2.ensures.value, ← c.deref-3.ensures.value) c.in_ok-labels.ensures.found)

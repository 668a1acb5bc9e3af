use Rattle.block_splitting.proofs.SplitNodes.{keyed_below, can_move, parted}
use Rattle.block_splitting.proofs.parting.part.Goals as goal

pub note_all_retained-requires : goal.note_all_retained-requires
note_all_retained-requires c = record { keyed = keyed_below _ _ _ _ _ c.requires.can c.span.ensures.span }

pub choose-requires-clause-keyed : goal.choose-requires-clause-keyed
choose-requires-clause-keyed c = c.requires.can.keyed

pub move_nodes-requires-clause-can : goal.move_nodes-requires-clause-can
move_nodes-requires-clause-can c =
    can_move c.args.blocks.now c.choose.new.blocks _ _ _ _ _ _ _ c.nodes-nodes.ensures c.deref-3.ensures.value c.requires.can c.in_ok-chosen.ensures.chosen

pub returns-clause-parted : goal.returns-clause-parted
returns-clause-parted c =
    parted c.args.blocks.now c.choose.new.blocks c.move_nodes.new.blocks _ _ _ _ _ _ _ _ _ c.nodes-nodes.ensures c.deref-3.ensures.value c.deref-2.ensures.value
    c.in_ok-note_all_retained.ensures.retained_groups c.in_ok-chosen.ensures.chosen c.move_nodes.ensures.moved c.move_nodes.ensures.labels

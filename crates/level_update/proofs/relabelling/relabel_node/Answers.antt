use Rattle.std.proofs.Common.{◌∙◌}
use Rattle.level_update.proofs.JoinedNodes.{joined_node}
use Rattle.level_update.proofs.relabelling.relabel_node.Goals as goal

pub returns-clause-added : goal.returns-clause-added
returns-clause-added g c =
    let m = c.in_ok-move_to.ensures.moved in
    joined_node c.args.family.now c.args.i c.args.n c.args.label c.args.number c.in_ok-b.b c.args.draft.now c.lone_block.new.draft c.move_to.new.draft c.in_ok-b.ensures.block c.in_ok-b.ensures.label
    c.lone_block.ensures.blocks m.blocks m.labels m.keys m.over

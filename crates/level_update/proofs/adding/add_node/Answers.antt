use Rattle.std.proofs.Common.{◌∙◌}
use Rattle.level_update.proofs.JoinedNodes.{joined_node}
use Rattle.level_update.proofs.adding.add_node.Goals as goal

pub returns-clause-added : goal.returns-clause-added
returns-clause-added c =
    joined_node c.args.family.now c.args.i c.args.n c.args.label c.args.number c.in_ok-b.b c.args.draft.now c.lone_block.new.draft c.put.new.d c.in_ok-b.ensures.block c.in_ok-b.ensures.label
    c.lone_block.ensures.blocks c.in_ok-put.ensures.blocks c.put.ensures.labels c.put.ensures.keys c.put.ensures.over

pub returns-clause-supports : goal.returns-clause-supports
returns-clause-supports c = λ x y. c.put.ensures.supports x y ∙ c.lone_block.ensures.supports x y

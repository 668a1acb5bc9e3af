use Rattle.std.proofs.Common.{refl}
use Rattle.graph_spec.specs.Members.{has}
use Rattle.block_splitting.proofs.Choices.{picked_new}
use Rattle.block_splitting.proofs.choosing.choose_one.Goals as goal

pub returns-clause-picked : goal.returns-clause-picked
returns-clause-picked c =
    picked_new c.args.blocks.now c.new_block.new.self (has c.args.active_nodes.now.nodes) c.args.retained.now c.args.own c.args.k c.new_block.result c.label-label.result
    c.label-label.ensures c.new_block.ensures.least.free c.new_block.ensures.added c.new_block.ensures.labels (c.if-keeps.ensures.not_kept refl)

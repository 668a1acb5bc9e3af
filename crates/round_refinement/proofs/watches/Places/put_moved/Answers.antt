use Rattle.std.proofs.Common.{subst}
use Rattle.bisim_spec.specs.declared.sides.Side.TheVariants.{Parents, Children}
use Rattle.round_refinement.specs.Watches.{PutsBeside}
use Rattle.round_refinement.proofs.WatchLaws.{moved_node}
use Rattle.round_refinement.proofs.watches.Places.put_moved.Goals as goal

pub returns-in_ok-put_beside-2 : goal.returns-in_ok-put_beside-2
returns-in_ok-put_beside-2 g c =
    moved_node (g.G.Digraph.edge c.args.g.now) c.args.block.now c.args.watched.now c.args.q c.children.result.now c.parents.result.now c.args.self.now c.put_beside.new.self
    c.put_beside-then-is_node.new.self c.children.ensures c.parents.ensures
    (subst (λ o. PutsBeside c.args.watched.now c.children.result.now Parents o c.args.q c.args.self.now c.put_beside.new.self) c.block_of-own.ensures c.in_ok-put_beside.ensures)
    (subst (λ o. PutsBeside c.args.watched.now c.parents.result.now Children o c.args.q c.put_beside.new.self c.put_beside-then-is_node.new.self) c.block_of-own.ensures c.in_ok-put_beside-2.ensures)

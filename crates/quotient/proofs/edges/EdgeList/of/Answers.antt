use Rattle.std.proofs.Common.{arith}
use Rattle.quotient.proofs.EdgeLists.{listed_none, listed_all, listed_few}
use Rattle.quotient.proofs.edges.EdgeList.of.Goals as goal

pub loop-n-init : goal.loop-n-init
loop-n-init c = listed_none _ _ c.in_ok-edges.ensures.items

pub invariant_of-result : goal.invariant_of-result
invariant_of-result c =
    listed_few c.args.view.now.edges _ _ (let count = c.edge_count.ensures.count in let few = c.edge_count.ensures.few in omega (arith, count, few)) c.loop-n.invariant

pub returns : goal.returns
returns c =
    listed_all c.args.view.now _ _ c.edge_count.ensures.graph (let end = c.loop-n-test.false in let size = c.size-n-end.ensures.size in omega (arith, end, size)) c.loop-n.invariant

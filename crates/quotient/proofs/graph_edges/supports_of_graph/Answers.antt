use Rattle.std.proofs.Common.{◌∙◌, ◌<◌, arith, subst}
use Rattle.bisim_spec.proofs.EdgeSupports.{support_adjacent}
use Rattle.quotient.proofs.Between.{below_zero, below_most}
use Rattle.quotient.proofs.NeighbourListLaws.{support_none}
use Rattle.quotient.proofs.Pairs.{no_pairs}
use Rattle.quotient.proofs.EdgeLists.{counted_all}
use Rattle.quotient.proofs.graph_edges.supports_of_graph.Goals as goal

pub loop-n-init : goal.loop-n-init
loop-n-init c = record {
  same = λ x y.
      let none = support_none c.in_ok-supports.supports.pairs x y c.in_ok-supports.ensures in
      let waits = no_pairs c.in_ok-pairs.pairs.items x y c.in_ok-pairs.ensures.items in
      let zero = below_zero c.args.view.now.edges c.args.blocks.now.block_of x y in
      omega (arith, none, waits, zero);
}

pub count_node-requires-clause-few : goal.count_node-requires-clause-few
count_node-requires-clause-few c = let count = c.edge_count-edges.ensures.count in let few = c.edge_count-edges.ensures.few in omega (arith, count, few)

pub count_pairs-requires : goal.count_pairs-requires
count_pairs-requires c = record {
  few = λ x y.
      let is = c.loop-n.invariant.same x y in
      let most = below_most c.args.view.now.edges c.args.blocks.now.block_of c.loop-n.n x y in
      let count = c.edge_count-edges.ensures.count in
      let few = c.edge_count-edges.ensures.few in
      rw c.deref.ensures.value (omega (arith, is, most, count, few));
}

pub returns-clause-supports : goal.returns-clause-supports
returns-clause-supports c = λ a b.
    c.in_ok-count_pairs.ensures a b
    ∙ rw c.deref.ensures.value (counted_all c.args.view.now c.loop-n.n c.args.blocks.now.block_of _ _ c.edge_count-edges.ensures.graph
    (let end = c.loop-n-test.false in let size = c.size-n-end.ensures.size in omega (arith, end, size)) c.loop-n.invariant a b)

pub returns-clause-live : goal.returns-clause-live
returns-clause-live c = λ a b h.
    let m = support_adjacent c.args.view.now c.args.blocks.now.block_of a b (subst (λ n. 0 < n) (returns-clause-supports c a b) h) in
    (c.span-span.ensures.live m.0 a m.3, c.span-span.ensures.live m.1 b m.4)

use Rattle.std.proofs.Common.{◌≡◌, ℕ, List, ap, arith, take, ◌+◌}
use Rattle.std.proofs.lemmas.List.{take_all}
use Rattle.quotient.specs.QuotientNeighbours.{pairs_between}
use Rattle.quotient.proofs.EdgeLists.{between_more, between_take}
use Rattle.quotient.proofs.graph_edges.count_children.Goals as goal

pub count_batch-requires : goal.count_batch-requires
count_batch-requires c = record {
  few = λ x y.
      let so_far = c.loop-child.invariant x y in
      let added = c.in_ok-gather_edge.ensures x y in
      let more = between_more c.args.blocks.now.block_of c.args.n c.args.children.now c.loop-child.child-index x y 0 c.loop-child-test.true in
      let part = between_take c.args.blocks.now.block_of c.args.n (c.loop-child.child-index + 1) c.args.children.now x y in
      let most = c.requires.few x y in
      omega (arith, so_far, added, more, part, most);
}

pub loop-child-preserved : goal.loop-child-preserved
loop-child-preserved c = λ x y.
    let so_far = c.loop-child.invariant x y in
    let added = c.in_ok-gather_edge.ensures x y in
    let more = between_more c.args.blocks.now.block_of c.args.n c.args.children.now c.loop-child.child-index x y 0 c.loop-child-test.true in
    let same = c.in_ok-count_batch.ensures x y in
    omega (arith, so_far, added, more, same)

pub returns : goal.returns
returns c = λ x y.
    let is = c.loop-child.invariant x y in
    let all : pairs_between c.args.blocks.now.block_of c.args.n (take c.loop-child.child-index c.args.children.now) x y ≡ pairs_between c.args.blocks.now.block_of c.args.n c.args.children.now x y =
    ap (λ (cs : List ℕ). pairs_between c.args.blocks.now.block_of c.args.n cs x y)
    (take_all c.loop-child.child-index c.args.children.now (let end = c.loop-child-test.false in omega (arith, end))) in
    omega (arith, is, all)

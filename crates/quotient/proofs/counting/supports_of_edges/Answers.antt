use Rattle.std.proofs.Common.{◌∙◌, ◌<◌, ap, arith, subst, ◌+◌}
use Rattle.std.proofs.lemmas.List.{take_all}
use Rattle.bisim_spec.specs.Supports.{support}
use Rattle.quotient.proofs.NeighbourListLaws.{support_none}
use Rattle.quotient.proofs.Pairs.{no_pairs}
use Rattle.quotient.proofs.EdgeLists.{support_more, support_take, support_members}
use Rattle.quotient.proofs.counting.supports_of_edges.Goals as goal

pub loop-from-init : goal.loop-from-init
loop-from-init c = λ x y.
    let none = support_none c.in_ok-supports.supports.pairs x y c.in_ok-supports.ensures in
    let waits = no_pairs c.in_ok-pairs.pairs.items x y c.in_ok-pairs.ensures.items in
    omega (arith, none, waits)

pub count_batch-requires : goal.count_batch-requires
count_batch-requires c = record {
  few = λ x y.
      let so_far = c.loop-from.invariant x y in
      let added = c.in_ok-gather_edge.ensures x y in
      let more = support_more c.args.blocks.now.block_of c.args.edges.now c.loop-from.from-index x y (0, 0) c.loop-from-test.true in
      let few = support_take c.args.blocks.now.block_of (c.loop-from.from-index + 1) c.args.edges.now x y in
      let most = c.requires.few.most c.args.blocks.now.block_of x y in
      omega (arith, so_far, added, more, few, most);
}

pub loop-from-preserved : goal.loop-from-preserved
loop-from-preserved c = λ x y.
    let so_far = c.loop-from.invariant x y in
    let added = c.in_ok-gather_edge.ensures x y in
    let more = support_more c.args.blocks.now.block_of c.args.edges.now c.loop-from.from-index x y (0, 0) c.loop-from-test.true in
    let same = c.in_ok-count_batch.ensures x y in
    omega (arith, so_far, added, more, same)

pub count_pairs-requires : goal.count_pairs-requires
count_pairs-requires c = record {
  few = λ x y.
      let is = c.loop-from.invariant x y in
      let few = support_take c.args.blocks.now.block_of c.loop-from.from-index c.args.edges.now x y in
      let most = c.requires.few.most c.args.blocks.now.block_of x y in
      rw c.deref.ensures.value (omega (arith, is, few, most));
}

pub returns-clause-supports : goal.returns-clause-supports
returns-clause-supports c = λ a b.
    c.in_ok-count_pairs.ensures a b ∙ rw c.deref.ensures.value (c.loop-from.invariant a b)
    ∙ ap (λ es. support es c.args.blocks.now.block_of a b) (take_all c.loop-from.from-index c.args.edges.now (let end = c.loop-from-test.false in omega (arith, end)))

pub returns-clause-live : goal.returns-clause-live
returns-clause-live c = λ a b h.
    let m = support_members c.args.edges.now c.args.blocks.now.block_of a b (subst (λ n. 0 < n) (returns-clause-supports c a b) h) in
    (c.span-span.ensures.live m.0 a m.2, c.span-span.ensures.live m.1 b m.3)

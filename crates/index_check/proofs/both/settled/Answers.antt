use Rattle.std.proofs.Common.{arith}
use Rattle.bisim_spec.specs.Bisimilarity.{Both}
use Rattle.round_refinement.specs.NumberedShapes.{digraph_shape}
use Rattle.round_refinement.proofs.LevelLaws.{labels_agree, both_more, agree_as, is_shape_by_number}
use Rattle.index_check.proofs.LevelLaws.{determines_as, settled_full, counted_full, few_nodes}
use Rattle.index_check.proofs.both.settled.Goals as goal

pub loop-j-init : goal.loop-j-init
loop-j-init g c = labels_agree (g.G.Digraph.span c.args.g.now) (g.G.Digraph.label_at c.args.g.now) (g.G.Digraph.edge c.args.g.now) c.in_ok-block.block.items c.in_ok-block.ensures

pub loop-j-preserved : goal.loop-j-preserved
loop-j-preserved g c = both_more _ _ c.loop-j.j _ (omega arith) (c.in_ok-next.ensures.agrees c.loop-j.j (agree_as _ _ _ _ c.deref.ensures.value c.loop-j.invariant))

pub returns : goal.returns
returns g c =
    let s = digraph_shape g.G.Digraph c.args.g.now in
    let shape = is_shape_by_number (g.G.Digraph.span c.args.g.now) (g.G.Digraph.label_at c.args.g.now) (g.G.Digraph.edge c.args.g.now) (g.met.G.Digraph.below c.args.g.now) (g.met.G.Digraph.ends c.args.g.now) in
    counted_full s c.loop-j.block.items c.loop-j.j shape (let f = few_nodes s in let t = c.loop-j-test.false in let e = c.size-j-end.ensures in omega (arith, f, t, e)) c.loop-j.invariant

pub returns-then-stays : goal.returns-then-stays
returns-then-stays g c =
    let s = digraph_shape g.G.Digraph c.args.g.now in
    let shape = is_shape_by_number (g.G.Digraph.span c.args.g.now) (g.G.Digraph.label_at c.args.g.now) (g.G.Digraph.edge c.args.g.now) (g.met.G.Digraph.below c.args.g.now) (g.met.G.Digraph.ends c.args.g.now) in
    let next = c.in_ok-next.ensures.agrees c.loop-j.j (agree_as s c.loop-j.block.items c.deref.result.now (Both s c.loop-j.j) c.deref.ensures.value c.loop-j.invariant) in
    settled_full s c.loop-j.block.items c.in_ok-next.next.items c.loop-j.j shape c.loop-j.invariant next
    (determines_as c.deref-in-loop-j.result.now c.deref-in-loop-j-2.result.now c.loop-j.block.items c.in_ok-next.next.items c.deref-in-loop-j.ensures.value c.deref-in-loop-j-2.ensures.value
    (c.in_ok-stays.ensures.0 c.if-stays.true))

use Rattle.std.proofs.Common.{arith}
use Rattle.bisim_spec.proofs.Together.{block_below}
use Rattle.index_check.proofs.OuterKeys.{looped_more, looped_all}
use Rattle.index_check.proofs.outer.inner_labels.Goals as goal

pub loop-n-preserved : goal.loop-n-preserved
loop-n-preserved g c = rw c.in_ok-push.ensures.items (looped_more _ _ _ _ _ _ c.loop-n.invariant c.inner_label.ensures)

pub returns : goal.returns
returns g c = looped_all _ _ _ _ _ c.loop-n.invariant
    (λ m h. let below = g.met.G.Digraph.below c.args.g.now m h in let end = c.loop-n-test.false in let size = c.size-n-end.ensures in omega (arith, below, end, size))
    (λ m h. block_below c.loop-n.labels.items m h)

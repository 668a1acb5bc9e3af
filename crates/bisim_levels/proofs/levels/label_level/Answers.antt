use Rattle.std.proofs.Common.{arith, sym, true≢false}
use Rattle.label_graph.specs.ViewLaws.{below_span}
use Rattle.bisim_levels.proofs.NumberedNodes.{numbered_more, numbered_all, numbered_refines, numbered_below}
use Rattle.bisim_levels.proofs.LevelLaws.{labels_agree}
use Rattle.bisim_levels.proofs.levels.label_level.Goals as goal

pub loop-n-preserved : goal.loop-n-preserved
loop-n-preserved c = record {
  numbered = rw c.in_ok-push.ensures.items (numbered_more _ _ _ _ _ _ _ c.loop-n.invariant.numbered c.in_ok-number.ensures.ok);
  distinct = c.in_ok-number.ensures.distinct;
}

pub returns-clause-agrees : goal.returns-clause-agrees
returns-clause-agrees c =
    labels_agree c.args.view.now c.size-n-end.ensures.graph _ (numbered_refines _ _ _ _ _ (λ p n e. absurd (true≢false (sym e))) c.loop-n.invariant.distinct.apart
    (numbered_all _ _ _ _ _ c.loop-n.invariant.numbered (λ m h.
    let below = below_span c.args.view.now m h in
    let end = c.loop-n-test.false in
    let size = c.size-n-end.ensures.size in
    omega (arith, below, end, size))))

pub returns-clause-numbered : goal.returns-clause-numbered
returns-clause-numbered c =
    rw c.into_table.ensures (numbered_all _ _ _ _ _ c.loop-n.invariant.numbered (λ m h.
    let below = below_span c.args.view.now m h in
    let end = c.loop-n-test.false in
    let size = c.size-n-end.ensures.size in
    omega (arith, below, end, size)))

pub returns-clause-span : goal.returns-clause-span
returns-clause-span c = numbered_below _ _ _ _ (returns-clause-numbered c)

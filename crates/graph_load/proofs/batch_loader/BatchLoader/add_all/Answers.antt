use Rattle.std.proofs.Common.{rules}
use Rattle.std.proofs.lemmas.Result.{err_from_is_err_and}
use Rattle.graph_load.proofs.LineSteps.{left_all, left_none, left_next, left_stops, tells_map}
use Rattle.graph_load.proofs.batch_loader.BatchLoader.add_all.Goals as goal

pub loop-n-init : goal.loop-n-init
loop-n-init c = rw c.self.view_is (left_all c.args.limits.now c.args.waiting.now c.args.self.now c.requires)

pub loop-n-preserved : goal.loop-n-preserved
loop-n-preserved c =
    left_next c.args.limits.now c.args.waiting.now c.loop-n.n c.args.self.now c.loop-n.self-inside.loader c.loop-n.invariant
    c.index-waiting-n.result c.loop-n-test.true c.index-waiting-n.is c.load_next.new.loader (search rules)

pub returns-in_err-load_next-clause-stopped : goal.returns-in_err-load_next-clause-stopped
returns-in_err-load_next-clause-stopped c =
    let p = err_from_is_err_and c.from_residual-in_err-load_next.result c.from_residual-in_err-load_next.ensures.1 in
    rw (p.1, p.2) (
    tells_map _ _ (left_stops c.args.limits.now c.args.waiting.now c.loop-n.n c.args.self.now c.loop-n.self-inside.loader c.loop-n.invariant c.index-waiting-n.result c.loop-n-test.true c.index-waiting-n.is)
    c.in_err-load_next.field-0.0 c.in_err-load_next.ensures.stopped)

pub returns-clause-loaded : goal.returns-clause-loaded
returns-clause-loaded c = left_none c.args.limits.now c.args.waiting.now c.loop-n.n c.args.self.now c.loop-n.self-inside.loader c.loop-n.invariant c.loop-n-test.false

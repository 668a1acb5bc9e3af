use Rattle.std.proofs.Common.{subst}
use Rattle.graph_update.proofs.PlannedSteps.{AreLeft, can_first, left_next}
use Rattle.graph_update.proofs.staging.make_all.Goals as goal

pub make-requires : goal.make-requires
make-requires c =
    let e = c.requires.planned.0 in
    let left = subst (AreLeft e c.args.graph.now.graph c.plans.graph) c.in-Some.ensures.cases.0 (c.plans.invariant e c.requires.planned.1) in
    record { can = can_first left.rest c.plans.graph c.in-Some.plan.now c.in-Some.rest.now left.planned }

pub plans-preserved : goal.plans-preserved
plans-preserved c = λ e planned.
    left_next e c.args.graph.now.graph c.plans.graph c.make.new.graph c.in-Some.plan.now c.in-Some.rest.now
    (subst (AreLeft e c.args.graph.now.graph c.plans.graph) c.in-Some.ensures.cases.0 (c.plans.invariant e planned)) c.make.ensures.made

use Rattle.std.proofs.Common.{sym, subst, nat_eq, arith}
use Rattle.std.specs.List.{IsDistinct}
use Rattle.graph_update.specs.PendingChanges.{graph_after}
use Rattle.one_update.specs.UnsteadyNodes.{AreUnsteadyBy}
use Rattle.one_update.proofs.KeptParents.{reads_light}
use Rattle.one_update.proofs.UnsteadyLaws.{unsteady_found}
use Rattle.one_update.proofs.drafting.draft_settled.Goals as goal

pub resettle-requires-clause-targets : goal.resettle-requires-clause-targets
resettle-requires-clause-targets g c =
    unsteady_found c.args.after.now.before c.args.after.now.change c.args.base.now c.args.effects.now c.deref.result.now c.requires.before.graph c.requires.before.fits c.requires.effects
    c.requires.targets (subst (IsDistinct nat_eq) (sym c.deref.ensures) c.in_ok-found.ensures.once)
    (subst (AreUnsteadyBy c.args.base.now (graph_after c.args.after.now) c.args.effects.now) (sym c.deref.ensures) c.in_ok-found.ensures.same)

pub returns-in_err-found-clause-cost : goal.returns-in_err-found-clause-cost
returns-in_err-found-clause-cost g c =
    let light = reads_light c.args.after.now c.args.base.now c.args.effects.now _ _ c.requires.before c.requires.effects c.requires.targets c.unsteady.ensures.read in
    omega (arith, light)

pub returns-in_err-resettle-clause-cost : goal.returns-in_err-resettle-clause-cost
returns-in_err-resettle-clause-cost g c =
    let light = reads_light c.args.after.now c.args.base.now c.args.effects.now _ _ c.requires.before c.requires.effects c.requires.targets c.unsteady.ensures.read in
    let rest = c.resettle.ensures.cost in
    omega (arith, light, rest)

pub returns-clause-cost : goal.returns-clause-cost
returns-clause-cost g c =
    let light = reads_light c.args.after.now c.args.base.now c.args.effects.now _ _ c.requires.before c.requires.effects c.requires.targets c.unsteady.ensures.read in
    let rest = c.resettle.ensures.cost in
    omega (arith, light, rest)

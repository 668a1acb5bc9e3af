use Rattle.std.proofs.Common.{arith}
use Rattle.one_update.proofs.PhaseLaws.{effects_light}
use Rattle.one_update.proofs.drafting.draft_steps.Goals as goal

pub returns-in_err-effects-clause-cost : goal.returns-in_err-effects-clause-cost
returns-in_err-effects-clause-cost g c =
    let light = effects_light c.args.after.now.before c.args.after.now.change in
    let took = c.of.ensures.cost in
    omega (arith, light, took)

pub returns-in_err-draft_settled-clause-cost : goal.returns-in_err-draft_settled-clause-cost
returns-in_err-draft_settled-clause-cost g c =
    let light = effects_light c.args.after.now.before c.args.after.now.change in
    let took = c.of.ensures.cost in
    let rest = c.draft_settled.ensures.cost in
    omega (arith, light, took, rest)

pub returns-clause-cost : goal.returns-clause-cost
returns-clause-cost g c =
    let light = effects_light c.args.after.now.before c.args.after.now.change in
    let took = c.of.ensures.cost in
    let rest = c.draft_settled.ensures.cost in
    omega (arith, light, took, rest)

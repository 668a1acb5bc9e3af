use Rattle.std.proofs.Common.{◌≡◌, ◌+◌, ◌∷◌, subst, arith, drop}
use Rattle.graph_steps.specs.StepLists.{step_of}
use Rattle.graph_steps.proofs.NamedParts.{counted}
use Rattle.graph_steps.proofs.prefix.Prefix.step.Goals as goal

pub step_at-requires : goal.step_at-requires
step_at-requires c =
    let len = counted c.steps.result.now c.args.self.now c.steps.ensures in
    let below = c.requires in
    omega (arith, len, below)

pub returns : goal.returns
returns c = subst (λ k. drop c.args.i k ≡ step_of c.step_at.result.now ∷ drop (c.args.i + 1) k) c.steps.ensures c.step_at.ensures

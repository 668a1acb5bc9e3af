use Rattle.std.proofs.Common.{◌≡◌, ◌<◌, ◌+◌, ◌∷◌, sym, subst, length, drop}
use Rattle.graph_steps.specs.StepLists.{step_of}
use Rattle.graph_update.proofs.neighbours.step_at.Goals as goal

pub step-requires : goal.step-requires
step-requires c = subst (λ k. c.args.i < length k) (sym c.as_prefix.ensures) c.requires

pub returns : goal.returns
returns c = subst (λ k. drop c.args.i k ≡ step_of c.step.result.now ∷ drop (c.args.i + 1) k) c.as_prefix.ensures c.step.ensures

use Rattle.std.proofs.Common.{subst}
use Rattle.graph_update.specs.PendingChanges.{AreAhead}
use Rattle.graph_update.proofs.pending.are_ahead.Goals as goal

pub returns : goal.returns
returns c = λ yes g same. subst (λ k. AreAhead k g c.args.labels.now) c.steps-2.ensures (c.each_ahead.ensures yes g same)

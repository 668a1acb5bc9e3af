use Rattle.std.proofs.Common.{refl, Some, false}
use Rattle.fb_index.proofs.FittingView.{computed}
use Rattle.fb_index.proofs.index.FbIndexPathIndex.build.Goals as goal

pub returns-clause-built : goal.returns-clause-built
returns-clause-built c =
    record { kind = refl; ready = computed c.args.view.now (Some c.in_ok-summary.summary) c.in_ok-summary.summary false refl refl c.in_ok-summary.ensures; count = refl; full = tt }

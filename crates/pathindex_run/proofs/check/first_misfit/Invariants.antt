use Rattle.pathindex_run.specs.CheckedFiles.{FitBelow}
use Rattle.pathindex_run.proofs.check.first_misfit.Given as goal

abbrev pub invariant-loop-j : goal.invariant-loop-j
invariant-loop-j l = FitBelow l.saved l.j

use Rattle.std.proofs.Common.{length}
use Rattle.round_refinement.specs.Numbering.{AreBelow}
use Rattle.index_check.specs.ComparedLists.{AreCompared}
use Rattle.index_check.proofs.comparing.determines_with.Given as goal

abbrev pub invariant-loop-n : goal.invariant-loop-n
invariant-loop-n l = record {
  below : AreBelow l.keys (length l.first);
  compared : AreCompared l.keys l.values l.n l.first;
}

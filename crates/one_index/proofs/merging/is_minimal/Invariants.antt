use Rattle.std.proofs.Common.{◌<◌, ℕ}
use Rattle.one_index.specs.MergeTest.{HasNoMergeable}
use Rattle.one_index.proofs.merging.is_minimal.Given as goal

abbrev pub invariant-loop-a : goal.invariant-loop-a
invariant-loop-a l = (x : ℕ) → x < l.a → HasNoMergeable l.summary x

use Rattle.std.proofs.Common.{ℕ, IsTrue, take}
use Rattle.graph_spec.specs.Members.{has}
use Rattle.one_merge.specs.ShownMerges.{AreShownNotMergeable}
use Rattle.one_merge.proofs.finding.find_among.Given as goal

abbrev pub invariant-loop-i : goal.invariant-loop-i
invariant-loop-i l = (b : ℕ) → IsTrue (has (take l.i l.blocks) b) → AreShownNotMergeable l.base l.draft l.a b

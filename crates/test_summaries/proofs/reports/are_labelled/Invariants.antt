use Rattle.std.proofs.Common.{ℕ, ◌≡◌, ◌<◌, Some, length}
use Rattle.graph_spec.specs.Members.{at}
use Rattle.test_summaries.proofs.reports.are_labelled.Given as goal

abbrev pub invariant-loop-b : goal.invariant-loop-b
invariant-loop-b l = (b n : ℕ) → b < l.b → at l.summary.blocks.labels b ≡ Some n → n < length l.labels.texts

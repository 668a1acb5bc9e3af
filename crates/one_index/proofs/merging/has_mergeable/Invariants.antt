use Rattle.std.proofs.Common.{◌≡◌, ◌<◌, ℕ, Some, IsSome}
use Rattle.graph_spec.specs.Members.{at}
use Rattle.one_index.specs.MergeTest.{CanMerge}
use Rattle.one_index.proofs.merging.has_mergeable.Given as goal

abbrev pub invariant-loop-b : goal.invariant-loop-b
invariant-loop-b l = (v y : ℕ) → l.a < y → y < l.b → IsSome (at l.summary.blocks.labels y) → at l.summary.blocks.block_of v ≡ Some y → CanMerge l.summary l.a y → ⊥

use Rattle.std.proofs.Common.{◌≡◌, ◌<◌, ℕ, Some, IsSome, is_some}
use Rattle.graph_spec.specs.Graphs.{label_of}
use Rattle.graph_spec.specs.Members.{at}
use Rattle.one_index.proofs.stability.is_partition.Given as goal

abbrev pub invariant-loop-n : goal.invariant-loop-n
invariant-loop-n l = record {
  same : (n : ℕ) → n < l.n → is_some (at l.summary.blocks.block_of n) ≡ is_some (label_of l.view n);
  live : (n : ℕ) → n < l.n → (b : ℕ) → at l.summary.blocks.block_of n ≡ Some b → IsSome (at l.summary.blocks.labels b);
}

use Rattle.std.proofs.Common.{◌≡◌, ◌<◌, ℕ, List, Some, length, slice_get}
use Rattle.block_splitting.specs.Chosen.{HasFirst}
use Rattle.coarsest_partition.proofs.labels.first_numbers.Given as goal

abbrev pub invariant-loop-b : goal.invariant-loop-b
invariant-loop-b l = record {
  count : length l.first.items ≡ l.b;
  first : (b n : ℕ) (key : List ℕ) → b < l.b → slice_get l.keys b ≡ Some key → HasFirst key n → slice_get l.first.items b ≡ Some n;
}

use Rattle.std.proofs.Common.{◌≡◌, ◌<◌, ℕ, List, Some, length, slice_get}
use Rattle.ak_family.proofs.labels.own_numbers.Given as goal

abbrev pub invariant-loop-b : goal.invariant-loop-b
invariant-loop-b l = record {
  count : length l.own.items ≡ l.b;
  first : (b : ℕ) (key : List ℕ) → b < l.b → slice_get l.keys b ≡ Some key → slice_get l.own.items b ≡ slice_get key 0;
}

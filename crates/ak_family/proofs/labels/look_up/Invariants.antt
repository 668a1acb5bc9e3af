use Rattle.std.proofs.Common.{◌≡◌, ◌<◌, ℕ, Some, length, slice_get}
use Rattle.ak_family.proofs.labels.look_up.Given as goal

abbrev pub invariant-loop-n : goal.invariant-loop-n
invariant-loop-n l = record {
  count : length l.found.items ≡ l.n-index;
  found : (b n : ℕ) → b < l.n-index → slice_get l.own b ≡ Some n → slice_get l.found.items b ≡ slice_get l.labels n;
}

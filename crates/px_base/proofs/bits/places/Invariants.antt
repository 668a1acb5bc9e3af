use Rattle.std.proofs.Common.{◌≡◌, ◌<◌, length, All}
use Rattle.std.specs.Prelude.{◌++◌}
use Rattle.memchr.specs.Find.{Passes, is_byte}
use Rattle.px_base.specs.BitSets.{flags_of, places_from}
use Rattle.px_base.proofs.bits.places.Given as goal

abbrev pub invariant-loop-place : goal.invariant-loop-place
invariant-loop-place l = record {
  below : All (λ k. (k < length l.flags) × Passes (is_byte 1) l.flags k) l.place-iterator;
  listed : l.list.items ++ l.place-iterator ≡ places_from 0 (flags_of l.flags);
}

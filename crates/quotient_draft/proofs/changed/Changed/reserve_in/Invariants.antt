use Rattle.std.proofs.Common.{◌≡◌, ◌<◌, ◌≤◌, ℕ, take}
use Rattle.std.specs.Prelude.{slice_index}
use Rattle.std.specs.Map.{keys_of}
use Rattle.quotient.specs.Quotients.{view_of}
use Rattle.quotient_draft.specs.ReservedCapacity.{from_count, onto_count}
use Rattle.quotient_draft.proofs.changed.Changed.reserve_in.Given as goal

abbrev pub invariant-loop-i : goal.invariant-loop-i
invariant-loop-i l = record {
  same : view_of l.base ≡ view_of l.initial.base;
  blocks : l.base.blocks.reserved ≡ l.initial.base.blocks.reserved;
  pairs : l.base.reserved.pairs ≡ l.initial.base.reserved.pairs;
  span : l.base.reserved.span ≡ l.initial.base.reserved.span;
  children : (a : ℕ) → 0 < from_count (take l.i (keys_of l.self-inside.pairs.entries)) a → from_count (keys_of l.self-inside.pairs.entries) a ≤ slice_index l.base.reserved.children a;
  parents : (b : ℕ) → 0 < onto_count (take l.i (keys_of l.self-inside.pairs.entries)) b → onto_count (keys_of l.self-inside.pairs.entries) b ≤ slice_index l.base.reserved.parents b;
}

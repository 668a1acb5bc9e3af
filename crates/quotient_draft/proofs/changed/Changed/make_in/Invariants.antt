use Rattle.std.proofs.Common.{◌≡◌, ◌+◌, ◌≤◌, ℕ, take, length}
use Rattle.std.specs.Prelude.{slice_index}
use Rattle.std.specs.Map.{keys_of}
use Rattle.quotient_draft.specs.Drafts.{with_supports}
use Rattle.quotient_draft.specs.ReservedCapacity.{from_count, onto_count}
use Rattle.quotient_draft.proofs.changed.Changed.make_in.Given as goal

abbrev pub invariant-loop-i : goal.invariant-loop-i
invariant-loop-i l = record {
  blocks : l.base.blocks ≡ l.initial.base.blocks;
  supports : l.base.supports ≡ with_supports l.initial.base.supports (take l.i l.self-inside.pairs.entries);
  pairs : length l.self-inside.pairs.entries ≤ l.base.reserved.pairs + l.i;
  children : (a : ℕ) → from_count (keys_of l.self-inside.pairs.entries) a ≤ slice_index l.base.reserved.children a + from_count (take l.i (keys_of l.self-inside.pairs.entries)) a;
  parents : (b : ℕ) → onto_count (keys_of l.self-inside.pairs.entries) b ≤ slice_index l.base.reserved.parents b + onto_count (take l.i (keys_of l.self-inside.pairs.entries)) b;
}

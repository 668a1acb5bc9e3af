use Rattle.std.proofs.Common.{◌≡◌, ℕ, [], length, IsTrue}
use Rattle.std.specs.Prelude.{slice_index_or}
use Rattle.graph_spec.specs.Members.{has}
use Rattle.walk_proof.proofs.sources.no_sources.Given as goal

abbrev pub invariant-loop : goal.invariant-loop
invariant-loop l = record {
  count : length l.sources.items ≡ l.counter;
  none : (k n : ℕ) → IsTrue (has (slice_index_or l.sources.items k []) n) → ⊥;
}

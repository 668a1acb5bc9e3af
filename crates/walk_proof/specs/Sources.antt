-- For each state those that lead to it.
use Rattle.std.specs.Prelude.{ℕ, ◌≡◌, ◌⊎◌, List, [], slice_index_or, Option, None, Some, IsTrue}
use Rattle.graph_spec.specs.Members.{has}
use Rattle.path_automaton.specs.declared.state.State.{State}
use Rattle.path_automaton.specs.declared.state.State.TheVariants.{End, Stuck, Any, Label, Fork}

-- the state leads to the next one, by a label or by none
abbrev pub Leads : Option State → ℕ → Type 0
Leads None k = ⊥
Leads (Some End) k = ⊥
Leads (Some Stuck) k = ⊥
Leads (Some (Any next)) k = k ≡ next
Leads (Some (Label l next)) k = k ≡ next
Leads (Some (Fork a b)) k = (k ≡ a) ⊎ (k ≡ b)

-- the pairs of the kind are added, the first of each to the list of the second
pub record Adds (P : ℕ → ℕ → Type 0) (before after : List (List ℕ)) : Type 0 where
  -- what was on a list stays there
  pub kept : (s k : ℕ) → IsTrue (has (slice_index_or before k []) s) → IsTrue (has (slice_index_or after k []) s)
  -- each pair of the kind is there
  pub added : (s k : ℕ) → P s k → IsTrue (has (slice_index_or after k []) s)
  -- nothing else has come
  pub fresh : (s k : ℕ) → IsTrue (has (slice_index_or after k []) s) → IsTrue (has (slice_index_or before k []) s) ⊎ P s k

-- the lists have just the states that lead to each
pub record AreSources (at : ℕ → Option State) (sources : List (List ℕ)) : Type 0 where
  -- each state that leads to another is on its list
  pub from : (s k : ℕ) → Leads (at s) k → IsTrue (has (slice_index_or sources k []) s)
  -- nothing else is
  pub only : (s k : ℕ) → IsTrue (has (slice_index_or sources k []) s) → Leads (at s) k

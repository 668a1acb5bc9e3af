-- Sets of states of an automaton.
use Rattle.std.specs.Prelude.{ℕ, ◌≡◌, ◌<◌, ◌⊎◌, ◌++◌, List, Option, IsTrue}
use Rattle.graph_spec.specs.Members.{has}
use Rattle.path_automaton.specs.declared.state.State.{State}
use Rattle.path_automaton.specs.NewMarks.{Enters}
use Rattle.walk_spec.specs.Ways.{Takes}

-- the listed numbers are below the size, and are the members of the set
pub record AreStates (size : ℕ) (members list : List ℕ) : Type 0 where
  -- each listed state is below the size
  pub below : (s : ℕ) → IsTrue (has list s) → s < size
  -- a state is a member exactly if it is listed
  pub agree : (s : ℕ) → has members s ≡ has list s

-- further states of the kind are listed behind those that were
pub record Enlarges (P : ℕ → Type 0) (before after : List ℕ) : Type 0 where
  -- the list begins as before
  pub front : (more : List ℕ) × (after ≡ before ++ more)
  -- each listed state was listed before, or is of the kind
  pub fresh : (s : ℕ) → IsTrue (has after s) → IsTrue (has before s) ⊎ P s

-- the second state is entered from the first, by any number of forks
pub data ForkedTo (at : ℕ → Option State) (s : ℕ) : ℕ → Type 0 where
  here : ForkedTo at s s
  onward : (r k : ℕ) → ForkedTo at s r → Enters (at r) k → ForkedTo at s k

-- the states are those of a kind, and all that are entered from these
pub record AreClosed (at : ℕ → Option State) (P : ℕ → Type 0) (states : List ℕ) : Type 0 where
  -- each state of the kind is listed
  pub first : (s : ℕ) → P s → IsTrue (has states s)
  -- what is entered from a listed state is listed
  pub closed : (s k : ℕ) → IsTrue (has states s) → Enters (at s) k → IsTrue (has states k)
  -- each listed state is entered from one of the kind, by any number of forks
  pub source : (k : ℕ) → IsTrue (has states k) → (s : ℕ) × P s × ForkedTo at s k

-- behind the label of the node, from one of these states
abbrev pub Behind : (ℕ → Option State) → (ℕ → Option ℕ) → List ℕ → ℕ → ℕ → Type 0
Behind at label_at from c k = (s : ℕ) × IsTrue (has from s) × Takes label_at (at s) c k

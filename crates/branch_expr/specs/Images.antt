-- Sets before and after a call, and what a relation leads to from a set.
use Rattle.std.specs.Prelude.{ℕ, ◌↔◌, Bool, List, IsTrue}
use Rattle.graph_spec.specs.Members.{has}

-- the number is in the set
abbrev pub IsMember : List ℕ → ℕ → Type 0
IsMember set v = IsTrue (has set v)

-- the set has just the numbers of the kind
abbrev pub HasJust : List ℕ → (ℕ → Type 0) → Type 0
HasJust set P = (v : ℕ) → IsTrue (has set v) ↔ P v

-- just the members of the kind stay
abbrev pub Keeps : List ℕ → List ℕ → (ℕ → Type 0) → Type 0
Keeps old new P = (v : ℕ) → IsTrue (has new v) ↔ (IsTrue (has old v) × P v)

-- just the members of the kind go
abbrev pub Loses : List ℕ → List ℕ → (ℕ → Type 0) → Type 0
Loses old new P = (v : ℕ) → IsTrue (has new v) ↔ (IsTrue (has old v) × (P v → ⊥))

-- an edge leads to it from a number of the kind
abbrev pub HasParent : (ℕ → ℕ → Bool) → (ℕ → Type 0) → ℕ → Type 0
HasParent edge P c = (v : ℕ) × P v × IsTrue (edge v c)

-- the image of a kind of numbers under a relation
abbrev pub Image : (ℕ → ℕ → Type 0) → (ℕ → Type 0) → ℕ → Type 0
Image R P c = (v : ℕ) × P v × R v c

-- Marked pairs of a state and a place, and lists of pairs.
use Rattle.std.specs.Prelude.{ℕ, ◌≡◌, ◌<◌, ◌⊎◌, ◌++◌, ◌||◌, nat_eq, true, false, List, [], ◌∷◌, length, slice_index_or, IsTrue}
use Rattle.graph_spec.specs.Members.{has}
use Rattle.px_base.specs.BitSets.{BitSet}
use Rattle.walk_proof.specs.declared.marks.Pair.{Pair}

-- the marks of a state
abbrev pub row : List BitSet → ℕ → BitSet
row rows s = slice_index_or rows s (record { size = 0; members = [] })

-- what a row keeps: all marks are in the table, or all are listed
pub record AreMarks (width : ℕ) (many : BitSet) (few : List ℕ) : Type 0 where
  -- the table has the width and nothing is listed, or the table is empty
  pub kept : ((many.size ≡ width) × (few ≡ [])) ⊎ ((many.size ≡ 0) × (many.members ≡ []))
  -- each place that is listed is below the width
  pub below : (m : ℕ) → IsTrue (has few m) → m < width

-- the state is marked at the place
abbrev pub IsMarked : List BitSet → ℕ → ℕ → Type 0
IsMarked rows s c = IsTrue (has (row rows s).members c)

-- the state at the place is listed
abbrev pub Among : List Pair → ℕ → ℕ → Type 0
Among [] s c = ⊥
Among (p ∷ ps) s c = ((p.state ≡ s) × (p.place ≡ c)) ⊎ Among ps s c

-- there is a row of this width for each of so many states
pub record HasMarkRows (states width : ℕ) (rows : List BitSet) : Type 0 where
  -- there is a row for each state
  pub count : length rows ≡ states
  -- each has this width
  pub wide : (s : ℕ) → s < states → (row rows s).size ≡ width

-- the place is marked in a row, and where it wasn't before, the pair is listed
pub record NotesIn (state place : ℕ) (before after : BitSet) (layer layer2 : List Pair) : Type 0 where
  -- the place is marked, and what was marked is so still
  pub members : (c : ℕ) → has after.members c ≡ (nat_eq c place || has before.members c)
  -- the pair was marked and nothing is listed, or it is listed last
  pub listed : ((has before.members place ≡ true) × (layer2 ≡ layer))
      ⊎ ((has before.members place ≡ false) × (layer2 ≡ layer ++ record { state = state; place = place } ∷ []))

-- further pairs of the kind are marked, and those are listed behind the others
pub record Notes (P : ℕ → ℕ → Type 0) (rows rows2 : List BitSet) (layer layer2 : List Pair) : Type 0 where
  -- there are as many rows
  pub count : length rows2 ≡ length rows
  -- each as wide as before
  pub sizes : (s : ℕ) → (row rows2 s).size ≡ (row rows s).size
  -- new pairs are listed behind the others
  pub front : (more : List Pair) × (layer2 ≡ layer ++ more)
  -- what was marked is so still
  pub grows : (s c : ℕ) → IsMarked rows s c → IsMarked rows2 s c
  -- what is newly marked is listed
  pub fresh : (s c : ℕ) → IsMarked rows2 s c → IsMarked rows s c ⊎ Among layer2 s c
  -- what is newly listed is of the kind, wasn't marked, and is
  pub source : (s c : ℕ) → Among layer2 s c → Among layer s c ⊎ (P s c × (IsMarked rows s c → ⊥) × IsMarked rows2 s c)

-- the pairs of the kind aren't marked any more
pub record IsCleared (P : ℕ → ℕ → Type 0) (rows rows2 : List BitSet) : Type 0 where
  -- there are as many rows
  pub count : length rows2 ≡ length rows
  -- each as wide as before
  pub sizes : (s : ℕ) → (row rows2 s).size ≡ (row rows s).size
  -- a pair that isn't of the kind stays marked
  pub kept : (s c : ℕ) → IsMarked rows s c → (P s c → ⊥) → IsMarked rows2 s c
  -- a pair that is marked was so, and isn't of the kind
  pub source : (s c : ℕ) → IsMarked rows2 s c → IsMarked rows s c × (P s c → ⊥)

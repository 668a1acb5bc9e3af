-- The other ends of the pairs that begin, or end, at a block.
use Rattle.std.specs.Prelude.{◌≡◌, ℕ, List, [], ◌∷◌, ◌++◌, Some, None, cond, nat_eq, if◌then◌else◌}
use Rattle.std.specs.List.{IsDistinct, filter_map}
use Rattle.std.specs.Option.{option_map_or}
use Rattle.std.specs.Map.{lookup}
use Rattle.smallvec.specs.SmallVec.{SmallVec}
use Rattle.quotient_draft.specs.Drafts.{is_pair}

-- the ends of the pairs that begin at a
abbrev pub ends_from : List (ℕ × ℕ) → ℕ → List ℕ
ends_from pairs a = filter_map (λ p. cond (nat_eq a p.0) (Some p.1) None) pairs

-- the beginnings of the pairs that end at b
abbrev pub ends_onto : List (ℕ × ℕ) → ℕ → List ℕ
ends_onto pairs b = filter_map (λ p. cond (nat_eq b p.1) (Some p.0) None) pairs

-- the ends that are noted for a block, and none if it isn't in the table
abbrev pub listed : List (ℕ × SmallVec ℕ) → ℕ → List ℕ
listed ends b = option_map_or (λ v. v.items) (lookup (nat_eq b) ends) []

-- for each block the same ends are noted
abbrev pub HaveSameEnds : List (ℕ × SmallVec ℕ) → List (ℕ × SmallVec ℕ) → Type 0
HaveSameEnds old new = (x : ℕ) → listed new x ≡ listed old x

-- one more end is noted, for this block
abbrev pub NotesEnd : ℕ → ℕ → List (ℕ × SmallVec ℕ) → List (ℕ × SmallVec ℕ) → Type 0
NotesEnd b end old new = (x : ℕ) → listed new x ≡ listed old x ++ (if nat_eq x b then end ∷ [] else [])

-- what was noted last for this block is taken back
abbrev pub TakesBack : ℕ → List (ℕ × SmallVec ℕ) → List (ℕ × SmallVec ℕ) → Type 0
TakesBack b old new = (before : List (ℕ × SmallVec ℕ)) (end : ℕ) → NotesEnd b end before old → HaveSameEnds before new

-- the pairs differ, and their ends are noted
pub record AreNoted (pairs : List (ℕ × ℕ)) (from onto : List (ℕ × SmallVec ℕ)) : Type 0 where
  -- no pair stands twice
  pub once : IsDistinct is_pair pairs
  -- for each block the other ends of the pairs that begin there are noted
  pub from_are : (a : ℕ) → listed from a ≡ ends_from pairs a
  -- and of those that end there
  pub onto_are : (b : ℕ) → listed onto b ≡ ends_onto pairs b

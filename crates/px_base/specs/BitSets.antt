-- A set of numbers below a size.
use Rattle.std.specs.Prelude.{◌≡◌, ℕ, ◌+◌, ◌<◌, ◌≤◌, Bool, true, false, List, [], ◌∷◌, map, nat_eq, if◌then◌else◌}
use Rattle.graph_spec.specs.Members.{has}

-- the size, and the members below it
pub record BitSet : Type 0 where
  -- the numbers are below it
  pub size : ℕ
  -- the numbers in the set, rising
  pub members : List ℕ

-- which bytes are 1
abbrev pub flags_of : List ℕ → List Bool
flags_of bytes = map (λ b. nat_eq b 1) bytes

-- the places of the flags that are set, where the first flag has this place
abbrev pub places_from : ℕ → List Bool → List ℕ
places_from n [] = []
places_from n (b ∷ bs) = if b then n ∷ places_from (n + 1) bs else places_from (n + 1) bs

-- m is the least member that is at least n
pub record IsNext (members : List ℕ) (n m : ℕ) : Type 0 where
  -- m is a member
  pub member : has members m ≡ true
  -- it is no less than n
  pub from : n ≤ m
  -- nothing between is a member
  pub first : (k : ℕ) → n ≤ k → k < m → has members k ≡ false

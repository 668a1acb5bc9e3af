-- How many of the nodes that are examined are in each block.
use Rattle.std.specs.Prelude.{◌≡◌, ℕ, Bool, false, List, Option, None, Some, nat_eq, not, unwrap_or, count_by}
use Rattle.quotient_draft.specs.MoveTables.{counted}
use Rattle.std.specs.List.{IsDistinct}
use Rattle.std.specs.Map.{lookup}
use Rattle.graph_spec.specs.Members.{at, is_this}

-- whether the node is in the block
abbrev pub is_in : List (Option ℕ) → ℕ → ℕ → Bool
is_in p b n = is_this b (at p n)

-- the nodes are distinct, and for each block those that are in it are counted
pub record AreCounted (p : List (Option ℕ)) (looked : List ℕ) (counts : List (ℕ × ℕ)) : Type 0 where
  -- no node stands twice
  pub once : IsDistinct nat_eq looked
  -- the count of a block is the number of these nodes in it
  pub each : (b : ℕ) → counted counts b ≡ count_by (is_in p b) looked

-- whether the block, if there is one, has not just one member
abbrev pub is_shared : List (Option ℕ) → Option ℕ → Bool
is_shared p None = false
is_shared p (Some b) = not (nat_eq (count_by (is_this b) p) 1)

-- whether the node shares its block with another one
abbrev pub shares_block : List (Option ℕ) → ℕ → Bool
shares_block p n = is_shared p (at p n)

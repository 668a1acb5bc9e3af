-- How the puts into blocks are linked.
use Rattle.std.specs.Prelude.{◌≡◌, ℕ, zero, suc, ◌≤◌, Bool, true, false, List, length, Option, None, Some, ◌&&◌, is_none, cond, nat_eq, slice_get, slice_index}
use Rattle.std.specs.List.{list_any, IsDistinct}
use Rattle.std.specs.Map.{lookup, keys_of}
use Rattle.graph_spec.specs.Members.{at, is_this}
use Rattle.quotient_draft.specs.Drafts.{is_pair}
use Rattle.quotient_draft.specs.MoveTables.{counted, into_count}

-- whether the node was put into the block
abbrev pub has_put : List (ℕ × ℕ) → ℕ → ℕ → Bool
has_put puts n b = list_any (is_pair (n, b)) puts

-- whether a put goes into the block
abbrev pub goes_to : ℕ → Option (ℕ × ℕ) → Bool
goes_to b None = false
goes_to b (Some p) = nat_eq b p.1

-- the place, plus 1, of the last of the first puts that goes into the block, and 0 where there is none
abbrev pub last_put : List (ℕ × ℕ) → ℕ → ℕ → ℕ
last_put puts b zero = 0
last_put puts b (suc k) = cond (goes_to b (slice_get puts k)) (suc k) (last_put puts b k)

-- each put is linked to the one before it into the same block, and the last one of each block is in a table
pub record AreLinked (puts : List (ℕ × ℕ)) (before : List ℕ) (last : List (ℕ × ℕ)) : Type 0 where
  -- there is a link for each put
  pub len : length before ≡ length puts
  -- it leads to the last put before it into the same block
  pub links : (i b : ℕ) → goes_to b (slice_get puts i) ≡ true → slice_index before i ≡ last_put puts b i
  -- the table has the last put into each block
  pub ends : (b : ℕ) → counted last b ≡ last_put puts b (length puts)

-- The moves are of distinct nodes. For each block those that go into it are counted, those that are taken from it are no more
-- than there are moves, and each node that goes into a block was put into it.
pub record AreMoves (moves : List (ℕ × Option ℕ)) (into taken : List (ℕ × ℕ)) (puts : List (ℕ × ℕ)) : Type 0 where
  -- no node has two moves
  pub once : IsDistinct nat_eq (keys_of moves)
  -- for each block the nodes that go into it are counted
  pub into_are : (b : ℕ) → counted into b ≡ into_count moves b
  -- no more are taken from a block than there are moves
  pub few : (b : ℕ) → counted taken b ≤ length moves
  -- each node that goes into a block was put into it
  pub put : (n b : ℕ) → lookup (nat_eq n) moves ≡ Some (Some b) → has_put puts n b ≡ true

-- whether there is a move, and it goes to the block
abbrev pub is_target : ℕ → Option (Option ℕ) → Bool
is_target b None = false
is_target b (Some v) = is_this b v

-- whether the node is moved, and into the block
abbrev pub is_moved_to : List (ℕ × Option ℕ) → ℕ → ℕ → Bool
is_moved_to moves b n = is_target b (lookup (nat_eq n) moves)

-- whether the node has the block in the base, and isn't moved
abbrev pub is_kept : List (Option ℕ) → List (ℕ × Option ℕ) → ℕ → ℕ → Bool
is_kept block moves b n = is_none (lookup (nat_eq n) moves) && is_this b (at block n)

-- How moves are kept.
use Rattle.std.specs.Prelude.{◌≡◌, ℕ, List, Option, nat_eq, unwrap_or, count_by, ◌<◌, Some}
use Rattle.std.specs.Map.{lookup}
use Rattle.graph_spec.specs.Members.{at, is_this}
use Rattle.quotient_draft.specs.Drafts.{with_moves}

-- the moves of nodes, with the blocks that they left
pub record KeptMoves : Type 0 where
  -- for each node that is moved the block where it goes, none where it goes to none
  pub moves : List (ℕ × Option ℕ)
  -- the blocks that nodes have left
  pub left : List ℕ
  -- for each block of the base how many of its members are moved
  pub taken : List (ℕ × ℕ)

-- how many are counted for a block, and none if it isn't in the table
abbrev pub counted : List (ℕ × ℕ) → ℕ → ℕ
counted counts b = unwrap_or (lookup (nat_eq b) counts) 0

-- how many of the moved nodes go into a block
abbrev pub into_count : List (ℕ × Option ℕ) → ℕ → ℕ
into_count moves b = count_by (λ e. is_this b e.1) moves

-- and how many of them have it in the base
abbrev pub taken_count : List (Option ℕ) → List (ℕ × Option ℕ) → ℕ → ℕ
taken_count block moves b = count_by (λ e. is_this b (at block e.0)) moves

-- the table has, for each block of the base, how many of its members are moved
abbrev pub AreTaken : List (Option ℕ) → List (ℕ × Option ℕ) → List (ℕ × ℕ) → Type 0
AreTaken block moves taken = (b : ℕ) → counted taken b ≡ taken_count block moves b

-- where for each block its moved members were counted, they still are
abbrev pub StayTaken : List (Option ℕ) → KeptMoves → KeptMoves → Type 0
StayTaken block old new = AreTaken block old.moves old.taken → AreTaken block new.moves new.taken

-- whatever the blocks of the base: a node is shown where its move leads, and where it has none, in its own block
abbrev pub AreLookedUp : List (ℕ × Option ℕ) → Type 0
AreLookedUp moves = (block : List (Option ℕ)) (n : ℕ) → at (with_moves block moves) n ≡ unwrap_or (lookup (nat_eq n) moves) (at block n)

-- nodes that are moved into blocks have numbers below this one
abbrev pub MovedBelow : ℕ → List (ℕ × Option ℕ) → Type 0
MovedBelow most moves = (n b : ℕ) → lookup (nat_eq n) moves ≡ Some (Some b) → n < most

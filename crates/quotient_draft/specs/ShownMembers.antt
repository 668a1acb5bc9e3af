-- The members of a block as shown, one after another.
use Rattle.std.specs.Prelude.{◌≡◌, ℕ, Bool, List, [], ◌∷◌, ◌++◌, Option, None, Some, is_none, nat_eq, unwrap_or}
use Rattle.std.specs.List.{filter}
use Rattle.std.specs.Map.{lookup}
use Rattle.quotient_draft.specs.PutLogs.{is_moved_to}

-- whether the node isn't moved
abbrev pub is_unmoved : List (ℕ × Option ℕ) → ℕ → Bool
is_unmoved moves n = is_none (lookup (nat_eq n) moves)

-- those of the base's members that stay, if it has any, and those of the moved nodes that go into the block
abbrev pub members_left : List (ℕ × Option ℕ) → ℕ → Option (List ℕ) → List ℕ → List ℕ
members_left moves b kept moved = filter (is_unmoved moves) (unwrap_or kept []) ++ filter (is_moved_to moves b) moved

-- what was given, if anything was, is the first of what was left before, and the rest is left
abbrev pub IsTaken : List ℕ → Option ℕ → List ℕ → Type 0
IsTaken before None rest = (before ≡ []) × (rest ≡ [])
IsTaken before (Some n) rest = before ≡ n ∷ rest

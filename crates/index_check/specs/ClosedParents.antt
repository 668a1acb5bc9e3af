-- The parents of a node, and the node.
use Rattle.std.specs.Prelude.{ℕ, ◌&&◌, ◌||◌, Bool, List, Option, is_some, nat_eq}
use Rattle.graph_spec.specs.Members.{at}

-- p is a parent of n, or is n and has a block
abbrev pub is_closed_parent : List (Option ℕ) → (ℕ → ℕ → Bool) → ℕ → ℕ → Bool
is_closed_parent block edge p n = edge p n || (nat_eq p n && is_some (at block p))

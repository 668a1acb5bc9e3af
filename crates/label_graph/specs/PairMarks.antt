-- The marks of the pairs for which capacity is reserved.
use Rattle.std.specs.Prelude.{◌≡◌, ℕ, ◌%◌, Bool, true, false, List, slice_set, get_or}
use Rattle.label_graph.specs.ReservedGraphs.{starting, ending}

-- the mark of the node is set, or there are too few marks for it
abbrev pub is_marked : List Bool → ℕ → Bool
is_marked marks n = get_or marks (n % 1024) true

-- the marks with another one for the node
abbrev pub marked : List Bool → ℕ → Bool → List Bool
marked marks n on = slice_set marks (n % 1024) on

-- no pair begins at a node whose mark isn't set, and none ends at one whose other mark isn't
pub record AreMarked (begin end : List Bool) (pairs : List (ℕ × ℕ)) : Type 0 where
  -- no pair begins at a node without the first mark
  pub begins : (w : ℕ) → is_marked begin w ≡ false → starting w pairs ≡ 0
  -- none ends at a node without the second one
  pub ends : (w : ℕ) → is_marked end w ≡ false → ending w pairs ≡ 0

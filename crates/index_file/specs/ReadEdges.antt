-- The edges of a file as they are read.
use Rattle.std.specs.Prelude.{ℕ, List, [], ◌∷◌, Option, None, Some, IsTrue, ⊤}
use Rattle.index_file.specs.Readings.{is_behind, is_live_in}

-- each edge stands behind the one before it, and the first behind the last one before them
abbrev pub RiseBehind : Option (ℕ × ℕ) → List (ℕ × ℕ) → Type 0
RiseBehind last [] = ⊤
RiseBehind last (e ∷ es) = IsTrue (is_behind last e.0 e.1) × RiseBehind (Some e) es

-- edges lead from live nodes to live nodes
abbrev pub JoinLive : List (Option (List ℕ)) → List (ℕ × ℕ) → Type 0
JoinLive allocated [] = ⊤
JoinLive allocated (e ∷ es) = IsTrue (is_live_in allocated e.0) × IsTrue (is_live_in allocated e.1) × JoinLive allocated es

-- the pairs rise, and each joins live nodes
pub record AreReadEdges (allocated : List (Option (List ℕ))) (pairs : List (ℕ × ℕ)) : Type 0 where
  -- the pairs rise
  pub rise : RiseBehind None pairs
  -- each joins live nodes
  pub live : JoinLive allocated pairs

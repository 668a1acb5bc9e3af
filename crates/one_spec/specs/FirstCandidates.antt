-- Blocks that are examined first when pairs are merged after a split.
use Rattle.std.specs.Prelude.{◌≡◌, ℕ, Bool, List, Option, Some, IsTrue}
use Rattle.graph_spec.specs.Members.{has, at}

-- the blocks that were made, and those of the targets, are among the merge candidates
pub record AreFirstCandidates (from : ℕ → Bool) (p : List (Option ℕ)) (new_blocks merge_candidates : List ℕ) : Type 0 where
  -- each block that was made is a candidate
  pub new_there : (b : ℕ) → IsTrue (has new_blocks b) → IsTrue (has merge_candidates b)
  -- so is the block of each target
  pub targets_there : (t b : ℕ) → IsTrue (from t) → at p t ≡ Some b → IsTrue (has merge_candidates b)

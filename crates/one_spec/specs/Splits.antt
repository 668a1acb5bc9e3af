-- What splitting makes of a partition.
use Rattle.std.specs.Prelude.{◌≡◌, ◌⊎◌, ℕ, Bool, List, Option, Some, IsTrue, nat_eq}
use Rattle.std.specs.List.{IsDistinct}
use Rattle.graph_spec.specs.Members.{has, at}
use Rattle.graph_spec.specs.Shapes.{Shape, IsNode, IsParent}
use Rattle.bisim_spec.specs.Partitions.{Together}
use Rattle.bisim_spec.specs.Stability.{StableBut}
use Rattle.one_spec.specs.SplitRoundSteps.{IsRefinement, SameBut}

-- children of what passes pass
pub record IsClosed (s : Shape) (inside : ℕ → Bool) : Type 0 where
  -- a child of a node inside is inside
  pub children : (p n : ℕ) → IsTrue (inside p) → IsParent s p n → IsTrue (inside n)

-- After some rounds: the partition is stable except perhaps at the nodes that are examined next, lies within the first
-- one, and is the same outside; the blocks that were made have members, all of them inside.
pub record IsSplitInside (s : Shape) (inside : ℕ → Bool) (first p : List (Option ℕ)) (next new_blocks : List ℕ) : Type 0 where
  -- stable, except perhaps at the nodes that are examined next
  pub stable : StableBut s p (has next)
  -- each block lies within one of the first partition
  pub within : IsRefinement first p
  -- outside, nodes are together exactly where they were in the first partition
  pub same : SameBut first p inside
  -- nodes that are together have one label
  pub labels : (u v : ℕ) → Together p u v → s.label u ≡ s.label v
  -- what is examined next are nodes
  pub next_nodes : (n : ℕ) → IsTrue (has next n) → IsNode s n
  -- each of them is inside
  pub next_inside : (n : ℕ) → IsTrue (has next n) → IsTrue (inside n)
  -- each is a child of a node inside
  pub next_from : (n : ℕ) → IsTrue (has next n) → (q : ℕ) × IsTrue (inside q) × IsParent s q n
  -- each node is in a block that was made, or in its block of the first partition
  pub moved_new : (n b : ℕ) → at p n ≡ Some b → IsTrue (has new_blocks b) ⊎ (at first n ≡ Some b)
  -- no block that was made is listed twice
  pub new_once : IsDistinct nat_eq new_blocks
  -- members of these blocks lie inside
  pub new_inside : (b n : ℕ) → IsTrue (has new_blocks b) → at p n ≡ Some b → IsTrue (inside n)
  -- each of these blocks has a member
  pub new_some : (b : ℕ) → IsTrue (has new_blocks b) → (n : ℕ) × (at p n ≡ Some b)

-- Blocks that are merged, one pair after another.
use Rattle.std.specs.Prelude.{◌≡◌, ◌≢◌, ◌⊎◌, ℕ, List, Option, Some}
use Rattle.graph_spec.specs.Members.{at}
use Rattle.graph_spec.specs.Shapes.{Shape, IsParent}
use Rattle.bisim_spec.specs.Stability.{Mergeable, merged_at}

-- two blocks with members, which can be merged
pub record IsMergeablePair (s : Shape) (p : List (Option ℕ)) (a b : ℕ) : Type 0 where
  -- they are two blocks
  pub apart : a ≢ b
  -- the one has a member
  pub first : (n : ℕ) × (at p n ≡ Some a)
  -- so has the other
  pub second : (n : ℕ) × (at p n ≡ Some b)
  -- the partition is stable once they are one block
  pub can : Mergeable s p a b

-- p2 is p once b is replaced by a
pub record IsMerged (a b : ℕ) (p p2 : List (Option ℕ)) : Type 0 where
  -- a node of b is in a now, and each other node is where it was
  pub blocks : (n : ℕ) → at p2 n ≡ merged_at a b (at p n)

-- p2 results from p by merging pairs of blocks, each of which can be merged when its turn comes
pub data Merges (s : Shape) (p : List (Option ℕ)) : List (Option ℕ) → Type 0 where
  none : Merges s p p
  one_more : (q p2 : List (Option ℕ)) (a b : ℕ) → Merges s p q → IsMergeablePair s q a b → IsMerged a b q p2 → Merges s p p2

-- of each two blocks that can be merged one is among these
pub record AreMergeCandidates (s : Shape) (p : List (Option ℕ)) (among : ℕ → Type 0) : Type 0 where
  -- of two blocks that can be merged one is among these
  pub one : (a b : ℕ) → IsMergeablePair s p a b → among a ⊎ among b

-- some edge leads from a member of a to a member of c
pub record IsChildBlock (s : Shape) (p : List (Option ℕ)) (a c : ℕ) : Type 0 where
  -- the node where the edge begins
  pub from : ℕ
  -- the node where it ends
  pub onto : ℕ
  -- it leads from the one to the other
  pub edge : IsParent s from onto
  -- the first is a member of a
  pub from_at : at p from ≡ Some a
  -- the second is a member of c
  pub onto_at : at p onto ≡ Some c

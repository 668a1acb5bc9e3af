-- Stable partitions, and those with no two blocks that can be merged. Source: T. Milo and D. Suciu, ICDT 1999 (the 1-index),
-- and K. Yi, H. He, I. Stanoi and J. Yang, "Incremental Maintenance of XML Structural Indexes", SIGMOD 2004 (minimal
-- 1-indexes, kept by splitting and merging blocks).
use Rattle.std.specs.Prelude.{ℕ, ◌≡◌, ◌≢◌, Bool, false, List, Option, None, Some, IsFalse, map, nat_eq, if◌then◌else◌}
use Rattle.graph_spec.specs.Shapes.{Shape, IsParent, IsChild}
use Rattle.bisim_spec.specs.Bisimilarity.{Covers}
use Rattle.graph_spec.specs.Members.{at}
use Rattle.bisim_spec.specs.Partitions.{Together, IsPartition}

-- Stable except perhaps at some nodes: exactly the nodes have a block, and of any two others in one block the labels
-- are equal, and each parent of the one is in one block with some parent of the other.
pub record StableBut (s : Shape) (block : List (Option ℕ)) (but : ℕ → Bool) : Type 0 where
  -- exactly the nodes have a block
  pub partition : IsPartition s block
  -- two nodes of one block, neither of them excepted, have one label
  pub label : (u v : ℕ) → IsFalse (but u) → IsFalse (but v) → Together block u v → s.label u ≡ s.label v
  -- each parent of the one is in one block with some parent of the other
  pub parents : (u v : ℕ) → IsFalse (but u) → IsFalse (but v) → Together block u v → Covers (IsParent s) (Together block) u v

-- stable at all nodes
abbrev pub Stable : Shape → List (Option ℕ) → Type 0
Stable s block = StableBut s block (λ n. false)

-- stable, and with children as with parents
pub record StableBoth (s : Shape) (block : List (Option ℕ)) : Type 0 where
  -- the partition is stable
  pub stable : Stable s block
  -- of two nodes in one block, each child of the one is in one block with some child of the other
  pub children : (u v : ℕ) → Together block u v → Covers (IsChild s) (Together block) u v

-- a node's block, once b is replaced by a
abbrev pub merged_at : ℕ → ℕ → Option ℕ → Option ℕ
merged_at a b None = None
merged_at a b (Some c) = Some (if nat_eq c b then a else c)

-- the partition in which each b is replaced by a
abbrev pub merged : ℕ → ℕ → List (Option ℕ) → List (Option ℕ)
merged a b block = map (merged_at a b) block

-- the two blocks can be merged: the partition is stable once they are one
abbrev pub Mergeable : Shape → List (Option ℕ) → ℕ → ℕ → Type 0
Mergeable s block a b = Stable s (merged a b block)

-- No two distinct blocks can be merged. That the partition is stable is not said here.
pub record Minimal (s : Shape) (block : List (Option ℕ)) : Type 0 where
  -- two blocks that both have members can't be merged
  pub apart : (u v a b : ℕ) → at block u ≡ Some a → at block v ≡ Some b → a ≢ b → Mergeable s block a b → ⊥

-- Rounds in which blocks are split.
use Rattle.std.specs.Prelude.{◌≡◌, ℕ, Bool, List, Option, Some, None, IsTrue, IsFalse}
use Rattle.graph_spec.specs.Members.{at}
use Rattle.graph_spec.specs.Shapes.{Shape, IsParent}
use Rattle.bisim_spec.specs.Bisimilarity.{Covers}
use Rattle.bisim_spec.specs.Partitions.{Together}

-- the two may stand in one block: they have one label, and each parent of the one is together with some parent of the other
pub record MayStayTogether (s : Shape) (p : List (Option ℕ)) (u v : ℕ) : Type 0 where
  -- they have one label
  pub label : s.label u ≡ s.label v
  -- each parent of u is together with some parent of v
  pub parents : Covers (IsParent s) (Together p) u v

-- Some nodes are moved, the others stay; nodes that are together then were alike before; and the children of moved nodes
-- are examined next.
pub record IsSplitRound (s : Shape) (p p2 : List (Option ℕ)) (moved next : ℕ → Bool) : Type 0 where
  -- a node that isn't moved stays in its block
  pub kept : (n : ℕ) → IsFalse (moved n) → at p2 n ≡ at p n
  -- nodes that are together then have one label, and had parents that were together
  pub parted : (u v : ℕ) → Together p2 u v → MayStayTogether s p u v
  -- each child of a moved node is examined next
  pub listed : (q n : ℕ) → IsTrue (moved q) → IsParent s q n → IsTrue (next n)

-- each block of p2 lies within one of p
pub record IsRefinement (p p2 : List (Option ℕ)) : Type 0 where
  -- nodes that are together in p2 are together in p
  pub within : (u v : ℕ) → Together p2 u v → Together p u v

-- nodes that don't pass are together in the one exactly where they are in the other
pub record SameBut (p p2 : List (Option ℕ)) (but : ℕ → Bool) : Type 0 where
  -- from p to p2
  pub into : (u v : ℕ) → IsFalse (but u) → IsFalse (but v) → Together p u v → Together p2 u v
  -- from p2 to p
  pub back : (u v : ℕ) → IsFalse (but u) → IsFalse (but v) → Together p2 u v → Together p u v

-- Where the nodes that are examined go: each is of a group, whose nodes were together and alike; a group goes to a block of
-- its own that had no members, or stays; it stays only where all nodes of its block are examined, and as the one group of
-- that block.
pub record AreTargetBlocks (s : Shape) (p p2 : List (Option ℕ)) (looked : ℕ → Bool) (group : ℕ → ℕ) (target_block : ℕ → Option ℕ) : Type 0 where
  -- only nodes that are examined go to another block
  pub only : (n b : ℕ) → target_block n ≡ Some b → IsTrue (looked n)
  -- a node that goes is in that block then
  pub moved : (n b : ℕ) → target_block n ≡ Some b → at p2 n ≡ Some b
  -- each other node is where it was
  pub kept : (n : ℕ) → target_block n ≡ None → at p2 n ≡ at p n
  -- the block had no members
  pub fresh : (n m b : ℕ) → target_block n ≡ Some b → at p m ≡ Some b → ⊥
  -- nodes that go to one block are of one group
  pub tells : (n m b : ℕ) → target_block n ≡ Some b → target_block m ≡ Some b → group n ≡ group m
  -- the nodes of a group were together
  pub together : (n m : ℕ) → IsTrue (looked n) → IsTrue (looked m) → group n ≡ group m → Together p n m
  -- and could stay so
  pub alike : (n m : ℕ) → IsTrue (looked n) → IsTrue (looked m) → group n ≡ group m → MayStayTogether s p n m
  -- a group stays only if all nodes of its block are examined
  pub whole : (n m : ℕ) → IsTrue (looked n) → target_block n ≡ None → Together p n m → IsTrue (looked m)
  -- and only one group of a block stays
  pub one : (n m : ℕ) → IsTrue (looked n) → IsTrue (looked m) → target_block n ≡ None → target_block m ≡ None → Together p n m → group n ≡ group m
  -- a node that goes leaves one behind in its block
  pub left : (n b : ℕ) → target_block n ≡ Some b → (m : ℕ) × Together p n m × (target_block m ≡ None)

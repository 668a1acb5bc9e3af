-- Blocks that are chosen for groups of nodes.
use Rattle.std.specs.Prelude.{ℕ, ◌≡◌, ◌+◌, ◌<◌, ◌≤◌, ◌∷◌, ◌⊎◌, Bool, true, false, List, length, Option, Some, None, slice_get, slice_index}
use Rattle.graph_spec.specs.Members.{at}
use Rattle.block_partition.specs.LabelledPartitions.{Partition, IsBlock, block_count}

-- the first number of the key
pub record HasFirst (key : List ℕ) (number : ℕ) : Type 0 where
  -- the numbers behind the first one
  pub around : List ℕ
  -- the key is this number and then those
  pub is : key ≡ number ∷ around

-- the first number of each key that has one
abbrev pub AreFirstNumbers : List (List ℕ) → List ℕ → Type 0
AreFirstNumbers keys first = (b n : ℕ) (key : List ℕ) → slice_get keys b ≡ Some key → HasFirst key n → slice_get first b ≡ Some n

-- all members of the block are active
pub record AreAllActive (block : List (Option ℕ)) (active : ℕ → Bool) (b : ℕ) : Type 0 where
  -- each node of the block is active
  pub each : (n : ℕ) → at block n ≡ Some b → active n ≡ true

-- the group k keeps the number of its block own: it is the block's retained group, and all members are active
pub record IsKept (block : List (Option ℕ)) (active : ℕ → Bool) (retained : List ℕ) (own k c : ℕ) : Type 0 where
  -- the block of the group is the one in which it was
  pub same : c ≡ own
  -- the group is the retained one of that block
  pub keeps : slice_index retained own ≡ k
  -- all members of the block are active
  pub all : AreAllActive block active own

-- why the group doesn't keep its block's number: it isn't the retained group, or a member isn't active
pub record IsNotKept (block : List (Option ℕ)) (active : ℕ → Bool) (retained : List ℕ) (own k : ℕ) : Type 0 where
  -- the group isn't the retained one, or some member isn't active
  pub why : (slice_index retained own ≡ k → ⊥) ⊎ ((n : ℕ) × (at block n ≡ Some own) × (active n ≡ false))

-- a number that was free became a block, with the label of this one
pub record IsNewBlock (old new : Partition) (own c : ℕ) : Type 0 where
  -- the number was free
  pub free : at old.labels c ≡ None
  -- it is a block now
  pub live : IsBlock new c
  -- its label is that of the old block
  pub label : at new.labels c ≡ at old.labels own
  -- no other block is new
  pub only : (b : ℕ) → IsBlock new b → IsBlock old b ⊎ (b ≡ c)
  -- there is one block more
  pub count : block_count new ≡ block_count old + 1

-- a block for one group
pub record IsPicked (old new : Partition) (active : ℕ → Bool) (retained : List ℕ) (own k c : ℕ) : Type 0 where
  -- nodes stay where they are
  pub nodes : new.block_of ≡ old.block_of
  -- blocks keep their labels
  pub stay : (b : ℕ) → IsBlock old b → at new.labels b ≡ at old.labels b
  -- the group keeps its block, and nothing changes, or its block is new, and it couldn't keep the old one
  pub choice : (IsKept old.block_of active retained own k c × (new ≡ old)) ⊎ (IsNewBlock old new own c × IsNotKept old.block_of active retained own k)

-- Blocks for the first groups. No two groups have one; each has its own block's label, and is that block where the group keeps
-- it, and else was free.
pub record AreChosen (old new : Partition) (active : ℕ → Bool) (keys : List (List ℕ)) (first : ℕ) (retained chosen : List ℕ) : Type 0 where
  -- a block is chosen for each of the first groups
  pub count : length chosen ≡ first
  -- nodes stay where they are
  pub nodes : new.block_of ≡ old.block_of
  -- blocks keep their labels
  pub stay : (b : ℕ) → IsBlock old b → at new.labels b ≡ at old.labels b
  -- each chosen one is a block
  pub live : (k : ℕ) → k < first → IsBlock new (slice_index chosen k)
  -- a group keeps its block if it may, else the chosen one was free
  pub each : (k own : ℕ) (key : List ℕ) → k < first → slice_get keys k ≡ Some key → HasFirst key own
      → IsKept old.block_of active retained own k (slice_index chosen k)
      ⊎ ((at old.labels (slice_index chosen k) ≡ None) × IsNotKept old.block_of active retained own k)
  -- the chosen block has the label of the group's old block
  pub label : (k own : ℕ) (key : List ℕ) → k < first → slice_get keys k ≡ Some key → HasFirst key own → at new.labels (slice_index chosen k) ≡ at old.labels own
  -- no other blocks are new
  pub only : (b : ℕ) → IsBlock new b → IsBlock old b ⊎ ((k : ℕ) × (k < first) × (slice_index chosen k ≡ b))
  -- no block is chosen twice
  pub apart : (j k : ℕ) → j < first → k < first → slice_index chosen j ≡ slice_index chosen k → j ≡ k
  -- there are no fewer blocks than before
  pub mono : block_count old ≤ block_count new
  -- if there are as many, each group keeps its block
  pub none_new : block_count new ≡ block_count old → (k own : ℕ) (key : List ℕ) → k < first → slice_get keys k ≡ Some key → HasFirst key own
      → slice_index chosen k ≡ own

-- of the first keys, each one's block has a retained group among them that is a group of this block
pub record RetainedBelow (keys : List (List ℕ)) (first : ℕ) (retained : List ℕ) : Type 0 where
  -- the block of each of these keys has a retained group, whose key is among them and begins with the same block
  pub each : (i own : ℕ) (key : List ℕ) → i < first → slice_get keys i ≡ Some key → HasFirst key own
      → (j : ℕ) × (kept : List ℕ) × (j < first) × (slice_index retained own ≡ j) × (slice_get keys j ≡ Some kept) × HasFirst kept own

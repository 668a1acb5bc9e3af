-- Where the groups of nodes with one key go.
use Rattle.std.specs.Prelude.{◌≡◌, ◌⊎◌, ℕ, ◌<◌, ◌≤◌, List, Option, Some, None, length, slice_get, slice_index, slice_index_or, IsTrue, IsFalse, IsSome, ◌++◌, ◌∷◌, [], nat_eq, count_by, Bool, ◌&&◌, ◌||◌, is_some, if◌then◌else◌}
use Rattle.quotient_draft.specs.MoveTables.{counted}
use Rattle.std.specs.List.{IsDistinct}
use Rattle.graph_spec.specs.Members.{at, has, is_this}
use Rattle.graph_spec.specs.Shapes.{Shape, IsParent}

-- the key begins with this number, the block of its nodes
pub record BeginsAt (keys : List (List ℕ)) (k own : ℕ) : Type 0 where
  -- the numbers behind the first one
  pub around : List ℕ
  -- the key at place k is this number and then those
  pub found : slice_get keys k ≡ Some (own ∷ around)

-- as many nodes are counted for the block as it has members
abbrev pub IsCountedWhole : List (Option ℕ) → List (ℕ × ℕ) → ℕ → Type 0
IsCountedWhole p counts own = counted counts own ≡ count_by (is_this own) p

-- The groups with numbers below the length of the target blocks: one stays where all members of its block are counted,
-- and no other group of that block stays; any other goes to a block that had no members, and leaves a group behind, or
-- a node that isn't counted.
pub record AreGroupTargetBlocks (p : List (Option ℕ)) (counts : List (ℕ × ℕ)) (keys : List (List ℕ)) (target_blocks : List (Option ℕ)) : Type 0 where
  -- a group stays only if all members of its block are counted
  pub whole : (k own : ℕ) → k < length target_blocks → at target_blocks k ≡ None → BeginsAt keys k own → IsCountedWhole p counts own
  -- and only one group of a block stays
  pub one : (j k own : ℕ) → j < length target_blocks → k < length target_blocks → at target_blocks j ≡ None
      → at target_blocks k ≡ None → BeginsAt keys j own → BeginsAt keys k own → j ≡ k
  -- a group that goes leaves a group of its block behind, or a member that isn't counted
  pub left : (k own b : ℕ) → at target_blocks k ≡ Some b → BeginsAt keys k own
      → (IsCountedWhole p counts own → ⊥)
      ⊎ ((j : ℕ) × (j < length target_blocks) × (at target_blocks j ≡ None) × BeginsAt keys j own)
  -- the block to which it goes had no members
  pub fresh : (k n b : ℕ) → at target_blocks k ≡ Some b → at p n ≡ Some b → ⊥
  -- no other group goes there
  pub tells : (j k b : ℕ) → at target_blocks j ≡ Some b → at target_blocks k ≡ Some b → j ≡ k

-- where the group stays, all members of its block are counted, and the block is noted, for the first time
abbrev pub StaysIf : List (Option ℕ) → List (ℕ × ℕ) → ℕ → List ℕ → List ℕ → Option ℕ → Type 0
StaysIf p counts own stays stays2 None =
    IsFalse (has stays own) × (stays2 ≡ stays ++ own ∷ []) × IsCountedWhole p counts own
StaysIf p counts own stays stays2 (Some b) = Unit {0}

-- where it goes, it goes to a block that was none, and leaves a group that stays, or a node that isn't counted
abbrev pub GoesIf : List (Option ℕ) → (ℕ → Option ℕ) → (ℕ → Option ℕ)
    → List (ℕ × ℕ) → ℕ → List ℕ → List ℕ → Option ℕ → Type 0
GoesIf p labels labels2 counts own stays stays2 None = Unit {0}
GoesIf p labels labels2 counts own stays stays2 (Some b) =
    (stays2 ≡ stays) × ((n : ℕ) → at p n ≡ Some b → ⊥) × (labels b ≡ None) × IsSome (labels2 b)
    × (IsTrue (has stays own) ⊎ (IsCountedWhole p counts own → ⊥))

-- The nodes before the i-th have gone where their groups go, and the others have stayed.
pub record HaveGone (p p2 : List (Option ℕ)) (nodes numbers : List ℕ) (target_blocks : List (Option ℕ)) (i : ℕ) : Type 0 where
  -- each of these nodes whose group goes to a block is there
  pub moved : (j b : ℕ) → j < i → at target_blocks (slice_index numbers j) ≡ Some b → at p2 (slice_index nodes j) ≡ Some b
  -- each other node is where it was
  pub kept : (m : ℕ) → ((j b : ℕ) → j < i → slice_index nodes j ≡ m → at target_blocks (slice_index numbers j) ≡ Some b → ⊥)
      → at p2 m ≡ at p m

-- the list has the children of those of the nodes before the i-th that have gone
pub record ListsChildrenOf (s : Shape) (nodes numbers : List ℕ) (target_blocks : List (Option ℕ)) (i : ℕ) (next : List ℕ) : Type 0 where
  -- each child of such a node is on the list
  pub into : (j b m : ℕ) → j < i → at target_blocks (slice_index numbers j) ≡ Some b → IsParent s (slice_index nodes j) m
      → IsTrue (has next m)
  -- nothing else is
  pub from : (m : ℕ) → IsTrue (has next m)
      → (j : ℕ) × (b : ℕ) × (j < i) × (at target_blocks (slice_index numbers j) ≡ Some b) × IsParent s (slice_index nodes j) m

-- target blocks are blocks of the draft
pub record TargetBlocksExist (target_blocks : List (Option ℕ)) (labels : ℕ → Option ℕ) : Type 0 where
  -- a block to which a group goes has a label
  pub some : (k b : ℕ) → at target_blocks k ≡ Some b → IsSome (labels b)

-- distinct blocks
pub record AreBlocks (labels : ℕ → Option ℕ) (new_blocks : List ℕ) : Type 0 where
  -- none is listed twice
  pub once : IsDistinct nat_eq new_blocks
  -- each has a label
  pub some : (b : ℕ) → IsTrue (has new_blocks b) → IsSome (labels b)

-- the target blocks are put behind those that were made
pub record AreAdded (target_blocks : List (Option ℕ)) (new_blocks new_blocks2 : List ℕ) : Type 0 where
  -- each of the new list was in the old one, or is a target block
  pub from : (b : ℕ) → IsTrue (has new_blocks2 b)
      → IsTrue (has new_blocks b) ⊎ ((k : ℕ) × (k < length target_blocks) × (at target_blocks k ≡ Some b))
  -- if there is a target block, the list is longer than before
  pub more : (k b : ℕ) → at target_blocks k ≡ Some b → length new_blocks < length new_blocks2
  -- it is never shorter
  pub least : length new_blocks ≤ length new_blocks2
  -- what was in it stays
  pub keeps : (b : ℕ) → IsTrue (has new_blocks b) → IsTrue (has new_blocks2 b)
  -- each target block is in it
  pub holds : (k b : ℕ) → at target_blocks k ≡ Some b → IsTrue (has new_blocks2 b)

-- a target block has the label of the block from which its group comes
pub record TargetBlocksHaveLabels (keys : List (List ℕ)) (target_blocks : List (Option ℕ)) (labels labels2 : ℕ → Option ℕ) : Type 0 where
  -- if the block from which the group comes has a label, the target block has the same
  pub is : (k own b d : ℕ) → at target_blocks k ≡ Some b → BeginsAt keys k own → labels own ≡ Some d → labels2 b ≡ Some d

-- labels that blocks have stay
pub record LabelsStay (labels labels2 : ℕ → Option ℕ) : Type 0 where
  -- a block that has a label keeps it
  pub kept : (c d : ℕ) → labels c ≡ Some d → labels2 c ≡ Some d

-- members are in blocks
pub record MembersHaveLabels (p : List (Option ℕ)) (labels : ℕ → Option ℕ) : Type 0 where
  -- the block of each node has a label
  pub some : (n b : ℕ) → at p n ≡ Some b → IsSome (labels b)

-- the block has this label, and all others have the labels that they had
abbrev pub SetsLabel : ℕ → ℕ → (ℕ → Option ℕ) → (ℕ → Option ℕ) → Type 0
SetsLabel b label labels labels2 = (c : ℕ) → labels2 c ≡ (if nat_eq c b then Some label else labels c)

-- a block to which a group goes has the label of the block from which it comes
abbrev pub TakesLabel : ℕ → Option ℕ → (ℕ → Option ℕ) → (ℕ → Option ℕ) → Type 0
TakesLabel own target_block labels labels2 = (b : ℕ) → target_block ≡ Some b → labels2 b ≡ labels own

-- the node goes to the block, if there is one, and all others stay
abbrev pub GoesTo : ℕ → Option ℕ → List (Option ℕ) → List (Option ℕ) → Type 0
GoesTo n target_block p p2 = (m : ℕ) → at p2 m ≡ (if nat_eq m n && is_some target_block then target_block else at p m)

-- where the node goes to a block, its children are put into the list
abbrev pub ListsChildrenIf : (ℕ → ℕ → Bool) → ℕ → Option ℕ → List ℕ → List ℕ → Type 0
ListsChildrenIf leads n target_block next next2 = (m : ℕ) → has next2 m ≡ (has next m || (is_some target_block && leads n m))

-- Nodes that went to the blocks of their groups.
use Rattle.std.specs.Prelude.{ℕ, ◌≡◌, ◌<◌, Bool, true, false, List, length, Option, Some, IsSome, slice_get, slice_index, ◌⊎◌, ◌++◌, ◌∷◌, []}
use Rattle.graph_spec.specs.Members.{at}
use Rattle.block_partition.specs.LabelledPartitions.{Partition, IsBlock}
use Rattle.block_splitting.specs.Chosen.{HasFirst, AreChosen, RetainedBelow}

-- the nodes that are seen have a block, and one is chosen for their group
pub record CanMove (p : Partition) (seen : ℕ → Bool) (group chosen : List ℕ) : Type 0 where
  -- each node that is seen has a block
  pub has_block : (n : ℕ) → seen n ≡ true → IsSome (at p.block_of n)
  -- and a group
  pub below : (n : ℕ) → seen n ≡ true → n < length group
  -- a block is chosen for that group
  pub grouped : (n : ℕ) → seen n ≡ true → slice_index group n < length chosen
  -- each chosen one is a block
  pub live : (k : ℕ) → k < length chosen → IsBlock p (slice_index chosen k)

-- the nodes that are seen are where they go, and the others stay; and which nodes moved
pub record AreMoved (seen : ℕ → Bool) (target : ℕ → ℕ) (old new : List (Option ℕ)) (moved : ℕ → Bool) : Type 0 where
  -- each node that is seen is where it goes
  pub there : (n : ℕ) → seen n ≡ true → at new n ≡ Some (target n)
  -- each other node is where it was
  pub others : (n : ℕ) → seen n ≡ false → at new n ≡ at old n
  -- a node that isn't marked as moved is where it was
  pub still : (n : ℕ) → moved n ≡ false → at new n ≡ at old n
  -- one that is marked isn't
  pub went : (n : ℕ) → moved n ≡ true → at new n ≡ at old n → ⊥

-- the node is put behind those that moved, unless it was in the block already
abbrev pub NotesMove : List (Option ℕ) → ℕ → ℕ → List ℕ → List ℕ → Type 0
NotesMove block n to moved moved2 = ((at block n ≡ Some to) × (moved2 ≡ moved)) ⊎ ((at block n ≡ Some to → ⊥) × (moved2 ≡ moved ++ n ∷ []))

-- the nodes that are seen went to the blocks that are chosen for their groups
abbrev pub WentToChosen : (ℕ → Bool) → List ℕ → List ℕ → List (Option ℕ) → List (Option ℕ) → (ℕ → Bool) → Type 0
WentToChosen seen group chosen old new moved = AreMoved seen (λ n. slice_index chosen (slice_index group n)) old new moved

-- the nodes that are seen have a block and the number of a key; keys begin with the number of a block
pub record CanPart (p : Partition) (seen : ℕ → Bool) (keys : List (List ℕ)) (group : List ℕ) : Type 0 where
  -- each node that is seen has a block
  pub has_block : (n : ℕ) → seen n ≡ true → IsSome (at p.block_of n)
  -- and a group
  pub below : (n : ℕ) → seen n ≡ true → n < length group
  -- there is a key for that group
  pub grouped : (n : ℕ) → seen n ≡ true → slice_index group n < length keys
  -- each key begins with the number of a block
  pub keyed : (k : ℕ) (key : List ℕ) → slice_get keys k ≡ Some key → (own : ℕ) × HasFirst key own × IsBlock p own

-- the nodes that are seen went to the blocks that were chosen for the numbers of their keys
pub record AreParted (old new : Partition) (seen : ℕ → Bool) (keys : List (List ℕ)) (group : List ℕ) (moved : ℕ → Bool) : Type 0 where
  -- the partition with the new blocks, before nodes move
  pub middle : Partition
  -- for each block its retained group, and for each group the block that is chosen
  pub retained : List ℕ
  pub chosen : List ℕ
  -- the retained group of a block is one of its groups
  pub retained_groups : RetainedBelow keys (length keys) retained
  -- the chosen blocks are distinct, and a group keeps its block if it may
  pub chosen_are : AreChosen old middle seen keys (length keys) retained chosen
  -- each node that is seen is in the block chosen for its group, and each other node is where it was
  pub moved_are : AreMoved seen (λ n. slice_index chosen (slice_index group n)) old.block_of new.block_of moved
  -- labels are those before nodes moved
  pub labels : new.labels ≡ middle.labels

-- Parents of a node in other blocks, and in its own.
use Rattle.std.specs.Prelude.{ℕ, ◌≡◌, ◌&&◌, not, Bool, List, Option, Some, None, IsTrue, slice_get, if◌then◌else◌}
use Rattle.graph_spec.specs.Members.{at, is_this}
use Rattle.bisim_spec.specs.Partitions.{Together}
use Rattle.bisim_spec.specs.Tests.{together}
use Rattle.bisim_spec.specs.declared.sides.Side.TheVariants.{Parents}
use Rattle.bisim_spec.specs.NodeKeys.{IsKey}
use Rattle.round_refinement.specs.NeighbourSides.{is_neighbour}
use Rattle.bisim_spec.specs.Refinement.{Share, StayTogether}

-- p is a parent of n in another block
abbrev pub is_outer_parent : List (Option ℕ) → (ℕ → ℕ → Bool) → ℕ → ℕ → Bool
is_outer_parent block edge p n = edge p n && not (together block p n)

-- some parent of the node is in its block
abbrev pub HasInnerParent : List (Option ℕ) → (ℕ → ℕ → Bool) → ℕ → Type 0
HasInnerParent block edge n = (p : ℕ) × IsTrue (edge p n) × Together block p n

-- the label of n, where it has a parent in its block, and none where it has none
pub record IsInnerLabel (block : List (Option ℕ)) (label : ℕ → Option ℕ) (edge : ℕ → ℕ → Bool) (n : ℕ) (o : Option ℕ) : Type 0 where
  -- if there is one, it is the label of n, and n has a parent in its block
  pub some : (x : ℕ) → o ≡ Some x → (label n ≡ Some x) × HasInnerParent block edge n
  -- if n has a label and such a parent, it is that label
  pub every : (x : ℕ) → label n ≡ Some x → HasInnerParent block edge n → o ≡ Some x

-- the labels of the nodes that have a parent in their own block, and none for others
pub record AreInnerLabels (block : List (Option ℕ)) (label : ℕ → Option ℕ) (edge : ℕ → ℕ → Bool) (inner : List (Option ℕ)) : Type 0 where
  -- a label that is there is that of the node, which has a parent in its own block
  pub some : (n x : ℕ) → at inner n ≡ Some x → (label n ≡ Some x) × HasInnerParent block edge n
  -- the label of each such node is there
  pub every : (n x p : ℕ) → label n ≡ Some x → IsTrue (edge p n) → Together block p n → at inner n ≡ Some x

-- the block if it isn't the own one, else none
abbrev pub outer_block : Option ℕ → Option ℕ → Option ℕ
outer_block own None = None
outer_block own (Some b) = if is_this b own then None else Some b

-- the block of p, if it isn't that of n
abbrev pub outer_block_at : List (Option ℕ) → ℕ → ℕ → Option ℕ
outer_block_at block n p = outer_block (at block n) (at block p)

-- a key of the node, by all its parents, is in the table
pub record HasWholeKey (own : ℕ → Option ℕ) (block : List (Option ℕ)) (edge : ℕ → ℕ → Bool) (keys : List (List ℕ)) (n : ℕ) : Type 0 where
  -- the place of the key in the table
  pub number : ℕ
  -- the key
  pub key : List ℕ
  -- it stands at that place
  pub stands : slice_get keys number ≡ Some key
  -- it is the node's, by all its parents
  pub is : IsKey own block (is_neighbour Parents edge) n key

-- the parents of u are in the same blocks as those parents of v that are in other blocks than v
pub record MatchesOuter (block : List (Option ℕ)) (edge : ℕ → ℕ → Bool) (u v : ℕ) : Type 0 where
  -- each parent of u is in one block with some parent of v outside the block of v
  pub there : (p : ℕ) → IsTrue (edge p u) → (q : ℕ) × IsTrue (is_outer_parent block edge q v) × Together block p q
  -- each such parent of v is in one block with some parent of u
  pub back : (q : ℕ) → IsTrue (is_outer_parent block edge q v) → (p : ℕ) × IsTrue (edge p u) × Together block q p

-- Nodes with one number are in one block, if their parents in other blocks than their own are in the same blocks; and never are those of the
-- one in the same blocks as all parents of the other.
pub record TellsByOuter (own : ℕ → Option ℕ) (block : List (Option ℕ)) (edge : ℕ → ℕ → Bool) : Type 0 where
  -- two nodes with one number, whose parents outside their blocks are in the same blocks, are in one block
  pub same : (u v : ℕ) → StayTogether own block (is_outer_parent block edge) u v → at block u ≡ at block v
  -- if two nodes have one number, all parents of the one are never in the same blocks as just those of the other outside its block
  pub apart : (u v : ℕ) → Share own u v → MatchesOuter block edge u v → ⊥

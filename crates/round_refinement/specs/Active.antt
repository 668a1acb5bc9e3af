-- Rounds over the active nodes: those of which a neighbour went to another block.
use Rattle.std.specs.Prelude.{ℕ, suc, ◌≡◌, ◌≢◌, ◌<◌, ◌&&◌, ◌||◌, Bool, true, false, List, length, Option, None, Some, IsSome, IsTrue, nat_lt, slice_index_or}
use Rattle.std.specs.List.{list_any}
use Rattle.std.specs.List.Sorted.{IsStrictlyIncreasing}
use Rattle.graph_spec.specs.Shapes.{Shape}
use Rattle.graph_spec.specs.Members.{at, has}
use Rattle.bisim_spec.specs.Bisimilarity.{Matched, Both, FB}
use Rattle.bisim_spec.specs.Partitions.{Together, IsPartition, Agrees}
use Rattle.bisim_spec.specs.declared.sides.Side.TheVariants.{Parents, Children}
use Rattle.round_refinement.specs.NeighbourSides.{is_neighbour}

-- the number at a place, and 0 past the end
abbrev pub number_in : List ℕ → ℕ → ℕ
number_in xs i = slice_index_or xs i 0

-- no finer than full bisimilarity by parents and children
pub record IsCoarse (s : Shape) (block : List (Option ℕ)) : Type 0 where
  -- exactly the nodes have a block
  pub partition : IsPartition s block
  -- nodes that are bisimilar both ways are together
  pub together : (u v : ℕ) → FB s u v → Together block u v

-- a level by parents and children, and the one above it
pub record AreLevels (s : Shape) (block next : List (Option ℕ)) : Type 0 where
  -- the lower of the two
  pub level : ℕ
  -- the one shows this level, the other the next
  pub is_level : Agrees s block (Both s level)
  pub is_next : Agrees s next (Both s (suc level))

-- the nodes whose block is another one now
pub record AreMoves (before now : List (Option ℕ)) (moved : List ℕ) : Type 0 where
  -- each of these has another block now
  pub why : (n : ℕ) → has moved n ≡ true → at now n ≢ at before n
  -- there is no other such node
  pub every : (n : ℕ) → at now n ≢ at before n → has moved n ≡ true

-- a partition on the way to full bisimilarity, the one before the last round, and the nodes that it moved
pub record IsOnTheWay (s : Shape) (before now : List (Option ℕ)) (moved : List ℕ) : Type 0 where
  -- neither partition is finer than full bisimilarity
  pub was_coarse : IsCoarse s before
  pub coarse : IsCoarse s now
  -- these are the nodes whose block is another one now
  pub moves : AreMoves before now moved

-- the same after a round over the partition old
pub record IsNextWay (s : Shape) (old before now : List (Option ℕ)) (moved : List ℕ) : Type 0 where
  -- the two partitions and these nodes are on the way
  pub way : IsOnTheWay s before now moved
  -- the partition before the round is the old one
  pub was : (n : ℕ) → at before n ≡ at old n

-- with a node of these all that are bisimilar to it are among them
abbrev pub IsClosed : Shape → List ℕ → Type 0
IsClosed s nodes = (u v : ℕ) → FB s u v → has nodes u ≡ true → has nodes v ≡ true

-- the two are in one block, before and now
abbrev pub StayTogether : List (Option ℕ) → List (Option ℕ) → ℕ → ℕ → Type 0
StayTogether before now u v = Together before u v × Together now u v

-- the two are in one block, and each neighbour of the one stayed together with one of the other, on both sides
pub record AreAlike (edge : ℕ → ℕ → Bool) (before now : List (Option ℕ)) (u v : ℕ) : Type 0 where
  -- the two are in one block
  pub own : Together now u v
  -- each parent of the one stayed with some parent of the other, and the other way round
  pub parents : Matched (λ p n. IsTrue (is_neighbour Parents edge p n)) (StayTogether before now) u v
  -- so did their children
  pub children : Matched (λ p n. IsTrue (is_neighbour Children edge p n)) (StayTogether before now) u v

-- each active node has a group, and nodes that are related have the same
pub record AreGrouped (R : ℕ → ℕ → Type 0) (active groups : List ℕ) : Type 0 where
  -- there is a group for each active node
  pub length_is : length groups ≡ length active
  -- related ones have the same group
  pub alike : (i j : ℕ) → i < length active → j < length active → R (number_in active i) (number_in active j) → number_in groups i ≡ number_in groups j

-- the block of a node, once it has this number
abbrev pub renamed : Option ℕ → ℕ → Option ℕ
renamed None name = None
renamed (Some b) name = Some name

-- the block of the active node at a place, once groups have these names
abbrev pub renamed_at : List (Option ℕ) → List ℕ → List ℕ → List ℕ → ℕ → Option ℕ
renamed_at block active groups names i = renamed (at block (number_in active i)) (number_in names (number_in groups i))

-- these are the first so many active nodes, those whose block changes
pub record AreMoved (block : List (Option ℕ)) (active groups names : List ℕ) (count : ℕ) (moved : List ℕ) : Type 0 where
  -- each of these is one of the first so many, and its new block isn't its old one
  pub why : (n : ℕ) → has moved n ≡ true → (i : ℕ) × (i < count) × (number_in active i ≡ n) × (renamed_at block active groups names i ≢ at block n)
  -- each such node is among these
  pub every : (i : ℕ) → i < count → renamed_at block active groups names i ≢ at block (number_in active i) → has moved (number_in active i) ≡ true

-- the first so many active nodes are in the blocks of their groups' names, and the others are where they were
pub record AreRenamed (old new : List (Option ℕ)) (active groups names : List ℕ) (count : ℕ) : Type 0 where
  -- each of the first so many, if it had a block, is in the one with the name of its group
  pub applied : (i : ℕ) → i < count → at new (number_in active i) ≡ renamed_at old active groups names i
  -- each other node is where it was
  pub others : (n : ℕ) → ((i : ℕ) → i < count → number_in active i ≢ n) → at new n ≡ at old n

-- whether the block has more than one member, by a table of their counts
abbrev pub is_shared : List ℕ → Option ℕ → Bool
is_shared members None = false
is_shared members (Some b) = nat_lt 1 (number_in members b)

-- the nodes below n
pub record AreAllNodes (block : List (Option ℕ)) (n : ℕ) (nodes : List ℕ) : Type 0 where
  -- each of these has a block
  pub only : (m : ℕ) → has nodes m ≡ true → IsSome (at block m)
  -- each number below n that has one is among these
  pub every : (m : ℕ) → m < n → IsSome (at block m) → has nodes m ≡ true

-- the moved nodes that had a block are where they are now, and the others where they were
pub record IsCaughtUp (before now : List (Option ℕ)) (moved : List ℕ) (after : List (Option ℕ)) : Type 0 where
  -- a moved node that had a block is where it is now
  pub put : (n : ℕ) → has moved n ≡ true → IsSome (at before n) → at after n ≡ at now n
  -- a node that didn't move is where it was
  pub others : (n : ℕ) → has moved n ≡ false → at after n ≡ at before n

-- the mark at a place, and none past the end
abbrev pub mark_in : List Bool → ℕ → Bool
mark_in marks i = slice_index_or marks i false

-- whether an edge joins the two
abbrev pub is_beside : (ℕ → ℕ → Bool) → ℕ → ℕ → Bool
is_beside edge q m = edge q m || edge m q

-- these are the nodes next to those that moved, if their blocks are shared
pub record AreAround (edge : ℕ → ℕ → Bool) (block : List (Option ℕ)) (members moved next : List ℕ) : Type 0 where
  -- their numbers rise
  pub rising : IsStrictlyIncreasing next
  -- these are just the neighbours, on either side, of nodes that moved, if they aren't alone in their blocks
  pub same : (m : ℕ) → has next m ≡ (list_any (λ q. is_beside edge q m) moved && is_shared members (at block m))

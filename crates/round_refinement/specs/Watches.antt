-- Neighbours of nodes that have many, on lists by their blocks: items whose hashes are the numbers of places. A place is a node, a side of it
-- and a block.
use Rattle.std.specs.Prelude.{ℕ, ◌≡◌, ◌≢◌, ◌<◌, ◌≤◌, Bool, true, false, List, [], ◌∷◌, length, Option, Some, IsTrue, slice_get}
use Rattle.hash_index.specs.Items.{Items, hash_at, count_to}
use Rattle.graph_spec.specs.Members.{at, has}
use Rattle.bisim_spec.specs.declared.sides.Side.{Side}
use Rattle.bisim_spec.specs.declared.sides.Side.TheVariants.{Parents, Children}
use Rattle.round_refinement.specs.Active.{mark_in}
use Rattle.round_refinement.specs.NeighbourSides.{is_neighbour}
use Rattle.round_refinement.specs.declared.watches.Places.{Places}
use Rattle.round_refinement.specs.declared.watches.Watches.{Watches}

-- how a side stands in the key of a place
abbrev pub side_in_key : Side → ℕ
side_in_key Parents = 0
side_in_key Children = 1

-- the key of a place: its node, the side and the block
abbrev pub place_key : ℕ → Side → ℕ → List ℕ
place_key n side b = n ∷ side_in_key side ∷ b ∷ []

-- p is on the list of the place, at its head or behind it
pub record IsWaiting (places : Places) (n : ℕ) (side : Side) (b p : ℕ) : Type 0 where
  -- the place, the item at its head, and the item of p
  pub place : ℕ
  pub head : ℕ
  pub item : ℕ
  -- the place is that of n, this side and block b
  pub key : slice_get places.keys place ≡ Some (place_key n side b)
  -- its list begins at this head
  pub first : at places.heads.items place ≡ Some head
  -- the item isn't newer than the head
  pub behind : item ≤ head
  -- there is such an item
  pub within : item < length places.nodes.hashes
  -- it is on this list
  pub hash : hash_at places.nodes.hashes item ≡ place
  -- it is p
  pub node : slice_get places.nodes.items item ≡ Some p

-- each item is on the list of a place, and each head on that of its own
pub record AreOrdered (places : Places) : Type 0 where
  -- each item is on the list of some place
  pub placed : (i : ℕ) → i < length places.nodes.hashes → hash_at places.nodes.hashes i < length places.keys
  -- each head is an item
  pub within : (k h : ℕ) → at places.heads.items k ≡ Some h → h < length places.nodes.hashes
  -- it is on the list whose head it is
  pub hash : (k h : ℕ) → at places.heads.items k ≡ Some h → hash_at places.nodes.hashes h ≡ k

-- only neighbours are on lists
abbrev pub AreNeighbours : (ℕ → ℕ → Bool) → Places → Type 0
AreNeighbours edge places = (i p n : ℕ) (side : Side) (b : ℕ) → slice_get places.nodes.items i ≡ Some p
    → slice_get places.keys (hash_at places.nodes.hashes i) ≡ Some (place_key n side b) → IsTrue (is_neighbour side edge p n)

-- each neighbour of a watched node is on the list of its block, where others may be too that were there
pub record IsWatched (edge : ℕ → ℕ → Bool) (block : List (Option ℕ)) (w : Watches) : Type 0 where
  -- items and heads are in order
  pub ordered : AreOrdered w.places
  -- only neighbours are on lists
  pub only : AreNeighbours edge w.places
  -- each neighbour of a watched node that has a block is on the list of that node, side and block
  pub every : (n : ℕ) (side : Side) (b p : ℕ) → mark_in w.watched.items n ≡ true → IsTrue (is_neighbour side edge p n) → at block p ≡ Some b
      → IsWaiting w.places n side b p

-- other nodes are in the blocks where they were
abbrev pub DiffersOnlyAt : List (Option ℕ) → List (Option ℕ) → List ℕ → Type 0
DiffersOnlyAt old new moved = (n : ℕ) → has moved n ≡ false → at new n ≡ at old n

-- the head at k is this one, and the others stay
pub record PutsHead (k : ℕ) (head : Option ℕ) (old new : List (Option ℕ)) : Type 0 where
  -- this is the head at k
  pub here : at new k ≡ head
  -- all other heads stay
  pub others : (j : ℕ) → j ≢ k → at new j ≡ at old j

-- the newest item of place k that is in the block, from the head on
pub record SkipsTo (nodes : Items ℕ) (block : List (Option ℕ)) (b k : ℕ) (head found : Option ℕ) : Type 0 where
  -- what is found is an item
  pub within : (i : ℕ) → found ≡ Some i → i < length nodes.hashes
  -- it is on the list of place k
  pub hash : (i : ℕ) → found ≡ Some i → hash_at nodes.hashes i ≡ k
  -- its node is in the block
  pub stops : (i : ℕ) → found ≡ Some i → (p : ℕ) × (slice_get nodes.items i ≡ Some p) × (at block p ≡ Some b)
  -- no item of the place between it and the head is in the block
  pub skipped : (i p : ℕ) → i < count_to head → hash_at nodes.hashes i ≡ k → slice_get nodes.items i ≡ Some p → at block p ≡ Some b
      → i < count_to found

-- Whether a neighbour in the block is on the list of the place. Those that are in their blocks stay on lists.
pub record IsAsked (block : List (Option ℕ)) (n : ℕ) (side : Side) (b : ℕ) (yes : Bool) (old new : Places) : Type 0 where
  -- if yes, a node in the block is on the list of the place
  pub found : yes ≡ true → (i : ℕ) × (p : ℕ) × (slice_get new.nodes.items i ≡ Some p)
      × (slice_get new.keys (hash_at new.nodes.hashes i) ≡ Some (place_key n side b)) × (at block p ≡ Some b)
  -- if such a node is on the list, yes
  pub every : (p : ℕ) → IsWaiting old n side b p → at block p ≡ Some b → yes ≡ true
  -- each node that is in the block of its list stays on it
  pub kept : (m : ℕ) (s : Side) (c p : ℕ) → IsWaiting old m s c p → at block p ≡ Some c → IsWaiting new m s c p
  -- if only neighbours were on lists, only neighbours are
  pub only : (edge : ℕ → ℕ → Bool) → AreNeighbours edge old → AreNeighbours edge new

-- Neighbours are put on lists: the wanted ones are there, and what was there stays. Still only neighbours are on lists, by edges that suit.
pub record Puts (IsWanted : ℕ → Side → ℕ → ℕ → Type 0) (Suits : (ℕ → ℕ → Bool) → Type 0) (old new : Places) : Type 0 where
  -- each wanted neighbour is on its list
  pub put : (n : ℕ) (side : Side) (b p : ℕ) → IsWanted n side b p → IsWaiting new n side b p
  -- what was on a list stays there
  pub kept : (n : ℕ) (side : Side) (b p : ℕ) → IsWaiting old n side b p → IsWaiting new n side b p
  -- items and heads stay in order
  pub ordered : AreOrdered old → AreOrdered new
  -- if only neighbours were on lists, only neighbours are
  pub only : (edge : ℕ → ℕ → Bool) → Suits edge → AreOrdered old → AreNeighbours edge old → AreNeighbours edge new

-- one neighbour of a node, in its block
abbrev pub PutsOne : ℕ → Side → Option ℕ → ℕ → Places → Places → Type 0
PutsOne n side block p = Puts (λ m s b q. (m ≡ n) × (s ≡ side) × (block ≡ Some b) × (q ≡ p)) (λ edge. IsTrue (is_neighbour side edge p n))

-- neighbours of one node
abbrev pub PutsNodes : ℕ → Side → List (Option ℕ) → List ℕ → Places → Places → Type 0
PutsNodes n side block nodes = Puts (λ m s b p. (m ≡ n) × (s ≡ side) × (has nodes p ≡ true) × (at block p ≡ Some b))
    (λ edge. (p : ℕ) → has nodes p ≡ true → IsTrue (is_neighbour side edge p n))

-- one neighbour of those of the nodes that are watched
abbrev pub PutsBeside : List Bool → List ℕ → Side → Option ℕ → ℕ → Places → Places → Type 0
PutsBeside watched nodes side block q = Puts (λ n s b p. (mark_in watched n ≡ true) × (has nodes n ≡ true) × (s ≡ side) × (block ≡ Some b) × (p ≡ q))
    (λ edge. (n : ℕ) → has nodes n ≡ true → IsTrue (is_neighbour side edge q n))

-- the nodes that moved, for each watched node next to them
abbrev pub PutsMoved : (ℕ → ℕ → Bool) → List (Option ℕ) → List Bool → List ℕ → Places → Places → Type 0
PutsMoved edge block watched moved =
    Puts (λ n s b p. (mark_in watched n ≡ true) × IsTrue (is_neighbour s edge p n) × (has moved p ≡ true) × (at block p ≡ Some b)) (λ e. e ≡ edge)

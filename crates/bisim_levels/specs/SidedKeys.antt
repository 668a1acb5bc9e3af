-- The key of a node by the sides that count: its own block one level below, and then the blocks of its neighbours
-- there.
use Rattle.std.specs.Prelude.{ℕ, ◌≡◌, ◌+◌, ◌*◌, List, ◌∷◌, Option, IsSome, Some, IsTrue, option_map}
use Rattle.std.specs.List.Sorted.{IsStrictlyIncreasing}
use Rattle.graph_spec.specs.Members.{has, at, Lists}
use Rattle.graph_spec.specs.Shapes.{Shape}
use Rattle.bisim_spec.specs.declared.sides.Side.{Side}
use Rattle.bisim_spec.specs.declared.sides.Side.TheVariants as side
use Rattle.bisim_spec.specs.declared.sides.Sides.{Sides}
use Rattle.bisim_spec.specs.declared.sides.Sides.TheVariants as sides
use Rattle.bisim_spec.specs.SidedLevels.{counts, beside}
use Rattle.bisim_spec.specs.Refinement.{Share}

-- the number for a block of neighbours on this side, where both sides count
abbrev pub side_mark : Side → ℕ → ℕ
side_mark side.Parents b = 2 * b
side_mark side.Children b = 2 * b + 1

-- The number that stands in a key for a block of neighbours. Where both sides count it tells them apart.
abbrev pub mark : Sides → Side → ℕ → ℕ
mark sides.Parents d b = b
mark sides.Both d b = side_mark d b

-- the number for the block that f gives of a node, where it gives one and both sides count
abbrev pub marked : Side → (ℕ → Option ℕ) → ℕ → Option ℕ
marked d f n = option_map (side_mark d) (f n)

-- the list of a side
abbrev pub on_side : List ℕ → List ℕ → Side → List ℕ
on_side parents children side.Parents = parents
on_side parents children side.Children = children

-- the list of each side that counts has just the neighbours of n there
pub record ListNeighbours (sides : Sides) (s : Shape) (n : ℕ) (lists : Side → List ℕ) : Type 0 where
  -- the neighbours on the side are listed
  pub each : (d : Side) → IsTrue (counts sides d) → Lists (λ p. beside d s p n) (lists d)

-- The number stands for the block, which f gives, of some node of the list.
pub record IsListed (sides : Sides) (side : Side) (f : ℕ → Option ℕ) (nodes : List ℕ) (c : ℕ) : Type 0 where
  -- the side counts
  pub counted : IsTrue (counts sides side)
  -- the node is listed
  pub node : ℕ
  pub listed : IsTrue (has nodes node)
  -- the number is that of its block, on this side
  pub block : ℕ
  pub has_block : f node ≡ Some block
  pub is : c ≡ mark sides side block

-- The key is that of a node with these neighbours on each side, whose own block has this number.
pub record IsWrittenBy (sides : Sides) (f : ℕ → Option ℕ) (lists : Side → List ℕ) (number : ℕ) (key : List ℕ) : Type 0 where
  -- the key is the node's own number and then the numbers around it
  pub around : List ℕ
  pub is : key ≡ number ∷ around
  -- these rise, each once
  pub rising : IsStrictlyIncreasing around
  -- each is the number of a listed neighbour's block
  pub each : (c : ℕ) → IsTrue (has around c) → (side : Side) × IsListed sides side f (lists side) c
  -- the number of each listed neighbour's block is there
  pub every : (side : Side) (c : ℕ) → IsListed sides side f (lists side) c → IsTrue (has around c)

-- The number stands for the block in base of some neighbour of n on a side that counts.
pub record IsAround (sides : Sides) (s : Shape) (base : List (Option ℕ)) (n c : ℕ) : Type 0 where
  -- the side counts
  pub side : Side
  pub counted : IsTrue (counts sides side)
  -- the node is a neighbour of n on this side
  pub node : ℕ
  pub is_beside : IsTrue (beside side s node n)
  -- the number is that of its block, on this side
  pub block : ℕ
  pub has_block : at base node ≡ Some block
  pub is : c ≡ mark sides side block

-- the key is that of the node: its own number, and then the numbers around it, rising, each once
pub record IsKeyBy (own : ℕ → Option ℕ) (Around : ℕ → ℕ → Type 0) (n : ℕ) (key : List ℕ) : Type 0 where
  -- the key is the node's own number and then the numbers around it
  pub number : ℕ
  pub around : List ℕ
  pub is : key ≡ number ∷ around
  pub own_is : own n ≡ Some number
  -- these rise, each once
  pub rising : IsStrictlyIncreasing around
  -- each is around the node
  pub each : (c : ℕ) → IsTrue (has around c) → Around n c
  -- what is around the node is there
  pub every : (c : ℕ) → Around n c → IsTrue (has around c)

-- the key is that of the node over the partition one level below
abbrev pub IsSidedKey : Sides → Shape → List (Option ℕ) → ℕ → List ℕ → Type 0
IsSidedKey sides s below = IsKeyBy (at below) (IsAround sides s below)

-- the two have the same number, and the same numbers around them
pub record StayBy (own : ℕ → Option ℕ) (Around : ℕ → ℕ → Type 0) (u v : ℕ) : Type 0 where
  -- both have a number, and the same
  pub one_number : Share own u v
  -- what is around u is around v
  pub there : (c : ℕ) → Around u c → Around v c
  -- what is around v is around u
  pub back : (c : ℕ) → Around v c → Around u c

-- exactly those that have a number have a block, and two are together exactly where they have the same numbers
pub record RefinesBy (own : ℕ → Option ℕ) (Around : ℕ → ℕ → Type 0) (next : List (Option ℕ)) : Type 0 where
  -- who has a number has a block
  pub kept : (n : ℕ) → IsSome (own n) → IsSome (at next n)
  -- who has a block has a number
  pub only : (n : ℕ) → IsSome (at next n) → IsSome (own n)
  -- two in one block have the same numbers
  pub parted : (u v b : ℕ) → at next u ≡ Some b → at next v ≡ Some b → StayBy own Around u v
  -- two with the same numbers are in one block
  pub grouped : (u v : ℕ) → StayBy own Around u v → (b : ℕ) × (at next u ≡ Some b) × (at next v ≡ Some b)

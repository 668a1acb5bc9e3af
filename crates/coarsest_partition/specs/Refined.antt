-- Partitions on the way to the coarsest stable one (R. Paige and R. E. Tarjan, "Three Partition Refinement Algorithms", SIAM
-- Journal on Computing 16, 1987; here a round looks again at the nodes next to those that moved).
use Rattle.std.specs.Prelude.{ℕ, ◌≡◌, ◌⊎◌, Bool, true, false, List, Option}
use Rattle.graph_spec.specs.Graphs.{Graph}
use Rattle.bisim_spec.specs.Bisimilarity.{SameLabel, Matched}
use Rattle.graph_spec.specs.Members.{at, has}
use Rattle.bisim_spec.specs.Partitions.{Together}
use Rattle.bisim_spec.specs.declared.sides.Side.{Side}
use Rattle.block_splitting.specs.Splits.{IsNeighbour}
use Rattle.bisim_spec.specs.declared.sides.Side.TheVariants.{Parents, Children}
use Rattle.graph_spec.specs.Shapes.{shape_of}

-- the sides at which bisimilarity looks: by parents
abbrev pub parents_alone : Side → Bool
parents_alone Parents = true
parents_alone Children = false

-- both ways
abbrev pub both_sides : Side → Bool
both_sides t = true

-- What refinement needs of the relation that it comes to: it is symmetric, neighbours are related to themselves, related
-- nodes have one label, and on each side that is kept the neighbours of related nodes are related.
pub record IsTarget (g : Graph) (kept : Side → Bool) (R : ℕ → ℕ → Type 0) : Type 0 where
  -- the relation is symmetric
  pub symm : (u v : ℕ) → R u v → R v u
  -- each neighbour of a node is related to itself
  pub self : (t : Side) (q n : ℕ) → IsNeighbour t g q n → R q q
  -- related nodes have one label
  pub label : (u v : ℕ) → R u v → SameLabel (shape_of g) u v
  -- on a side that is kept, the neighbours of related nodes are related
  pub matched : (t : Side) → kept t ≡ true → (u v : ℕ) → R u v → Matched (IsNeighbour t g) R u v

-- A partition on the way to R, and on each side the active nodes: it is no finer than R, the active nodes are classes
-- of R, and of two nodes in one block that aren't active the neighbours are in the same blocks.
pub record IsRefined (g : Graph) (kept : Side → Bool) (R : ℕ → ℕ → Type 0) (block : List (Option ℕ)) (active : Side → ℕ → Bool) : Type 0 where
  -- related nodes are in one block
  pub coarse : (u v : ℕ) → R u v → Together block u v
  -- nodes of one block have one label
  pub label : (u v : ℕ) → Together block u v → SameLabel (shape_of g) u v
  -- on a side that is kept, a node that is related to an active one is active
  pub closed : (t : Side) → kept t ≡ true → (u v : ℕ) → R u v → active t u ≡ true → active t v ≡ true
  -- on such a side, two nodes of one block that aren't active have neighbours in the same blocks
  pub settled : (t : Side) → kept t ≡ true → (u v : ℕ) → active t u ≡ false → active t v ≡ false → Together block u v
      → Matched (IsNeighbour t g) (Together block) u v

-- One step, on one side: blocks are only split; two nodes that are no longer active were settled, or have neighbours in
-- the same blocks of the old partition; nodes stay together that agree in this and in whether they were active; and
-- those are active that have a neighbour which moved and aren't alone in their block, and on a side that is left those
-- that were active there.
pub record IsStep (g : Graph) (kept : Side → Bool) (old new : List (Option ℕ)) (active next : Side → ℕ → Bool) : Type 0 where
  -- blocks are only split
  pub finer : (u v : ℕ) → Together new u v → Together old u v
  -- the side of the step
  pub side : Side
  -- it is a side that is kept
  pub side_kept : kept side ≡ true
  -- nodes stay together that have neighbours in the same blocks on this side, if both were active or neither was
  pub grouped : (u v : ℕ) → Together old u v → Matched (IsNeighbour side g) (Together old) u v → (active side u ≡ true → active side v ≡ true)
      → (active side v ≡ true → active side u ≡ true) → Together new u v
  -- two nodes of one block, neither of them active afterwards, weren't active before, or have neighbours in the same old blocks
  pub parted : (t : Side) → kept t ≡ true → (u v : ℕ) → next t u ≡ false → next t v ≡ false → Together new u v
      → ((active t u ≡ false) × (active t v ≡ false)) ⊎ Matched (IsNeighbour t g) (Together old) u v
  -- the neighbours of a node that isn't active afterwards haven't moved, unless it is alone in its block
  pub still : (t : Side) → kept t ≡ true → (q n v : ℕ) → next t n ≡ false → Together new n v → (n ≡ v → ⊥) → IsNeighbour t g q n → at new q ≡ at old q
  -- the sides that are left for later
  pub left : Side → Bool
  -- there active nodes stay active
  pub left_active : (t : Side) → kept t ≡ true → (n : ℕ) → left t ≡ true → active t n ≡ true → next t n ≡ true
  -- an active node was active on such a side, or has a neighbour that moved
  pub active_why : (t : Side) → kept t ≡ true → (n : ℕ) → next t n ≡ true
      → ((left t ≡ true) × (active t n ≡ true)) ⊎ ((q : ℕ) × IsNeighbour t g q n × (at new q ≡ at old q → ⊥))

-- a step by parents, where these nodes were active and those are next
abbrev pub IsStepByParents : Graph → List (Option ℕ) → List (Option ℕ) → List ℕ → List ℕ → Type 0
IsStepByParents g old new active_nodes next = IsStep g parents_alone old new (λ t. has active_nodes) (λ t. has next)

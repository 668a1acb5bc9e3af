-- A partition refined by the blocks of neighbours (refinement step of R. Paige and R. E. Tarjan, "Three Partition Refinement
-- Algorithms", SIAM Journal on Computing 16, 1987, done for all blocks at once).
use Rattle.std.specs.Prelude.{ℕ, ◌≡◌, Bool, List, Option, Some, IsSome, IsTrue, suc}
use Rattle.graph_spec.specs.Members.{at}
use Rattle.graph_spec.specs.Shapes.{Shape}
use Rattle.bisim_spec.specs.Bisimilarity.{Matched}
use Rattle.bisim_spec.specs.Partitions.{Together, Agrees}

-- the function gives both the same number
abbrev pub Share : (ℕ → Option ℕ) → ℕ → ℕ → Type 0
Share own u v = (b : ℕ) × (own u ≡ Some b) × (own v ≡ Some b)

-- the two have the same number, and their neighbours are in the same blocks of base
pub record StayTogether (own : ℕ → Option ℕ) (base : List (Option ℕ)) (neighbour_of : ℕ → ℕ → Bool) (u v : ℕ) : Type 0 where
  -- both have a number, and the same
  pub one_number : Share own u v
  -- each neighbour of the one has one of the other in its block
  pub neighbours : Matched (λ p n. IsTrue (neighbour_of p n)) (Together base) u v

-- exactly those that have a number have a block, and two are together exactly where they stay together
pub record Refines (own : ℕ → Option ℕ) (base : List (Option ℕ)) (neighbour_of : ℕ → ℕ → Bool) (next : List (Option ℕ)) : Type 0 where
  -- who has a number has a block
  pub kept : (n : ℕ) → IsSome (own n) → IsSome (at next n)
  -- who has a block has a number
  pub only : (n : ℕ) → IsSome (at next n) → IsSome (own n)
  -- two in one block stay together
  pub parted : (u v : ℕ) → Together next u v → StayTogether own base neighbour_of u v
  -- two that stay together are in one block
  pub grouped : (u v : ℕ) → StayTogether own base neighbour_of u v → Together next u v

-- Whatever the level: where the one partition is into the classes of a relation at that level, the other is into those
-- at the next.
abbrev pub IsNextLevel : (Shape → ℕ → ℕ → ℕ → Type 0) → Shape → List (Option ℕ) → List (Option ℕ) → Type 0
IsNextLevel R s block next = (i : ℕ) → Agrees s block (R s i) → Agrees s next (R s (suc i))

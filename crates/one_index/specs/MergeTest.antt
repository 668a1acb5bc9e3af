-- Which blocks can be merged, by labels and supports. Source: K. Yi, H. He, I. Stanoi and J. Yang, "Incremental Maintenance of
-- XML Structural Indexes", SIGMOD 2004.
use Rattle.std.specs.Prelude.{◌≡◌, ◌<◌, ℕ, ◌||◌, Bool, Some, IsSome, IsTrue, nat_eq, if◌then◌else◌}
use Rattle.graph_spec.specs.Members.{at}
use Rattle.bisim_spec.specs.IndexGraphs.{SupportTable}
use Rattle.quotient.specs.Quotients.{Quotient, is_adjacent}
use Rattle.quotient.specs.QuotientNeighbours.{is_supported}

-- whether x has support to d, where c and d count as one
abbrev pub is_parent_of_one : SupportTable → ℕ → ℕ → ℕ → Bool
is_parent_of_one t c d x = if nat_eq x c || nat_eq x d then is_supported t c d || is_supported t d d else is_supported t x d

-- the parent blocks of c are parent blocks of d too, where the two count as one
pub record IsCovered (q : Quotient) (c d : ℕ) : Type 0 where
  -- a block with support to c has support to d too, where the two count as one
  pub each : (x : ℕ) → IsTrue (is_adjacent q x c) → IsTrue (is_parent_of_one q.supports c d x)

-- two blocks have one label, and the same parent blocks where they count as one
pub record CanMerge (q : Quotient) (a b : ℕ) : Type 0 where
  -- both have one label
  pub label : at q.blocks.labels a ≡ at q.blocks.labels b
  -- each parent block of a is one of b, where the two count as one
  pub there : IsCovered q a b
  -- and the other way round
  pub back : IsCovered q b a

-- a can't be merged with b, where b is a block with members
abbrev pub CannotMergeWith : Quotient → ℕ → ℕ → Type 0
CannotMergeWith q a b = (v : ℕ) → IsSome (at q.blocks.labels b) → at q.blocks.block_of v ≡ Some b → CanMerge q a b → ⊥

-- a can be merged with some block behind it, and both have members
abbrev pub HasMergeable : Quotient → ℕ → Type 0
HasMergeable q a = (u : ℕ) × (v : ℕ) × (b : ℕ) × (a < b) × (at q.blocks.block_of u ≡ Some a) × (at q.blocks.block_of v ≡ Some b) × CanMerge q a b

-- a can be merged with no block behind it, where both have members
pub record HasNoMergeable (q : Quotient) (a : ℕ) : Type 0 where
  -- no block with a greater number can be merged with it, if both have members
  pub none : (u v b : ℕ) → IsSome (at q.blocks.labels a) → IsSome (at q.blocks.labels b) → a < b → at q.blocks.block_of u ≡ Some a
      → at q.blocks.block_of v ≡ Some b
      → CanMerge q a b → ⊥

-- Whether two blocks can be merged, by labels and supports alone.
use Rattle.std.specs.Prelude.{◌≡◌, ◌≢◌, ℕ, ◌||◌, Bool, List, Option, Some, IsTrue, nat_eq, nat_lt, cond}
use Rattle.graph_spec.specs.Members.{at}
use Rattle.graph_spec.specs.Shapes.{Shape}
use Rattle.bisim_spec.specs.Stability.{Mergeable}
use Rattle.one_spec.specs.Merges.{IsMergeablePair}
use Rattle.one_spec.specs.Viewed.{IsViewed}
use Rattle.quotient.specs.Quotients.{Quotient}
use Rattle.quotient_draft.specs.Drafts.{Drafted, shown_support}

-- whether a block has support to another one as shown
abbrev pub shown_adjacent : Quotient → Drafted → ℕ → ℕ → Bool
shown_adjacent q d x y = nat_lt 0 (shown_support q d x y)

-- a for b, and each other number for itself
abbrev pub renamed : ℕ → ℕ → ℕ → ℕ
renamed a b x = cond (nat_eq x b) a x

-- whether x is adjacent to d, where a and b count as one block
abbrev pub adjacent_merged : (ℕ → ℕ → Bool) → ℕ → ℕ → ℕ → ℕ → Bool
adjacent_merged adjacent a b d x = cond (nat_eq x a || nat_eq x b) (adjacent a d || adjacent b d) (adjacent x d)

-- each parent block of c is one of d, where a and b count as one block
pub record AreParentsSatisfied (adjacent : ℕ → ℕ → Bool) (a b c d : ℕ) : Type 0 where
  -- a block with support to c has support to d too, where a and b count as one
  pub each : (x : ℕ) → IsTrue (adjacent x c) → IsTrue (adjacent_merged adjacent a b d x)

-- Two blocks with members and of one label. Whatever the graph that is seen through the tables, they can be merged.
pub record AreMergeable (block : List (Option ℕ)) (labels : ℕ → Option ℕ) (adjacent : ℕ → ℕ → Bool) (a b : ℕ) : Type 0 where
  -- they are two blocks
  pub apart : a ≢ b
  -- the one has a member
  pub first : (n : ℕ) × (at block n ≡ Some a)
  -- so has the other
  pub second : (n : ℕ) × (at block n ≡ Some b)
  -- both have one label
  pub label : labels a ≡ labels b
  -- whatever the graph that is seen through the tables, the partition is stable once they are one block
  pub can : (s : Shape) → IsViewed s block labels adjacent → Mergeable s block a b

-- Whatever the graph that is seen through the tables, the two blocks can't be merged.
abbrev pub AreNotMergeable : List (Option ℕ) → (ℕ → Option ℕ) → (ℕ → ℕ → Bool) → ℕ → ℕ → Type 0
AreNotMergeable block labels adjacent a b = (s : Shape) → IsViewed s block labels adjacent → IsMergeablePair s block a b → ⊥

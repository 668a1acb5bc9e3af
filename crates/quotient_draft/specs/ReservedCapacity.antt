-- Reserved capacity for what is drafted.
use Rattle.std.specs.Prelude.{◌≡◌, ℕ, ◌+◌, ◌<◌, ◌≤◌, List, length, Some, nat_eq, slice_get, slice_index, count_by}
use Rattle.std.specs.Map.{lookup, keys_of}
use Rattle.quotient.specs.Quotients.{Quotient}
use Rattle.quotient_draft.specs.Drafts.{Drafted}

-- how many of the pairs begin at a block
abbrev pub from_count : List (ℕ × ℕ) → ℕ → ℕ
from_count pairs a = count_by (λ p. nat_eq a p.0) pairs

-- how many of the pairs end at a block
abbrev pub onto_count : List (ℕ × ℕ) → ℕ → ℕ
onto_count pairs b = count_by (λ p. nat_eq b p.1) pairs

-- the base has capacity reserved for what the draft shows
pub record HasReservedFor (q : Quotient) (d : Drafted) : Type 0 where
  -- for the numbers of nodes that move
  pub nodes : (n b : ℕ) → lookup (nat_eq n) d.moves ≡ Some (Some b) → n < length q.blocks.block_of + q.blocks.reserved.nodes
  -- for the new blocks
  pub blocks : length d.added ≤ q.blocks.reserved.blocks
  -- for their numbers
  pub span : (i : ℕ) (e : ℕ × ℕ) → slice_get d.added i ≡ Some e → e.0 < q.reserved.span
  -- for the drafted pairs
  pub pairs : length d.supports ≤ q.reserved.pairs
  -- for the children of each block
  pub children : (a : ℕ) → from_count (keys_of d.supports) a ≤ slice_index q.reserved.children a
  -- for the parents of each block
  pub parents : (b : ℕ) → onto_count (keys_of d.supports) b ≤ slice_index q.reserved.parents b

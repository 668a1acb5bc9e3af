-- What ties a draft to its base.
use Rattle.std.specs.Prelude.{◌≡◌, ℕ, ◌<◌, ◌≤◌, ◌^◌, List, [], ◌∷◌, length, Option, Some, IsSome, is_some, nat_eq, true, count_by}
use Rattle.std.specs.Map.{lookup}
use Rattle.graph_spec.specs.Members.{at, has}
use Rattle.block_partition.specs.LabelledPartitions.{put, IsLeastFree}
use Rattle.quotient_draft.specs.Drafts.{Drafted, with_added, is_pair}
use Rattle.quotient_draft.specs.MoveTables.{AreTaken}

-- each number was the least that was no block, once those before it were made
abbrev pub AreLeastFree : List (Option ℕ) → List (ℕ × ℕ) → Type 0
AreLeastFree labels [] = Unit {0}
AreLeastFree labels (e ∷ es) = IsLeastFree labels e.0 × AreLeastFree (put labels e.0 e.1) es

-- The draft was begun over a base with these blocks of nodes and these labels: its further blocks have the numbers that this
-- base would give them, the blocks that it names are blocks as shown, and it knows from which blocks nodes were taken, and
-- how many from each. This holds over a base for as long as its blocks stay.
pub record IsOver (block labels : List (Option ℕ)) (d : Drafted) : Type 0 where
  -- each new block took the least free number
  pub least : AreLeastFree labels d.added
  -- with new blocks there are 2^31 blocks at most
  pub few : 0 < length d.added → count_by is_some (with_added labels d.added) ≤ 2 ^ 31
  -- nodes move to blocks
  pub moved : (n b : ℕ) → lookup (nat_eq n) d.moves ≡ Some (Some b) → IsSome (at (with_added labels d.added) b)
  -- nodes that move have numbers below 2^31
  pub numbers : (n b : ℕ) → lookup (nat_eq n) d.moves ≡ Some (Some b) → n < 2 ^ 31
  -- drafted supports are those of pairs of blocks
  pub ends : (p : ℕ × ℕ) (n : ℕ) → lookup (is_pair p) d.supports ≡ Some n → IsSome (at (with_added labels d.added) p.0)
      × IsSome (at (with_added labels d.added) p.1)
  -- the blocks that nodes leave are listed
  pub left : (n b : ℕ) → at block n ≡ Some b → IsSome (lookup (nat_eq n) d.moves) → has d.left b ≡ true
  -- and how many leave each
  pub taken : AreTaken block d.moves d.taken

-- each pair that is written is one of blocks
abbrev pub ArePairsOfBlocks : List (Option ℕ) → List ((ℕ × ℕ) × ℕ) → Type 0
ArePairsOfBlocks labels supports = (p : ℕ × ℕ) (n : ℕ) → lookup (is_pair p) supports ≡ Some n → IsSome (at labels p.0) × IsSome (at labels p.1)

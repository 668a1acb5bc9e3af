-- The tables in which a partition is kept.
use Rattle.std.specs.Prelude.{◌≡◌, ℕ, ◌+◌, ◌-◌, ◌*◌, ◌/◌, ◌^◌, ◌<◌, ◌≤◌, slice_index_or, List, ◌++◌, length, Option, None, Some, nat_eq, if◌then◌else◌, slice_set}
use Rattle.std.proofs.Math.ListN.{replicate}
use Rattle.block_partition.specs.LabelledPartitions.{Partition}

-- for each place a number or none, and how many places fit with no more memory
pub record Table : Type 0 where
  -- for each place a number or none
  pub places : List (Option ℕ)
  -- how many places fit with no more memory
  pub capacity : ℕ

-- for each run of 64 numbers how many runs from it on have no free number, and a number below which none is
pub record Gaps : Type 0 where
  -- for each run of 64 numbers how many runs from it on have no free number
  pub full : List ℕ
  -- a number below which none is free
  pub low : ℕ

-- numbers, each below the span, and how many fit with no more memory
pub record NumberSet : Type 0 where
  -- the numbers
  pub numbers : List ℕ
  -- each is below it
  pub span : ℕ
  -- how many fit with no more memory
  pub capacity : ℕ

-- the entry of a run, and zero past the end
abbrev pub full_at : List ℕ → ℕ → ℕ
full_at full k = slice_index_or full k 0

-- so many numbers have entries
abbrev pub gap_capacity : Gaps → ℕ
gap_capacity g = 64 * length g.full

-- the first run of a run's group of 16 ^ level runs
abbrev pub group : ℕ → ℕ → ℕ
group level run = 16 ^ level * (run / 16 ^ level)

-- the greatest value of 32 bits stands for none
abbrev pub slot_value : ℕ → Option ℕ
slot_value v = if nat_eq v 4294967295 then None else Some v

-- the number can be kept, since it doesn't stand for none
abbrev pub IsSmall : Option ℕ → Type 0
IsSmall None = Unit {0}
IsSmall (Some v) = v < 4294967295

-- the place is one of the list, where there is a place
abbrev pub IsIn : Option ℕ → List (Option ℕ) → Type 0
IsIn None xs = Unit {0}
IsIn (Some i) xs = i < length xs

-- the list with a value at the place, where there is a place
abbrev pub set_at : List (Option ℕ) → Option ℕ → Option ℕ → List (Option ℕ)
set_at xs None v = xs
set_at xs (Some i) v = slice_set xs i v

-- the list with none behind it, up to this length
abbrev pub grown : List (Option ℕ) → ℕ → List (Option ℕ)
grown xs len = xs ++ replicate (len - length xs) None

-- the same places, and no less memory
pub record KeepsPlaces (old new : Table) : Type 0 where
  -- the places are the same
  pub places : new.places ≡ old.places
  -- the memory isn't less
  pub capacity : old.capacity ≤ new.capacity

-- the block b where no member stands before this one, and none where one does
abbrev pub head_where : ℕ → Option ℕ → Option ℕ
head_where b None = Some b
head_where b (Some p) = None

-- the list of blocks grows up to this length, and the reserved capacity shrinks by as much
abbrev pub with_length : Partition → ℕ → Partition
with_length p len =
    record {
      block_of = grown p.block_of len;
      labels = p.labels;
      reserved = record { nodes = length p.block_of + p.reserved.nodes - length (grown p.block_of len); blocks = p.reserved.blocks };
    }

-- A partition of nodes into blocks.
use Rattle.std.specs.Prelude.{◌≡◌, ℕ, zero, suc, ◌+◌, ◌-◌, ◌<◌, Bool, List, [], ◌∷◌, length, Option, None, Some, IsSome, is_some, slice_set}
use Rattle.std.specs.List.{count_by}
use Rattle.graph_spec.specs.Members.{at, is_this}

-- for how many more numbers past the end of the list, and for how many more blocks, capacity is reserved
pub record ReservedNumbers : Type 0 where
  -- how many node numbers more fit
  pub nodes : ℕ
  -- how many blocks more fit
  pub blocks : ℕ

-- a partition of nodes into blocks, with a label for each block
pub record Partition : Type 0 where
  -- for each number the block of its node, or none where it has none
  pub block_of : List (Option ℕ)
  -- for each number the label of that block, or none where the number is no block
  pub labels : List (Option ℕ)
  pub reserved : ReservedNumbers

-- the number is that of a block: it has a label
abbrev pub IsBlock : Partition → ℕ → Type 0
IsBlock p b = IsSome (at p.labels b)

-- whether the node is a member of the block
abbrev pub is_member : Partition → ℕ → ℕ → Bool
is_member p b n = is_this b (at p.block_of n)

-- how many blocks there are
abbrev pub block_count : Partition → ℕ
block_count p = count_by is_some p.labels

-- how many members a block has
abbrev pub member_count : Partition → ℕ → ℕ
member_count p b = count_by (is_this b) p.block_of

-- b is the least number that isn't a block
pub record IsLeastFree (labels : List (Option ℕ)) (b : ℕ) : Type 0 where
  -- b is no block
  pub free : at labels b ≡ None
  -- each number below it is one
  pub least : (c : ℕ) → c < b → IsSome (at labels c)

-- the list with this number at that place. Where the place is past the end, the list grows to end with it, with
-- none in between
abbrev pub put : List (Option ℕ) → ℕ → ℕ → List (Option ℕ)
put [] zero v = Some v ∷ []
put [] (suc n) v = None ∷ put [] n v
put (x ∷ xs) zero v = Some v ∷ xs
put (x ∷ xs) (suc n) v = x ∷ put xs n v

-- no node and no block, and no capacity reserved
abbrev pub no_blocks : Partition
no_blocks = record { block_of = []; labels = []; reserved = record { nodes = 0; blocks = 0 } }

-- the same blocks and labels, with capacity reserved for so many more numbers and blocks
abbrev pub with_reserved : Partition → ℕ → ℕ → Partition
with_reserved p nodes blocks = record { block_of = p.block_of; labels = p.labels; reserved = record { nodes = nodes; blocks = blocks } }

-- b becomes a block, which takes the capacity reserved for one
abbrev pub with_block : Partition → ℕ → ℕ → Partition
with_block p b label =
    record { block_of = p.block_of; labels = put p.labels b label; reserved = record { nodes = p.reserved.nodes; blocks = p.reserved.blocks - 1 } }

-- n becomes a member of b, and the reserved capacity shrinks by as much as the list grows
abbrev pub with_member : Partition → ℕ → ℕ → Partition
with_member p n b =
    record {
      block_of = put p.block_of n b;
      labels = p.labels;
      reserved = record { nodes = length p.block_of + p.reserved.nodes - length (put p.block_of n b); blocks = p.reserved.blocks };
    }

-- n, which has a block, is in this one, or in none
abbrev pub with_move : Partition → ℕ → Option ℕ → Partition
with_move p n b = record { block_of = slice_set p.block_of n b; labels = p.labels; reserved = p.reserved }

-- b is no block any more
abbrev pub without_block : Partition → ℕ → Partition
without_block p b = record { block_of = p.block_of; labels = slice_set p.labels b None; reserved = p.reserved }

-- What holds of the tables of each partition.
use Rattle.std.specs.Prelude.{◌≡◌, ℕ, ◌+◌, ◌*◌, ◌<◌, ◌≤◌, ◌^◌, List, length, Option, None, Some, IsSome, is_some, slice_index, nat_eq, Vec, vec_capacity}
use Rattle.std.specs.List.{count_by, IsDistinct}
use Rattle.graph_spec.specs.Members.{at, has, is_this}
use Rattle.block_partition.specs.Tables.{Table, Gaps, NumberSet, full_at, gap_capacity, group}

-- The members of a block form a doubly linked list: the block of a node, the next member and the one before it, and the
-- first member of a block. Ranks fall along each list, so none runs in a ring
pub record AreMemberLists (block next prev first : ℕ → Option ℕ) (rank : ℕ → ℕ) : Type 0 where
  -- the one before the next member is this one
  pub next_back : (n q : ℕ) → next n ≡ Some q → prev q ≡ Some n
  -- the next member is of the same block
  pub next_block : (n q : ℕ) → next n ≡ Some q → block q ≡ block n
  -- its rank is less
  pub next_rank : (n q : ℕ) → next n ≡ Some q → rank q < rank n
  -- the next one after the member before is this one
  pub prev_back : (n p : ℕ) → prev n ≡ Some p → next p ≡ Some n
  -- a node of a block with no member before it is the first of the block
  pub head : (n b : ℕ) → block n ≡ Some b → prev n ≡ None → first b ≡ Some n
  -- the first member of a block is of that block
  pub first_block : (b n : ℕ) → first b ≡ Some n → block n ≡ Some b
  -- and none is before it
  pub first_prev : (b n : ℕ) → first b ≡ Some n → prev n ≡ None
  -- a node without a block has no member after it or before it
  pub free_next : (n : ℕ) → block n ≡ None → next n ≡ None
  pub free_prev : (n : ℕ) → block n ≡ None → prev n ≡ None

-- the tables mirror each other: a node is listed in a block exactly where that is its block
pub record AreMirrored (block next prev first : List (Option ℕ)) : Type 0 where
  -- the tables have a place for each node
  pub length_next : length next ≡ length block
  pub length_prev : length prev ≡ length block
  -- a rank of each node
  pub rank : ℕ → ℕ
  -- a number
  pub top : ℕ
  -- no rank is above it
  pub below_top : (n : ℕ) → rank n ≤ top
  -- the tables link the members of each block, and ranks fall along the lists
  pub links : AreMemberLists (at block) (at next) (at prev) (at first) rank

-- nodes are in blocks, and the counts are right
pub record AreBlockCounts (block labels : List (Option ℕ)) (sizes : List ℕ) (count : ℕ) : Type 0 where
  -- the block of each node has a label
  pub live : (n b : ℕ) → at block n ≡ Some b → IsSome (at labels b)
  -- the size of a block is the number of its members
  pub sizes_are : (b : ℕ) → slice_index sizes b ≡ count_by (is_this b) block
  -- so many blocks have labels
  pub count_is : count ≡ count_by is_some labels

-- that many runs from this one on stand in a group that begins with it
pub record IsInGroup (run count : ℕ) : Type 0 where
  -- the level of a group
  pub level : ℕ
  -- it is below 7
  pub few : level < 7
  -- a group of this level begins with this run
  pub first : group level run ≡ run
  -- and has so many runs
  pub within : count ≤ 16 ^ level

-- no free number stands in a run that an entry passes, and no entry leaves its group
pub record AreFullRuns (labels : List (Option ℕ)) (full : List ℕ) : Type 0 where
  -- each number in a run that an entry passes has a label
  pub passed : (k c : ℕ) → 64 * k ≤ c → c < 64 * (k + full_at full k) → c < length labels → IsSome (at labels c)
  -- no entry passes the end of its group
  pub grouped : (k : ℕ) → IsInGroup k (full_at full k)

-- for each number the place where it is listed is kept
pub record HavePlaces (numbers places : List ℕ) : Type 0 where
  -- no number is listed twice
  pub once : IsDistinct nat_eq numbers
  -- there is a place for each
  pub within : (i : ℕ) → i < length numbers → slice_index numbers i < length places
  -- it is where the number is listed
  pub back : (i : ℕ) → i < length numbers → slice_index places (slice_index numbers i) ≡ i

-- no entry passes a free number, and none is too low
pub record AreGaps (labels : List (Option ℕ)) (g : Gaps) : Type 0 where
  -- each number below the low one has a label
  pub above : (c : ℕ) → c < g.low → IsSome (at labels c)
  -- no entry passes a free number
  pub runs : AreFullRuns labels g.full

-- the tables by block are of one length, and numbers that are free and those that are blocks are found
pub record AreTables (first labels : List (Option ℕ)) (sizes : List ℕ) (freed : Gaps) (live : NumberSet) : Type 0 where
  -- the tables have a place for each block number
  pub length_first : length first ≡ length labels
  pub length_sizes : length sizes ≡ length labels
  -- there are at most 2^31 numbers
  pub few : length labels ≤ 2 ^ 31
  -- no entry passes a free number, and none is too low
  pub gaps : AreGaps labels freed
  -- there is an entry for each run of numbers
  pub all_fit : length labels ≤ gap_capacity freed
  -- a number is listed exactly if it has a label
  pub listed : (b : ℕ) → has live.numbers b ≡ is_some (at labels b)
  -- there is a place for each number
  pub all_have_places : length labels ≤ live.span

-- that many more numbers fit behind the list
pub record NodesFit (block next prev : Table) (more : ℕ) : Type 0 where
  -- with them there are at most 2^31 numbers
  pub few : length block.places + more ≤ 2 ^ 31
  -- they fit into each of the three tables
  pub block_fits : length block.places + more ≤ block.capacity
  pub next_fits : length block.places + more ≤ next.capacity
  pub prev_fits : length block.places + more ≤ prev.capacity

-- that many more blocks fit
pub record BlocksFit (count first labels sizes freed span live more : ℕ) : Type 0 where
  -- with them there are at most 2^31 blocks
  pub few : count + more ≤ 2 ^ 31
  -- they fit into each of the tables
  pub first_fits : count + more ≤ first
  pub labels_fit : count + more ≤ labels
  pub sizes_fit : count + more ≤ sizes
  pub freed_fit : count + more ≤ freed
  pub places_fit : count + more ≤ span
  pub live_fit : count + more ≤ live

-- the tables are those of a partition, with capacity for that many more nodes and blocks
pub record IsSoundPartition (block next prev first : Table) (labels : List (Option ℕ)) (labels_capacity : ℕ) (sizes : List ℕ)
    (sizes_capacity : ℕ) (freed : Gaps) (live : NumberSet) (nodes_reserved blocks_reserved : ℕ) : Type 0 where
  -- a node is listed in a block exactly where that is its block
  pub mirrored : AreMirrored block.places next.places prev.places first.places
  -- sizes and the number of blocks are right
  pub counted : AreBlockCounts block.places labels sizes (length live.numbers)
  -- the tables by block are of one length, and free numbers are found
  pub tables : AreTables first.places labels sizes freed live
  -- so many more nodes fit
  pub nodes_fit : NodesFit block next prev nodes_reserved
  -- so many more blocks fit
  pub blocks_fit : BlocksFit (length live.numbers) first.capacity labels_capacity sizes_capacity (gap_capacity freed) live.span live.capacity blocks_reserved

-- the same, of the vectors of labels and of counts
abbrev pub AreSoundTables : {Z : Type 0} → Table → Table → Table → Table → Vec (Option ℕ) Z → Vec ℕ Z → Gaps → NumberSet → ℕ → ℕ → Type 0
AreSoundTables block next prev first labels sizes freed live nodes_reserved blocks_reserved =
    IsSoundPartition block next prev first labels.items (vec_capacity labels) sizes.items (vec_capacity sizes) freed live nodes_reserved blocks_reserved

-- Blocks of one node each.
use Rattle.std.specs.Prelude.{ℕ, ◌≡◌, ◌<◌, List, length, Option, Some, None, if◌then◌else◌, slice_get}
use Rattle.graph_spec.specs.Graphs.{Graph, is_live}
use Rattle.graph_spec.specs.Members.{at}
use Rattle.label_graph.specs.GraphViews.{label_number}
use Rattle.bisim_spec.specs.Below.{count_below}
use Rattle.block_partition.specs.LabelledPartitions.{Partition}

-- the number of a live node's own block: how many live nodes come before it
abbrev pub own_block : Graph → ℕ → ℕ
own_block g n = count_below n (is_live g)

-- that number where the node is live, and else none
abbrev pub lone_block : Graph → ℕ → Option ℕ
lone_block g n = if is_live g n then Some (own_block g n) else None

-- Each live node has a block of its own, with its label.
pub record IsLone (g : Graph) (p : Partition) : Type 0 where
  -- each live node is alone in its block
  pub block : (n : ℕ) → at p.block_of n ≡ lone_block g n
  -- the block has the node's label
  pub labelled : (n l : ℕ) → label_number g n ≡ Some l → at p.labels (own_block g n) ≡ Some l

-- The same of the nodes below n, in lists.
pub record AreLoneBelow (g : Graph) (n : ℕ) (block : List (Option ℕ)) (labels : List ℕ) : Type 0 where
  -- there is an entry for each number below n
  pub all : length block ≡ n
  -- there are as many blocks as live nodes below n
  pub count : length labels ≡ own_block g n
  -- each live node has a block of its own
  pub blocks : (m : ℕ) → m < n → at block m ≡ lone_block g m
  -- its label is that of the node
  pub labelled : (m l : ℕ) → m < n → label_number g m ≡ Some l → slice_get labels (own_block g m) ≡ Some l

-- Partitions that are seen through tables of blocks.
use Rattle.std.specs.Prelude.{ℕ, Bool, List, Option, IsTrue}
use Rattle.graph_spec.specs.Shapes.{Shape, IsShape}
use Rattle.bisim_spec.specs.Stability.{Stable, Minimal}
use Rattle.one_spec.specs.Merges.{Merges, IsChildBlock}
use Rattle.one_spec.specs.BlockLabels.{IsLabelled}

-- The partition is a stable one of the graph, two blocks have one label in the tables exactly if their members have, and
-- blocks are adjacent there exactly if an edge leads between them.
pub record IsViewed (s : Shape) (block : List (Option ℕ)) (labels : ℕ → Option ℕ) (adjacent : ℕ → ℕ → Bool) : Type 0 where
  -- nodes are below the size, and edges join nodes
  pub shape : IsShape s
  -- the partition is stable
  pub stable : Stable s block
  -- two blocks have equal labels in the tables exactly where their members have
  pub labelled : IsLabelled s block labels
  -- where an edge leads from a member of a to one of b, the two are adjacent in the tables
  pub into : (a b : ℕ) → IsChildBlock s block a b → IsTrue (adjacent a b)
  -- and only there
  pub from : (a b : ℕ) → IsTrue (adjacent a b) → IsChildBlock s block a b

-- merged to the end
pub record IsMergedToEnd (s : Shape) (first block : List (Option ℕ)) : Type 0 where
  -- pairs of blocks were merged, each of which could be when its turn came
  pub merges : Merges s first block
  -- no two blocks that are left can be merged
  pub minimal : Minimal s block

-- Which views of a file fit its graph.
use Rattle.std.specs.Prelude.{ℕ, List, Option, Some, None, slice_get}
use Rattle.graph_spec.specs.Shapes.{Shape, shape_of}
use Rattle.bisim_spec.specs.Bisimilarity.{Bis, Both, FB}
use Rattle.bisim_spec.specs.Partitions.{Agrees}
use Rattle.bisim_spec.specs.Stability.{Stable, Minimal}
use Rattle.index_api.specs.declared.kinds.Via.{Via}
use Rattle.index_api.specs.declared.kinds.Via.TheVariants.{Data, A, One, Fb, B}
use Rattle.index_file.specs.SavedFiles.{SavedFile, SavedView}

-- Stable, and no two blocks can be merged. A graph with cycles may have several such partitions.
pub record IsStableMinimal (s : Shape) (block : List (Option ℕ)) : Type 0 where
  -- nodes of one block have one label, and parents in the same blocks
  pub stable : Stable s block
  -- no two blocks can be merged
  pub minimal : Minimal s block

-- the partition is one of the index
abbrev pub IsPartitionVia : Shape → Via → List (Option ℕ) → Type 0
IsPartitionVia s Data block = ⊥
IsPartitionVia s (A level) block = Agrees s block (Bis s level)
IsPartitionVia s One block = IsStableMinimal s block
IsPartitionVia s Fb block = Agrees s block (FB s)
IsPartitionVia s (B level) block = Agrees s block (Both s level)

-- there is such a view, and it fits the graph of the file
abbrev pub FitsSaved : SavedFile → Option SavedView → Type 0
FitsSaved file None = ⊥
FitsSaved file (Some v) = IsPartitionVia (shape_of file.graph) v.via v.block_of

-- the view at that place fits the graph
abbrev pub FitsView : SavedFile → ℕ → Type 0
FitsView file j = FitsSaved file (slice_get file.views j)

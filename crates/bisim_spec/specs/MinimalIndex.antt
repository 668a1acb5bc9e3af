-- The partitions of a 1-index that is kept through changes (the minimal 1-indexes of K. Yi, H. He, I. Stanoi and J. Yang,
-- "Incremental Maintenance of XML Structural Indexes", SIGMOD 2004).
use Rattle.std.specs.Prelude.{ℕ, List, Option}
use Rattle.graph_spec.specs.Shapes.{Shape}
use Rattle.bisim_spec.specs.Bisimilarity.{Bisim}
use Rattle.bisim_spec.specs.Partitions.{Agrees}
use Rattle.bisim_spec.specs.Stability.{Stable, Minimal}
use Rattle.bisim_spec.specs.Reach.{Acyclic}

-- It is stable, no two of its blocks can be merged, and where no walk comes back to its beginning it is full bisimilarity.
pub record IsMinimalIndex (s : Shape) (block : List (Option ℕ)) : Type 0 where
  -- nodes of one block have one label, and parents in the same blocks
  pub stable : Stable s block
  -- no two blocks can be merged
  pub minimal : Minimal s block
  -- on an acyclic graph two nodes share a block exactly where they are fully bisimilar
  pub whole : Acyclic s → Agrees s block (Bisim s)

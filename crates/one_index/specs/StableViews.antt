-- Index graphs of stable partitions.
use Rattle.std.specs.Prelude.{ℕ, ◌≡◌, List, Some, slice_get}
use Rattle.graph_spec.specs.Graphs.{Graph, label_of}
use Rattle.graph_spec.specs.Shapes.{shape_of}
use Rattle.graph_spec.specs.Members.{at}
use Rattle.bisim_spec.specs.Stability.{Stable}
use Rattle.bisim_spec.specs.Supports.{edges_between}
use Rattle.bisim_spec.specs.IndexGraphs.{View, support_at}

-- The partition is stable, members have their block's label, and supports are the numbers of edges. Blocks may have no members.
pub record IsStableView (g : Graph) (v : View) : Type 0 where
  -- the members of a block have one label and the same parent blocks
  pub stable : Stable (shape_of g) v.block_of
  -- each member has its block's label
  pub labelled : (n b : ℕ) → at v.block_of n ≡ Some b
      → (l : ℕ) × (t : List ℕ) × (at v.labels b ≡ Some l) × (slice_get g.seen l ≡ Some t) × (label_of g n ≡ Some t)
  -- the support of a pair is the number of edges from the one block to the other
  pub supports : (a b : ℕ) → support_at v.supports a b ≡ edges_between g.edges v.block_of a b

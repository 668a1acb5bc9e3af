-- What makes a view fit.
use Rattle.std.proofs.Common.{ℕ, refl, arith}
use Rattle.graph_spec.specs.Graphs.{Graph, IsGraph}
use Rattle.graph_spec.specs.Shapes.{shape_of}
use Rattle.graph_spec.proofs.GraphLaws.{is_shape}
use Rattle.bisim_spec.specs.declared.kind.Kind.{Kind}
use Rattle.bisim_spec.specs.declared.kind.Kind.TheVariants.{A, One, Fb, B}
use Rattle.bisim_spec.specs.Bisimilarity.{Bisim}
use Rattle.bisim_spec.specs.Partitions.{Agrees}
use Rattle.bisim_spec.specs.Stability.{Stable, Minimal}
use Rattle.bisim_spec.specs.IndexGraphs.{View, ViewFits}
use Rattle.bisim_spec.specs.Fits.{FitsOne, HasCount, view_count}
use Rattle.bisim_spec.proofs.Stable.{bisim_stable, bisim_minimal}
use Rattle.bisim_spec.proofs.Ranks.{acyclic_full}

-- as many views as are kept up to a level are as many as there may be
pub count_lawful : (kind : Kind) (k : ℕ) → HasCount kind (view_count kind k)
count_lawful A k = omega arith
count_lawful One k = refl
count_lawful Fb k = refl
count_lawful B k = omega arith

-- a view whose partition is stable, and of which no two blocks can be merged, is one of the 1-index
pub fits_one : (g : Graph) (v : View) → IsGraph g → ViewFits g v → Stable (shape_of g) v.block_of → Minimal (shape_of g) v.block_of → FitsOne g v
fits_one g v graph view stable minimal = record {
  view = view;
  index = record {
    stable = stable;
    minimal = minimal;
    whole = λ acyclic. acyclic_full (shape_of g) v.block_of (is_shape g graph) acyclic stable minimal;
  };
}

-- so is full bisimilarity
pub fits_full : (g : Graph) (v : View) → IsGraph g → ViewFits g v → Agrees (shape_of g) v.block_of (Bisim (shape_of g)) → FitsOne g v
fits_full g v graph view agrees =
    fits_one g v graph view (bisim_stable (shape_of g) v.block_of (is_shape g graph) agrees) (bisim_minimal (shape_of g) v.block_of (is_shape g graph) agrees)

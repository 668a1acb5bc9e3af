-- The classes of full bisimilarity as an index that fits.
use Rattle.std.proofs.Common.{◌≡◌, sym, subst}
use Rattle.graph_spec.specs.Graphs.{Graph, IsGraph}
use Rattle.graph_spec.specs.Shapes.{shape_of}
use Rattle.bisim_spec.specs.Bisimilarity.{Bisim}
use Rattle.bisim_spec.specs.Partitions.{Agrees}
use Rattle.bisim_spec.specs.IndexGraphs.{ViewFits}
use Rattle.bisim_spec.specs.Fits.{FitsOne}
use Rattle.bisim_spec.proofs.FitLaws.{fits_full}
use Rattle.block_partition.specs.LabelledPartitions.{Partition}
use Rattle.quotient.specs.Quotients.{Quotient, AreSupports, view_of}
use Rattle.coarsest_partition.specs.IndexBlocks.{FitsWithSupports}

pub full_fits : (g : Graph) (q : Quotient) (p : Partition) → IsGraph g → q.blocks ≡ p → Agrees (shape_of g) p.block_of (Bisim (shape_of g)) → FitsWithSupports g p
    → AreSupports g.edges p.block_of q.supports → FitsOne g (view_of q)
full_fits g q p graph same agrees fits supports =
    fits_full g (view_of q) graph
    (subst (λ (b : Partition). ViewFits g (record { block_of = b.block_of; labels = b.labels; supports = q.supports })) (sym same) (fits q.supports supports))
    (subst (λ (b : Partition). Agrees (shape_of g) b.block_of (Bisim (shape_of g))) (sym same) agrees)

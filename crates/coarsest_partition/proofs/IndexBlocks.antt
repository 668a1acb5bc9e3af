-- A partition with labels and members, as the blocks of an index graph.
use Rattle.std.proofs.Common.{◌≡◌, ℕ, List, Option, Some, None, refl, ap, ◌∙◌, slice_get}
use Rattle.std.specs.Prelude.{option_and_then}
use Rattle.graph_spec.specs.Graphs.{Graph, IsGraph, label_of}
use Rattle.graph_spec.specs.Members.{at}
use Rattle.graph_spec.specs.Shapes.{Shape, shape_of}
use Rattle.label_graph.specs.GraphViews.{label_number}
use Rattle.label_graph.proofs.Viewed.{viewed_shape}
use Rattle.block_partition.specs.LabelledPartitions.{Partition}
use Rattle.block_splitting.specs.Splits.{AreLabelled, AreInhabited}
use Rattle.bisim_spec.specs.Partitions.{IsPartition}
use Rattle.coarsest_partition.specs.IndexBlocks.{FitsWithSupports}
use Rattle.bisim_spec.proofs.Bisimilar.{some_of, is_some_at}

found : (o : Option ℕ) (seen : List (List ℕ)) (t : List ℕ) → option_and_then (slice_get seen) o ≡ Some t → (l : ℕ) × (o ≡ Some l) × (slice_get seen l ≡ Some t)
found None seen t e = absurd (cc)
found (Some l) seen t e = (l, refl, e)

-- is one of an index graph
pub fits_with : (g : Graph) (p : Partition) → IsGraph g → IsPartition (shape_of g) p.block_of → AreLabelled g p → AreInhabited p → FitsWithSupports g p
fits_with g p is partition labelled inhabited supports counted = record {
  inhabited = inhabited.each;
  labelled = λ n b e.
      let t = some_of (label_of g n) (partition.only n (is_some_at (at p.block_of n) b e)) in
      let l = found (label_number g n) g.seen t.0 (ap (λ (s : Shape). s.label n) (viewed_shape g is) ∙ t.1) in
      (l.0, t.0, labelled.each n b e ∙ l.1, l.2, t.1);
  supports = counted;
}

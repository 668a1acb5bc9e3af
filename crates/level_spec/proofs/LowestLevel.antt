-- The lowest level, whose blocks are told apart by labels.
use Rattle.std.proofs.Common.{◌≡◌, ℕ, List, [], ◌∷◌, Option, Some, is_some, sym, ◌∙◌, ap, true≢false}
use Rattle.graph_spec.specs.Graphs.{Graph, IsGraph}
use Rattle.graph_spec.specs.Shapes.{shape_of}
use Rattle.graph_spec.specs.Members.{at}
use Rattle.label_graph.specs.GraphViews.{label_number}
use Rattle.bisim_spec.specs.Bisimilarity.{SameLabel}
use Rattle.bisim_spec.specs.Partitions.{IsPartition, Agrees}
use Rattle.bisim_spec.proofs.Bisimilar.{some_of}
use Rattle.bisim_levels.specs.NeighbourSides.{no_neighbours}
use Rattle.bisim_spec.specs.Refinement.{Refines}
use Rattle.bisim_levels.proofs.LabelledNodes.{node_number, number_node}
use Rattle.bisim_levels.proofs.LevelLaws.{labels_agree}
use Rattle.one_spec.specs.BlockLabels.{BlocksHaveLabels}
use Rattle.level_spec.specs.Keyed.{AreDistinctKeys, AreLabelled}

some_same : (a b c d : ℕ) → Some a ≡ Some b → Some c ≡ Some d → a ≡ c → b ≡ d
some_same a b c d e f h = cc

refines : (g : Graph) (block labels : List (Option ℕ)) (key : ℕ → Option (List ℕ)) → IsGraph g → IsPartition (shape_of g) block
    → BlocksHaveLabels block (at labels) (label_number g) → AreLabelled labels key → AreDistinctKeys key → Refines (label_number g) [] no_neighbours block
refines g block labels key graph partition block_labels labelled apart = record {
  kept = λ n h. partition.live n (number_node g n h);
  only = λ n h. node_number g graph n (partition.only n h);
  parted = λ u v t.
      let a = block_labels.is u t.0 t.1 in
      let b = block_labels.is v t.0 t.2 in
      let e = a.1 in
      let f = b.1 in
      let same : b.0 ≡ a.0 = cc in
      record {
        one_number = (a.0, a.2, b.2 ∙ ap Some same);
        neighbours = record { there = λ p h. absurd (true≢false (sym h)); back = λ p h. absurd (true≢false (sym h)) };
      };
  grouped = λ u v h.
      let l = h.one_number in
      let x = some_of (at block u) (partition.live u (number_node g u (ap is_some l.1))) in
      let y = some_of (at block v) (partition.live v (number_node g v (ap is_some l.2))) in
      let a = block_labels.is u x.0 x.1 in
      let b = block_labels.is v y.0 y.1 in
      let ea = a.2 in
      let la = l.1 in
      let eb = b.2 in
      let lb = l.2 in
      let first : a.0 ≡ l.0 = cc in
      let second : b.0 ≡ l.0 = cc in
      let one = apart.apart x.0 y.0 (l.0 ∷ []) (labelled.is x.0 l.0 (a.1 ∙ ap Some first)) (labelled.is y.0 l.0 (b.1 ∙ ap Some second)) in
      (x.0, x.1, y.1 ∙ ap Some (sym one));
}

-- where keys are labels, and no two blocks have one, the partition is that by labels
pub lowest_agrees : (g : Graph) (block labels : List (Option ℕ)) (key : ℕ → Option (List ℕ)) → IsGraph g → IsPartition (shape_of g) block
    → BlocksHaveLabels block (at labels) (label_number g) → AreLabelled labels key → AreDistinctKeys key → Agrees (shape_of g) block (SameLabel (shape_of g))
lowest_agrees g block labels key graph partition block_labels labelled apart = labels_agree g graph block (refines g block labels key graph partition block_labels labelled apart)

-- Nodes that are parted by their labels.
use Rattle.std.proofs.Common.{◌≡◌, ℕ, List, [], Option, is_some, sym, ◌∙◌, ap, true≢false}
use Rattle.std.specs.Prelude.{option_and_then, slice_get, bytes_eq}
use Rattle.std.specs.List.{position}
use Rattle.graph_spec.specs.Graphs.{Graph, IsGraph, label_of}
use Rattle.graph_spec.specs.Shapes.{shape_of}
use Rattle.label_graph.specs.GraphViews.{label_number}
use Rattle.bisim_spec.specs.Bisimilarity.{SameLabel}
use Rattle.bisim_spec.specs.Partitions.{Agrees}
use Rattle.bisim_levels.specs.NeighbourSides.{no_neighbours}
use Rattle.bisim_spec.specs.Refinement.{Share, Refines}
use Rattle.bisim_spec.proofs.Bisimilar.{some_of}
use Rattle.bisim_levels.proofs.LabelledNodes.{label_at, node_number, number_node}

-- nodes of one label have one number for it
numbers_same : (g : Graph) → IsGraph g → (u v : ℕ) → SameLabel (shape_of g) u v → Share (label_number g) u v
numbers_same g s u v h =
    let number = some_of (label_number g u) (node_number g s u (ap is_some h.1)) in
    (number.0, number.1, ap (option_and_then (λ t. position (bytes_eq t) g.seen)) (h.2 ∙ sym h.1) ∙ number.1)

labels_same : (g : Graph) → IsGraph g → (u v : ℕ) → Share (label_number g) u v → SameLabel (shape_of g) u v
labels_same g s u v h =
    let text = some_of (label_of g u) (number_node g u (ap is_some h.1)) in
    let one : label_of g v ≡ label_of g u = sym (label_at g s v) ∙ ap (option_and_then (slice_get g.seen)) (h.2 ∙ sym h.1) ∙ label_at g s u in
    (text.0, text.1, one ∙ text.1)

-- nodes that are parted by the numbers of their labels alone
pub labels_agree : (g : Graph) → IsGraph g → (next : List (Option ℕ)) → Refines (label_number g) [] no_neighbours next → Agrees (shape_of g) next (SameLabel (shape_of g))
labels_agree g s next r = record {
  partition = record {
    live = λ n h. r.kept n (node_number g s n h);
    only = λ n h. number_node g n (r.only n h);
  };
  related = λ u v t. labels_same g s u v (r.parted u v t).one_number;
  grouped = λ u v nu nv h. r.grouped u v (record {
    one_number = numbers_same g s u v h;
    neighbours = record { there = λ p e. absurd (true≢false (sym e)); back = λ p e. absurd (true≢false (sym e)) };
  });
}

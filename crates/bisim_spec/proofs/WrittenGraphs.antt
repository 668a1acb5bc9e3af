-- Small graphs that are written out: their shapes are those that are drawn.
use Rattle.std.proofs.Common.{◌≡◌, ℕ, zero, suc, List, [], ◌∷◌, Some, refl, ap, ◌∙◌}
use Rattle.std.specs.Prelude.{◌&&◌, ◌||◌, nat_eq, map, slice_get, option_and_then}
use Rattle.std.specs.List.{list_any}
use Rattle.std.specs.FinSet as set
use Rattle.std.proofs.lemmas.List.{length-map}
use Rattle.graph_spec.specs.Graphs.{Graph, Edges, edge_cmp, has_edge}
use Rattle.graph_spec.specs.Shapes.{shape_of}
use Rattle.graph_spec.proofs.GraphLaws.{edge_with}
use Rattle.bisim_spec.proofs.WrittenShapes.{shape_of_list, is_edge}

abbrev pub edge_set : List (ℕ × ℕ) → Edges
edge_set [] = set.empty
edge_set (e ∷ edges) = set.insert (edge_set edges) e

-- the labels seen, the labels of the nodes, numbered from 0 on, and the edges
abbrev pub graph_from : List (List ℕ) → List (List ℕ) → List (ℕ × ℕ) → Graph
graph_from seen labels edges = record { allocated = map Some labels; edges = edge_set edges; seen = seen }

label_from_list : (labels : List (List ℕ)) (n : ℕ) → option_and_then (λ l. l) (slice_get (map Some labels) n) ≡ slice_get labels n
label_from_list [] n = refl
label_from_list (t ∷ labels) zero = refl
label_from_list (t ∷ labels) (suc n) = label_from_list labels n

edge_from_list : (seen labels : List (List ℕ)) (edges : List (ℕ × ℕ)) (u v : ℕ) → has_edge (graph_from seen labels edges) u v ≡ list_any (is_edge u v) edges
edge_from_list seen labels [] u v = set.contains-empty edge_cmp (u, v)
edge_from_list seen labels (e ∷ edges) u v =
    edge_with (graph_from seen labels edges) e.0 e.1 u v ∙ ap (λ b. (nat_eq u e.0 && nat_eq v e.1) || b) (edge_from_list seen labels edges u v)

pub shape_from_list : (seen labels : List (List ℕ)) (edges : List (ℕ × ℕ)) → shape_of (graph_from seen labels edges) ≡ shape_of_list labels edges
shape_from_list seen labels edges i = record {
  size = length-map labels Some i;
  label = λ n. label_from_list labels n i;
  edge = λ u v. edge_from_list seen labels edges u v i;
}

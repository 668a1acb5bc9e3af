-- Graphs whose labels are numbers, as shapes.
use Rattle.std.specs.Prelude.{ℕ, Bool, [], ◌∷◌, Option, option_map}
use Rattle.graph_spec.specs.Shapes.{Shape}
use Rattle.label_graph.specs.declared.digraph.Digraph.{Ghosts as Digraph}

-- the label of a node is the text of its number alone
abbrev pub shape_by_number : ℕ → (ℕ → Option ℕ) → (ℕ → ℕ → Bool) → Shape
shape_by_number size label edge = record { size = size; label = λ n. option_map (λ l. l ∷ []) (label n); edge = edge }

-- the same of a graph that is read through `Digraph`
abbrev pub digraph_shape : {A : Type 0} → Digraph A → A → Shape
digraph_shape G g = shape_by_number (G.span g) (G.label_at g) (G.edge g)

-- A part of a graph.
use Rattle.std.specs.Prelude.{ℕ, ◌&&◌, Bool, None, if◌then◌else◌}
use Rattle.graph_spec.specs.Shapes.{Shape}

-- the nodes that a test keeps, and the edges between these
abbrev pub part_of : (ℕ → Bool) → Shape → Shape
part_of keeps s = record {
  size = s.size;
  label = λ n. if keeps n then s.label n else None;
  edge = λ u v. keeps u && (keeps v && s.edge u v);
}

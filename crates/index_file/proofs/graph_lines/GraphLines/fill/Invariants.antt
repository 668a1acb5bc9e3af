use Rattle.std.specs.Prelude.{string_bytes}
use Rattle.index_file.specs.GraphParts.{lines_left, steps_left, Gave}
use Rattle.index_file.proofs.graph_lines.GraphLines.fill.Given as goal

abbrev pub invariant-loop-self : goal.invariant-loop-self
invariant-loop-self g l = Gave (string_bytes l.fn.out) (string_bytes l.out) (lines_left l.graph.graph l.fn.self) (lines_left l.graph.graph l.self)

abbrev pub decreases-loop-self : goal.decreases-loop-self
decreases-loop-self g l = steps_left l.graph.graph l.self

use Rattle.std.proofs.Common.{◌≡◌, ◌++◌, length}
use Rattle.std.specs.Prelude.{string_bytes}
use Rattle.index_file.specs.GraphParts.{lines_left}
use Rattle.index_file.proofs.graph_text.push_all.Given as goal

abbrev pub invariant-loop : goal.invariant-loop
invariant-loop l = string_bytes l.out ++ lines_left l.graph.graph l.lines ≡ string_bytes l.fn.out ++ lines_left l.graph.graph l.fn.lines

abbrev pub decreases-loop : goal.decreases-loop
decreases-loop l = length (lines_left l.graph.graph l.lines)

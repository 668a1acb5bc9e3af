use Rattle.std.proofs.Common.{◌≡◌, ◌++◌, ◌-◌, string_bytes}
use Rattle.workload.specs.MadeTexts.{graph_lines, lines_text}
use Rattle.workload.proofs.graph.push_lines.Given as goal

abbrev pub invariant-loop : goal.invariant-loop
invariant-loop l =
    string_bytes l.out ++ lines_text (graph_lines (l.count - l.counter) l.generator.state)
    ≡ string_bytes l.fn.out ++ lines_text (graph_lines l.count l.fn.generator.state)

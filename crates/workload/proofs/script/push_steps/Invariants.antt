use Rattle.std.proofs.Common.{◌≡◌, ◌++◌, ◌+◌, ◌-◌, string_bytes}
use Rattle.workload.specs.MadeTexts.{last_lines, lines_text, steps_onto}
use Rattle.workload.proofs.script.push_steps.Given as goal

abbrev pub invariant-loop-i : goal.invariant-loop-i
invariant-loop-i l =
    string_bytes l.out ++ lines_text (steps_onto l.nodes (l.count - l.i) (l.nodes + l.i) l.generator.state last_lines)
    ≡ string_bytes l.fn.out ++ lines_text (steps_onto l.nodes l.count l.nodes l.fn.generator.state last_lines)

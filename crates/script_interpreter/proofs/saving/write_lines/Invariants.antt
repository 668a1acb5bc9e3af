use Rattle.std.proofs.Common.{◌≡◌, length}
use Rattle.index_file.specs.GraphParts.{lines_left}
use Rattle.script_interpreter.specs.Pieces.{WroteNext}
use Rattle.script_interpreter.proofs.saving.write_lines.Given as goal

abbrev pub invariant-parts : goal.invariant-parts
invariant-parts g l = record {
  parts : WroteNext (g.K.Sink.written l.fn.sink) (g.K.Sink.written l.sink) (lines_left l.graph.graph l.fn.lines) (lines_left l.graph.graph l.lines);
  faults : g.K.Sink.faults l.sink ≡ g.K.Sink.faults l.fn.sink;
}

abbrev pub decreases-parts : goal.decreases-parts
decreases-parts g l = length (lines_left l.graph.graph l.lines)

use Rattle.std.proofs.Common.{length, drop}
use Rattle.path_spec.specs.Trimmed.{trimmed_seq}
use Rattle.path_expr.specs.Compiled.{Grows, StandMore}
use Rattle.path_expr.proofs.trimming.compile_trimmed.Given as goal

abbrev pub invariant-loop-j : goal.invariant-loop-j
invariant-loop-j l = record {
  grows : Grows l.initial.program l.program;
  stands : StandMore l.labels.texts l.program (length l.initial.program) trimmed_seq (drop l.j l.expr-inside.more.items) l.next l.behind;
}

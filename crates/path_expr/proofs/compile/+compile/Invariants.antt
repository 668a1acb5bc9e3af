use Rattle.std.proofs.Common.{◌<◌, ◌≤◌, length, drop}
use Rattle.path_expr.specs.Compiled.{Grows, StandMore, StandRest}
use Rattle.path_expr.proofs.compile.+compile.Given as goal

abbrev pub invariant-compile_rest-loop-j : goal.invariant-compile_rest-loop-j
invariant-compile_rest-loop-j l = record {
  past : l.from ≤ l.j;
  grows : Grows l.initial.program l.program;
  inside : l.after < length l.program;
  stands : StandRest l.labels.texts l.program (length l.initial.program) (drop l.j l.seq.rest.items) l.next l.after;
}

abbrev pub invariant-compile_expr-loop-j : goal.invariant-compile_expr-loop-j
invariant-compile_expr-loop-j l = record {
  grows : Grows l.initial.program l.program;
  stands : StandMore l.labels.texts l.program (length l.initial.program) (λ s. s) (drop l.j l.expr-inside.more.items) l.next l.behind;
}

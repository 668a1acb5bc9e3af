use Rattle.std.proofs.Common.{None, Some, refl, sym, subst, true≢false}
use Rattle.graph_steps.specs.StepLists.{step_of}
use Rattle.script_read.specs.Commands.{IsSpelled}
use Rattle.script_read.specs.ReadLines.{command_of}
use Rattle.script_interpreter.specs.Runs.{with_step}
use Rattle.script_interpreter.proofs.GroupLemmas.{adds_taken, ends_taken, not_in_group, none_kept}
use Rattle.script_interpreter.proofs.interpreter.take_inner.Goals as goal

pub returns-then-is_end-clause-ok : goal.returns-then-is_end-clause-ok
returns-then-is_end-clause-ok g c n number line group spelled k = (
  None,
  none_kept _ c.in_ok-end.ensures.ended,
  ends_taken _ number line group c.args.output.now _ _ _ (subst (IsSpelled line) (c.if-is_end.ensures.0 refl) spelled) (c.in_ok-end.ensures.ok n group k),
)

pub returns-in_ok-keep-in-Some-clause-ok : goal.returns-in_ok-keep-in-Some-clause-ok
returns-in_ok-keep-in-Some-clause-ok g c n number line group spelled k = (
  Some (with_step group (step_of c.in-Some.step)),
  c.in_ok-keep-in-Some.ensures.ok group k,
  adds_taken _ number line group (step_of c.in-Some.step) c.args.output.now (subst (IsSpelled line) c.in-Some.ensures.found spelled),
)

pub returns-in-None-clause-ok : goal.returns-in-None-clause-ok
returns-in-None-clause-ok g c n number line group spelled k = (
  Some group,
  k,
  record {
    bad = not_in_group line (command_of c.args.command) spelled c.in-None.ensures.absent (λ e. true≢false (sym (c.if-is_end.ensures.1 e)));
    state = refl;
    gathered_is = refl;
  },
)

use Rattle.std.proofs.Common.{true≢false, sym, [], None, Some, refl, inr, subst}
use Rattle.script_read.specs.Commands.{IsSpelled}
use Rattle.script_read.specs.ReadLines.{command_of}
use Rattle.script_interpreter.proofs.GroupLemmas.{begins_taken, marks_save, none_kept}
use Rattle.script_interpreter.proofs.interpreter.take_mark.Goals as goal

pub returns-in_ok-begin : goal.returns-in_ok-begin
returns-in_ok-begin c s old line spelled free =
    (Some (record { steps = []; line = c.args.number }), (c.in_ok-begin.ensures.empty, c.in_ok-begin.ensures.line), begins_taken s c.args.number line old (subst (IsSpelled line) (c.if-is_begin.ensures.0 refl) spelled))

pub returns-then-is_end : goal.returns-then-is_end
returns-then-is_end c s old line spelled free =
    (None, none_kept _ c.requires.none, record { bad = inr (subst (IsSpelled line) (c.if-is_end.ensures.0 refl) spelled); state = refl; gathered_is = refl })

pub returns-else-is_end : goal.returns-else-is_end
returns-else-is_end c s old line spelled free =
    let saves = marks_save (command_of c.args.command.now) c.requires.mark (λ e. true≢false (sym (c.if-is_begin.ensures.1 e))) (λ e. true≢false (sym (c.if-is_end.ensures.1 e))) in
    (None, none_kept _ c.requires.none, record { spelled = subst (IsSpelled line) saves spelled; free = free; outside = refl; left_is = refl; state = refl; gathered_is = refl })

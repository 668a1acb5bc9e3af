use Rattle.std.proofs.Common.{◌≡◌, ◌∙◌, ap, sym, subst, refl, rules, None, Err}
use Rattle.std.specs.Prelude.{is_some}
use Rattle.std.proofs.lemmas.Result.{err_from_is_err_and}
use Rattle.index_file.specs.WholeFiles.{HasLabels}
use Rattle.pathindex_core.specs.Engines.{by_meaning}
use Rattle.script_interpreter.specs.declared.script.Ending.TheVariants.{Bad}
use Rattle.script_interpreter.specs.Endings.{status_at}
use Rattle.script_interpreter.specs.EngineStates.{state_in}
use Rattle.script_interpreter.specs.States.{State}
use Rattle.script_interpreter.specs.Runs.{end_status}
use Rattle.script_interpreter.specs.Rules.{rules_for}
use Rattle.script_interpreter.specs.RunSteps.{progress}
use Rattle.script_interpreter.proofs.ReachedLemmas.{labels_reached, reached-start, reached-more, reached-written, ran-over, ran-bad, reached-saved, prefix-part, prefix-saved, prefix-bad, prefix-over, part_written, nothing_written, all_written, ok_fact, err_fact, err_value}
use Rattle.script_interpreter.proofs.KeptGroups.{kept_some}
use Rattle.script_interpreter.proofs.EngineCalls.{same_asked}
use Rattle.script_interpreter.proofs.PieceLaws.{file_of, part_of}
use Rattle.script_interpreter.proofs.script.run_lines.Goals as goal

pub returns-in_err-reader-clause-part : goal.returns-in_err-reader-clause-part
returns-in_err-reader-clause-part g c labels =
    let p = err_from_is_err_and c.from_residual.result c.from_residual.ensures.1 in
    rw p.1 (prefix-part _ _ (reached-start (rules_for c.args.printing) (state_in (by_meaning g.B.PathIndex.meaning c.args.engine.now) c.args.names.names) (g.H.Shelf.left c.args.shelf.now) (g.K.Sink.written c.args.sink.now)) _ (nothing_written _ _))

pub lines-init : goal.lines-init
lines-init g c = record {
  stands = record {
    group = None;
    is_kept = tt;
    reached = λ _. rw (c.in_ok-reader.ensures, c.new-output.ensures) (reached-start (rules_for c.args.printing) (state_in (by_meaning g.B.PathIndex.meaning c.args.engine.now) c.args.names.names) (g.H.Shelf.left c.args.shelf.now) (g.K.Sink.written c.args.sink.now));
  };
  printing = ap (λ o. o.printing) c.new-output.ensures;
  ready = c.requires.ready;
  can = rw c.in_ok-reader.ensures (search rules);
  taken = rw c.in_ok-reader.ensures (search rules);
  files = search rules;
  shelf_faults = search rules;
  sink_faults = search rules;
}

pub returns-in_err-flush_if_due-clause-part : goal.returns-in_err-flush_if_due-clause-part
returns-in_err-flush_if_due-clause-part g c labels =
    let p = err_from_is_err_and c.from_residual-in_err-flush_if_due.result c.from_residual-in_err-flush_if_due.ensures.1 in
    rw p.1 (prefix-part _ _ (c.lines.invariant.stands.reached labels) _ (part_written _ _ _ c.in_err-flush_if_due.ensures.part))

pub lines-preserved-in-Ok-Taken : goal.lines-preserved-in-Ok-Taken
lines-preserved-in-Ok-Taken g c =
    let step = c.in-Ok-Taken.ensures.goes c.lines.invariant.stands.group c.lines.invariant.stands.is_kept in
    let goes = rw (c.in-Ok-Taken.field-0-is, c.in_ok-flush_if_due.ensures.kept, c.lines.invariant.printing) at step.3 in
    record {
      stands = record {
        group = step.0;
        is_kept = step.1;
        reached = λ labels. reached-more (reached-written (c.lines.invariant.stands.reached labels) _ _ c.in_ok-flush_if_due.ensures.written) goes.0 goes.1 _ _ _ goes.2 goes.3 goes.4;
      };
      printing = step.2 ∙ ap (λ o. o.printing) c.in_ok-flush_if_due.ensures.kept ∙ c.lines.invariant.printing;
      ready = c.next_line.ensures.ready;
      can = rw c.in-Ok-Taken.field-0-is at c.in-Ok-Taken.ensures.can;
      taken = (rw c.in-Ok-Taken.field-0-is at c.in-Ok-Taken.ensures.nearer).1;
      files = search rules;
      shelf_faults = search rules;
      sink_faults = search rules;
    }

pub lines-preserved : goal.lines-preserved
lines-preserved g c =
    let step = c.in-Ok-Saves.ensures.goes c.lines.invariant.stands.group c.lines.invariant.stands.is_kept in
    let goes = rw (c.in-Ok-Saves.field-0-is, c.in_ok-flush_if_due.ensures.kept, c.lines.invariant.printing) at step.3 in
    let flushed = rw goes.4 at c.in_ok-flush-in-Ok-Saves.ensures.all in
    rw (c.in_ok-flush-in-Ok-Saves.ensures.empty) (record {
      stands = record {
        group = step.0;
        is_kept = step.1;
        reached = λ labels.
            let before = reached-written (c.lines.invariant.stands.reached labels) _ _ c.in_ok-flush_if_due.ensures.written in
            let here = subst (λ (s : State). HasLabels s.graph) (sym goes.3) (labels_reached before labels) in
            rw (same_asked c.next_line.new.names.names _ _ c.in_ok-save-in-Ok-Saves.ensures.asked)
            (reached-saved before goes.0 _ _ _ _ _ goes.1 goes.2 flushed (file_of _ _ _ _ goes.3 (c.in_ok-save-in-Ok-Saves.ensures.all here)));
      };
      printing = step.2 ∙ ap (λ o. o.printing) c.in_ok-flush_if_due.ensures.kept ∙ c.lines.invariant.printing;
      ready = c.in_ok-save-in-Ok-Saves.ensures.ready;
      can = rw c.in-Ok-Saves.field-0-is at c.in-Ok-Saves.ensures.can;
      taken = (rw c.in-Ok-Saves.field-0-is at c.in-Ok-Saves.ensures.nearer).1;
      files = search rules;
      shelf_faults = search rules;
      sink_faults = search rules;
    })

pub returns-in_err-flush-in-Ok-Saves-clause-part : goal.returns-in_err-flush-in-Ok-Saves-clause-part
returns-in_err-flush-in-Ok-Saves-clause-part g c labels =
    let step = c.in-Ok-Saves.ensures.goes c.lines.invariant.stands.group c.lines.invariant.stands.is_kept in
    let goes = rw (c.in-Ok-Saves.field-0-is, c.in_ok-flush_if_due.ensures.kept, c.lines.invariant.printing) at step.3 in
    let p = err_from_is_err_and c.from_residual-in_err-flush-in-Ok-Saves.result c.from_residual-in_err-flush-in-Ok-Saves.ensures.1 in
    rw p.1 (prefix-part _ _ (reached-written (c.lines.invariant.stands.reached labels) _ _ c.in_ok-flush_if_due.ensures.written) _
    (part_written _ _ _ (rw goes.4 at c.in_err-flush-in-Ok-Saves.ensures.part)))

pub returns-in_err-save-in-Ok-Saves-clause-part : goal.returns-in_err-save-in-Ok-Saves-clause-part
returns-in_err-save-in-Ok-Saves-clause-part g c labels =
    let step = c.in-Ok-Saves.ensures.goes c.lines.invariant.stands.group c.lines.invariant.stands.is_kept in
    let goes = rw (c.in-Ok-Saves.field-0-is, c.in_ok-flush_if_due.ensures.kept, c.lines.invariant.printing) at step.3 in
    let flushed = rw goes.4 at c.in_ok-flush-in-Ok-Saves.ensures.all in
    let before = reached-written (c.lines.invariant.stands.reached labels) _ _ c.in_ok-flush_if_due.ensures.written in
    let here = subst (λ (s : State). HasLabels s.graph) (sym goes.3) (labels_reached before labels) in
    let p = err_from_is_err_and c.from_residual-in_err-save-in-Ok-Saves.result c.from_residual-in_err-save-in-Ok-Saves.ensures.1 in
    rw p.1 (prefix-saved _ _ before goes.0 _ _ _ _ _ goes.1 goes.2 flushed (part_of _ _ _ _ goes.3 (c.in_err-save-in-Ok-Saves.ensures.part here)))

pub returns-in-Ok-AtBad-clause-ran : goal.returns-in-Ok-AtBad-clause-ran
returns-in-Ok-AtBad-clause-ran g c labels =
    let step = c.in-Ok-AtBad.ensures.goes c.lines.invariant.stands.group c.lines.invariant.stands.is_kept in
    let goes = rw (c.in-Ok-AtBad.field-0-is, c.in_ok-flush_if_due.ensures.kept, c.lines.invariant.printing) at step.3 in
    ok_fact c.finish.result Bad _ _ c.finish.ensures.ending c.finish.ensures.all
    (λ w. ran-bad _ _ (reached-written (c.lines.invariant.stands.reached labels) _ _ c.in_ok-flush_if_due.ensures.written) goes.0 _ _ goes.2 w _ (record { is_open = ap is_some c.next_line.ensures.ready.opened_is; graph = ap (λ (s : State). s.graph) goes.1; kept = ap (λ (s : State). s.kept) goes.1 }))

pub returns-in-Ok-AtBad-clause-part : goal.returns-in-Ok-AtBad-clause-part
returns-in-Ok-AtBad-clause-part g c labels =
    let step = c.in-Ok-AtBad.ensures.goes c.lines.invariant.stands.group c.lines.invariant.stands.is_kept in
    let goes = rw (c.in-Ok-AtBad.field-0-is, c.in_ok-flush_if_due.ensures.kept, c.lines.invariant.printing) at step.3 in
    err_fact c.finish.result _ _ c.finish.ensures.part
    (λ w. prefix-bad _ _ (reached-written (c.lines.invariant.stands.reached labels) _ _ c.in_ok-flush_if_due.ensures.written) goes.0 _ _ goes.2 (part_written _ _ _ w))

pub returns-in-Ok-AtEnd-clause-ran : goal.returns-in-Ok-AtEnd-clause-ran
returns-in-Ok-AtEnd-clause-ran g c labels =
    let step = c.in-Ok-AtEnd.ensures.goes c.lines.invariant.stands.group c.lines.invariant.stands.is_kept in
    let goes = rw (c.in-Ok-AtEnd.field-0-is, c.in_ok-flush_if_due.ensures.kept) at step.3 in
    let p = progress (state_in (by_meaning g.B.PathIndex.meaning c.lines.engine) c.lines.names.names) c.lines.invariant.stands.group c.lines.output.refused c.lines.reader in
    let q = progress (state_in (by_meaning g.B.PathIndex.meaning c.next_line.new.engine) c.next_line.new.names.names) step.0 c.next_line.new.output.refused c.next_line.new.reader in
    let e : status_at c.ending_of-ending.result ≡ end_status p = c.ending_of-ending.ensures q (kept_some step.0 c.next_line.new.group step.1 ∙ sym c.is_some.ensures) (sym c.is_refused.ensures) ∙ goes.2 in
    ok_fact c.finish-in-Ok-AtEnd.result c.ending_of-ending.result _ _ c.finish-in-Ok-AtEnd.ensures.ending c.finish-in-Ok-AtEnd.ensures.all
    (λ w. rw e (ran-over _ _ (reached-written (c.lines.invariant.stands.reached labels) _ _ c.in_ok-flush_if_due.ensures.written) goes.0 _ _ goes.3 w _ (record { is_open = ap is_some c.next_line.ensures.ready.opened_is; graph = ap (λ (s : State). s.graph) goes.1; kept = ap (λ (s : State). s.kept) goes.1 })))

pub returns-in-Ok-AtEnd-clause-part : goal.returns-in-Ok-AtEnd-clause-part
returns-in-Ok-AtEnd-clause-part g c labels =
    let step = c.in-Ok-AtEnd.ensures.goes c.lines.invariant.stands.group c.lines.invariant.stands.is_kept in
    let goes = rw (c.in-Ok-AtEnd.field-0-is, c.in_ok-flush_if_due.ensures.kept) at step.3 in
    err_fact c.finish-in-Ok-AtEnd.result _ _ c.finish-in-Ok-AtEnd.ensures.part
    (λ w. prefix-over _ _ (reached-written (c.lines.invariant.stands.reached labels) _ _ c.in_ok-flush_if_due.ensures.written) goes.0 _ _ goes.3 (part_written _ _ _ w))

pub returns-in_err-flush-in-Err-Memory-clause-part : goal.returns-in_err-flush-in-Err-Memory-clause-part
returns-in_err-flush-in-Err-Memory-clause-part g c labels =
    let p = err_from_is_err_and c.from_residual-in_err-flush-in-Err-Memory.result c.from_residual-in_err-flush-in-Err-Memory.ensures.1 in
    rw p.1 (prefix-part _ _ (reached-written (c.lines.invariant.stands.reached labels) _ _ c.in_ok-flush_if_due.ensures.written) _
    (part_written _ _ _ (rw (c.in-Err-Memory.ensures.gathered c.lines.invariant.stands.group c.lines.invariant.stands.is_kept) at c.in_err-flush-in-Err-Memory.ensures.part)))

pub returns-in-Err-Memory-clause-part : goal.returns-in-Err-Memory-clause-part
returns-in-Err-Memory-clause-part g c labels =
    prefix-part _ _ (reached-written (c.lines.invariant.stands.reached labels) _ _ c.in_ok-flush_if_due.ensures.written) _
    (all_written _ _ _ (rw (c.in-Err-Memory.ensures.gathered c.lines.invariant.stands.group c.lines.invariant.stands.is_kept) at c.in_ok-flush-in-Err-Memory.ensures.all))

pub returns-in-Err-clause-part : goal.returns-in-Err-clause-part
returns-in-Err-clause-part g c labels =
    prefix-part _ _ (reached-written (c.lines.invariant.stands.reached labels) _ _ c.in_ok-flush_if_due.ensures.written) _ (nothing_written _ _)

pub returns-in-Ok-AtEnd-clause-sink_fault : goal.returns-in-Ok-AtEnd-clause-sink_fault
returns-in-Ok-AtEnd-clause-sink_fault g c e =
    let same : g.K.Sink.faults c.flush_if_due.new.sink ≡ g.K.Sink.faults c.args.sink.now = search rules in
    rw (← same) (c.finish-in-Ok-AtEnd.ensures.sink e)

pub returns-in-Ok-AtBad-clause-sink_fault : goal.returns-in-Ok-AtBad-clause-sink_fault
returns-in-Ok-AtBad-clause-sink_fault g c e =
    let same : g.K.Sink.faults c.flush_if_due.new.sink ≡ g.K.Sink.faults c.args.sink.now = search rules in
    rw (← same) (c.finish.ensures.sink e)

pub returns-in-Err-clause-shelf_fault : goal.returns-in-Err-clause-shelf_fault
returns-in-Err-clause-shelf_fault g c e = rw (← c.lines.invariant.shelf_faults) (c.in-Err.ensures.fault (ap Err (err_value _ _ _ refl e)))

pub returns-in_err-save-in-Ok-Saves-clause-sink_fault : goal.returns-in_err-save-in-Ok-Saves-clause-sink_fault
returns-in_err-save-in-Ok-Saves-clause-sink_fault g c e =
    let p = err_from_is_err_and c.from_residual-in_err-save-in-Ok-Saves.result c.from_residual-in_err-save-in-Ok-Saves.ensures.1 in
    let same : g.K.Sink.faults c.flush.new.sink ≡ g.K.Sink.faults c.args.sink.now = search rules in
    rw (← same) (c.in_err-save-in-Ok-Saves.ensures.sink (ap Err (sym p.2 ∙ err_value _ _ _ p.1 e)))

pub returns-in_err-save-in-Ok-Saves-clause-no_sink_fault : goal.returns-in_err-save-in-Ok-Saves-clause-no_sink_fault
returns-in_err-save-in-Ok-Saves-clause-no_sink_fault g c n =
    let p = err_from_is_err_and c.from_residual-in_err-save-in-Ok-Saves.result c.from_residual-in_err-save-in-Ok-Saves.ensures.1 in
    let same : g.K.Sink.faults c.flush.new.sink ≡ g.K.Sink.faults c.args.sink.now = search rules in
    c.in_err-save-in-Ok-Saves.ensures.no_sink (λ e. n (p.1 ∙ ap Err (p.2 ∙ err_value _ _ _ refl e))) ∙ same

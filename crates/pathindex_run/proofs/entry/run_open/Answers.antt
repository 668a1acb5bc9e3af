use Rattle.std.proofs.Common.{◌≡◌, ◌∙◌, Err, ap, inr, refl, arith, rules, subst}
use Rattle.px_base.specs.Causes.{MayHaveRisen}
use Rattle.command_line.specs.Forms.{runs}
use Rattle.command_line.specs.FormValues.{settings_value}
use Rattle.pathindex_core.specs.Engines.{by_meaning}
use Rattle.script_interpreter.specs.EngineStates.{state_in, IsIn}
use Rattle.pathindex_run.specs.Headline.{HasStatus}
use Rattle.pathindex_run.specs.StatusCodes.{code_of}
use Rattle.pathindex_run.proofs.RunLemmas.{observable_ran, observable_part, script_meets, script_missing}
use Rattle.pathindex_run.proofs.RunStatuses.{status_ended, status_unread, status_unwritten}
use Rattle.pathindex_run.proofs.CompleteLemmas.{script_completes}
use Rattle.pathindex_run.proofs.entry.run_open.Goals as goal

pub returns-in-Ok-clause-does : goal.returns-in-Ok-clause-does
returns-in-Ok-clause-does g c kinds first =
    let found = rw c.in-Ok-true.field-0-test at c.in-Ok-true.ensures.found in
    rw c.status_of.ensures (script_meets (settings_value c.args.settings.now) kinds (g.H.Shelf.files c.args.shelf.now) (state_in (by_meaning g.B.PathIndex.meaning c.args.engine.now) c.args.names.names) _ _ _ _ c.requires.begins first
    (observable_ran (state_in (by_meaning g.B.PathIndex.meaning c.args.engine.now) c.args.names.names) (settings_value c.args.settings.now).graph c.args.settings.now.script.now (g.H.Shelf.files c.args.shelf.now) (g.H.Shelf.left c.open.new.self) _ _ c.in-Ok.ending _ c.requires.begins found c.in-Ok.ensures.ran))

pub returns-in-Ok-clause-status : goal.returns-in-Ok-clause-status
returns-in-Ok-clause-status g c =
    let opened : g.H.Shelf.faults c.open.new.self ≡ g.H.Shelf.faults c.args.shelf.now = search rules in
    status_ended (settings_value c.args.settings.now) (g.H.Shelf.files c.args.shelf.now) (g.H.Shelf.faults c.args.shelf.now) (g.H.Shelf.faults c.run_lines.new.shelf) (g.K.Sink.faults c.args.sink.now) (g.K.Sink.faults c.run_lines.new.sink) c.in-Ok.ending (code_of c.status_of.result) c.status_of.ensures
    (c.in-Ok.ensures.no_shelf_fault (λ e. cc) ∙ opened) (c.in-Ok.ensures.no_sink_fault (λ e. cc))

pub returns-in-Err-Shelf-clause-status : goal.returns-in-Err-Shelf-clause-status
returns-in-Err-Shelf-clause-status g c =
    let opened : g.H.Shelf.faults c.open.new.self ≡ g.H.Shelf.faults c.args.shelf.now = search rules in
    status_unread (settings_value c.args.settings.now) (g.H.Shelf.files c.args.shelf.now) (g.H.Shelf.faults c.args.shelf.now) (g.H.Shelf.faults c.run_lines.new.shelf) (g.K.Sink.faults c.args.sink.now) (g.K.Sink.faults c.run_lines.new.sink)
    (subst (λ n. MayHaveRisen n (g.H.Shelf.faults c.run_lines.new.shelf)) opened (c.in-Err-Shelf.ensures.shelf_fault (ap Err c.in-Err-Shelf.field-0-is))) (c.in-Err-Shelf.ensures.no_sink_fault (λ e. (let is = c.in-Err-Shelf.field-0-is in cc)))

pub returns-in-Err-Sink-clause-status : goal.returns-in-Err-Sink-clause-status
returns-in-Err-Sink-clause-status g c =
    let opened : g.H.Shelf.faults c.open.new.self ≡ g.H.Shelf.faults c.args.shelf.now = search rules in
    status_unwritten (settings_value c.args.settings.now) (g.H.Shelf.files c.args.shelf.now) (g.H.Shelf.faults c.args.shelf.now) (g.H.Shelf.faults c.run_lines.new.shelf) (g.K.Sink.faults c.args.sink.now) (g.K.Sink.faults c.run_lines.new.sink)
    (c.in-Err-Sink.ensures.no_shelf_fault (λ e. (let is = c.in-Err-Sink.field-0-is in cc)) ∙ opened) (c.in-Err-Sink.ensures.sink_fault (ap Err c.in-Err-Sink.field-0-is))

pub returns-in-Ok-clause-complete : goal.returns-in-Ok-clause-complete
returns-in-Ok-clause-complete g c =
    let found = rw c.in-Ok-true.field-0-test at c.in-Ok-true.ensures.found in
    let files = g.H.Shelf.files c.args.shelf.now in
    let status : HasStatus (runs (settings_value c.args.settings.now)) files (g.H.Shelf.faults c.args.shelf.now) (g.H.Shelf.faults c.run_lines.new.shelf) (g.K.Sink.faults c.args.sink.now) (g.K.Sink.faults c.run_lines.new.sink) (code_of c.status_of.result) = returns-in-Ok-clause-status g c in
    script_completes (settings_value c.args.settings.now) files (state_in (by_meaning g.B.PathIndex.meaning c.args.engine.now) c.args.names.names) (g.K.Sink.written c.args.sink.now) (g.K.Sink.written c.run_lines.new.sink) _ _ _ _ (code_of c.status_of.result) (IsIn (by_meaning g.B.PathIndex.meaning c.run_lines.new.engine))
    (rw c.status_of.ensures (observable_ran (state_in (by_meaning g.B.PathIndex.meaning c.args.engine.now) c.args.names.names) (settings_value c.args.settings.now).graph c.args.settings.now.script.now files (g.H.Shelf.left c.open.new.self) _ _ c.in-Ok.ending _ c.requires.begins found c.in-Ok.ensures.ran)) status

pub returns-in-Err-Shelf-clause-does : goal.returns-in-Err-Shelf-clause-does
returns-in-Err-Shelf-clause-does g c kinds first =
    let found = rw c.in-Ok-true.field-0-test at c.in-Ok-true.ensures.found in
    script_meets (settings_value c.args.settings.now) kinds (g.H.Shelf.files c.args.shelf.now) (state_in (by_meaning g.B.PathIndex.meaning c.args.engine.now) c.args.names.names) _ _ 5 _ c.requires.begins first
    (observable_part (state_in (by_meaning g.B.PathIndex.meaning c.args.engine.now) c.args.names.names) (settings_value c.args.settings.now).graph c.args.settings.now.script.now (g.H.Shelf.files c.args.shelf.now) (g.H.Shelf.left c.open.new.self) _ _ 5 _ c.requires.begins found (omega arith) c.in-Err-Shelf.ensures.part)

pub returns-in-Err-Sink-clause-does : goal.returns-in-Err-Sink-clause-does
returns-in-Err-Sink-clause-does g c kinds first =
    let found = rw c.in-Ok-true.field-0-test at c.in-Ok-true.ensures.found in
    script_meets (settings_value c.args.settings.now) kinds (g.H.Shelf.files c.args.shelf.now) (state_in (by_meaning g.B.PathIndex.meaning c.args.engine.now) c.args.names.names) _ _ 6 _ c.requires.begins first
    (observable_part (state_in (by_meaning g.B.PathIndex.meaning c.args.engine.now) c.args.names.names) (settings_value c.args.settings.now).graph c.args.settings.now.script.now (g.H.Shelf.files c.args.shelf.now) (g.H.Shelf.left c.open.new.self) _ _ 6 _ c.requires.begins found (omega arith) c.in-Err-Sink.ensures.part)

pub returns-in-Err-Memory-clause-does : goal.returns-in-Err-Memory-clause-does
returns-in-Err-Memory-clause-does g c kinds first =
    let found = rw c.in-Ok-true.field-0-test at c.in-Ok-true.ensures.found in
    script_meets (settings_value c.args.settings.now) kinds (g.H.Shelf.files c.args.shelf.now) (state_in (by_meaning g.B.PathIndex.meaning c.args.engine.now) c.args.names.names) _ _ 7 _ c.requires.begins first
    (observable_part (state_in (by_meaning g.B.PathIndex.meaning c.args.engine.now) c.args.names.names) (settings_value c.args.settings.now).graph c.args.settings.now.script.now (g.H.Shelf.files c.args.shelf.now) (g.H.Shelf.left c.open.new.self) _ _ 7 _ c.requires.begins found (omega arith) c.in-Err-Memory.ensures.part)

pub returns-in-Ok-false-clause-status : goal.returns-in-Ok-false-clause-status
returns-in-Ok-false-clause-status g c =
    let found = rw c.in-Ok-false.field-0-test at c.in-Ok-false.ensures.found in
    let same : g.H.Shelf.faults c.open.new.self ≡ g.H.Shelf.faults c.args.shelf.now = search rules in
    record {
      is_one = omega arith;
      some_refused = λ _. tt;
      bad_line = λ _. tt;
      usage = λ e. absurd (omega (arith, e));
      refused = λ e. absurd (omega (arith, e));
      differs = λ e. absurd (omega (arith, e));
      reads = λ _. tt;
      missing = λ _. inr (script_missing (settings_value c.args.settings.now) (g.H.Shelf.files c.args.shelf.now) (state_in (by_meaning g.B.PathIndex.meaning c.args.engine.now) c.args.names.names).graph c.args.names.names (g.H.Shelf.left c.open.new.self) c.requires.begins found);
      sink = λ e. absurd (omega (arith, e));
      shelf_never_falls = omega (arith, same);
      sink_never_falls = omega arith;
      shelf_kept = λ n. absurd (n refl);
      sink_kept = λ _. refl;
      shelf_rose = λ _. refl;
      sink_rose = λ h. absurd (omega (arith, h));
    }

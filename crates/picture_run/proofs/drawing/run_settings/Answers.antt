use Rattle.std.proofs.Common.{inl, inr, refl, subst}
use Rattle.graph_spec.specs.declared.limits.Limits.{Limits}
use Rattle.graph_load.specs.Loads.{syntax, limit}
use Rattle.graph_load.specs.LoadSteps.{LoadsObservable}
use Rattle.picture_run.specs.SettingsValues.{settings_value}
use Rattle.picture_run.proofs.Drawings.{draws_nothing}
use Rattle.picture_run.proofs.drawing.run_settings.Goals as goal

pub returns-in-Ok-clause-does : goal.returns-in-Ok-clause-does
returns-in-Ok-clause-does g c = rw c.load_named.ensures.files at c.show_named.ensures.does

pub returns-in-Err-Syntax-clause-does : goal.returns-in-Err-Syntax-clause-does
returns-in-Err-Syntax-clause-does g c =
    let files = g.H.Shelf.files c.args.shelf.now in
    let file = c.args.settings.now.file.now in
    let line = c.in-Err-Syntax.line in
    inr (inl (inl (
      line,
      subst (λ (m : Limits). LoadsObservable m files file (syntax line)) c.program.ensures (rw c.in-Err-Syntax.field-0-is at c.in-Err-Syntax.ensures.refused),
      c.show_refusal.ensures,
    )))

pub returns-in-Err-Limit-clause-does : goal.returns-in-Err-Limit-clause-does
returns-in-Err-Limit-clause-does g c =
    let files = g.H.Shelf.files c.args.shelf.now in
    let file = c.args.settings.now.file.now in
    let line = c.in-Err-Limit.line in
    inr (inl (inr (
      line,
      subst (λ (m : Limits). LoadsObservable m files file (limit line)) c.program.ensures (rw c.in-Err-Limit.field-0-is at c.in-Err-Limit.ensures.refused),
      c.show_refusal-in-Err-Limit.ensures,
    )))

pub returns-in-Err-Missing-clause-does : goal.returns-in-Err-Missing-clause-does
returns-in-Err-Missing-clause-does g c = draws_nothing (settings_value c.args.settings.now) _ (g.K.Sink.written c.args.sink.now) 5 (inl refl)

pub returns-in-Err-Fault-clause-does : goal.returns-in-Err-Fault-clause-does
returns-in-Err-Fault-clause-does g c = draws_nothing (settings_value c.args.settings.now) _ (g.K.Sink.written c.args.sink.now) 5 (inl refl)

pub returns-in-Err-Memory-clause-does : goal.returns-in-Err-Memory-clause-does
returns-in-Err-Memory-clause-does g c = draws_nothing (settings_value c.args.settings.now) _ (g.K.Sink.written c.args.sink.now) 7 (inr refl)

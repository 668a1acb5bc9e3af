use Rattle.std.proofs.Common.{◌∙◌, inr, not, refl, sym, ap, subst}
use Rattle.bisim_spec.specs.declared.kind.Kind.TheVariants.{Fb, B}
use Rattle.command_line.specs.FormValues.{settings_value}
use Rattle.pathindex_core.specs.Engines.{graph_in, by_meaning}
use Rattle.script_interpreter.specs.States.{left_out}
use Rattle.pathindex_run.specs.ObservableFiles.{BeginsObservable}
use Rattle.pathindex_run.proofs.RunLemmas.{stopped}
use Rattle.pathindex_run.proofs.OpeningStates.{opened_for}
use Rattle.pathindex_run.proofs.entry.run_script.Goals as goal

pub run_open-requires-clause-begins : goal.run_open-requires-clause-begins
run_open-requires-clause-begins g c =
    subst (λ x. BeginsObservable (settings_value c.args.settings.now).graph (g.H.Shelf.files c.args.shelf.now) x c.args.names.names) (sym (ap graph_in c.in-Ok.ensures.opened)) c.requires.begins

pub run_open-requires-clause-ready : goal.run_open-requires-clause-ready
run_open-requires-clause-ready g c = record { sound = c.open.ensures.sound; opened = _; opened_is = c.in-Ok.ensures.opened; limits_are = c.program.ensures }

pub returns-in-Ok-clause-does : goal.returns-in-Ok-clause-does
returns-in-Ok-clause-does g c =
    c.run_open.ensures.does _ (opened_for c.args.names.names (settings_value c.args.settings.now) _ (by_meaning g.B.PathIndex.meaning c.leave_out-3.new.engine) _ _ c.in-Ok.ensures.opened c.in-Ok.ensures.built c.open.ensures.kinds c.open.ensures.sound
    (c.leave_out-3.ensures.kinds
    ∙ ap (left_out (not c.args.settings.now.with_bk) B) (c.leave_out-2.ensures.kinds ∙ ap (left_out c.args.settings.now.without_fb Fb) c.leave_out.ensures.kinds)))

pub returns-in-Err-clause-does : goal.returns-in-Err-clause-does
returns-in-Err-clause-does g c = stopped (settings_value c.args.settings.now) _ (g.H.Shelf.files c.args.shelf.now) (g.K.Sink.written c.args.sink.now) 7 _ (inr refl)

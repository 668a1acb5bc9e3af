use Rattle.std.proofs.Common.{inl, inr, refl}
use Rattle.picture_run.specs.SettingsValues.{settings_value}
use Rattle.picture_run.proofs.Drawings.{draws_loaded, draws_nothing}
use Rattle.picture_run.proofs.drawing.show_named.Goals as goal

pub returns-in-Ok-clause-does : goal.returns-in-Ok-clause-does
returns-in-Ok-clause-does g c =
    draws_loaded (settings_value c.args.settings.now) _ c.args.graph.graph c.args.terms.now.names c.in-Ok.names _ _ _ c.requires.loads c.requires.numbers
    c.in-Ok.ensures.named c.show_loaded.ensures

pub returns-in-Err-Missing-clause-does : goal.returns-in-Err-Missing-clause-does
returns-in-Err-Missing-clause-does g c = draws_nothing (settings_value c.args.settings.now) _ (g.K.Sink.written c.args.sink.now) 5 (inl refl)

pub returns-in-Err-Fault-clause-does : goal.returns-in-Err-Fault-clause-does
returns-in-Err-Fault-clause-does g c = draws_nothing (settings_value c.args.settings.now) _ (g.K.Sink.written c.args.sink.now) 5 (inl refl)

pub returns-clause-does : goal.returns-clause-does
returns-clause-does g c = draws_nothing (settings_value c.args.settings.now) _ (g.K.Sink.written c.args.sink.now) 7 (inr refl)

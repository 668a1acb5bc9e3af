use Rattle.std.proofs.Common.{inl, inr, refl}
use Rattle.std.proofs.KnownBytes.{Keeps-refl}
use Rattle.pathindex_run.proofs.CheckLemmas.{fit_ends}
use Rattle.pathindex_run.proofs.check.check_views.Goals as goal

pub returns-in-Ok-clause-does : goal.returns-in-Ok-clause-does
returns-in-Ok-clause-does g c = inl (c.in-Ok.misfit, c.in-Ok.ensures, c.show_fit.ensures.does)

pub returns-in-Ok-clause-ends : goal.returns-in-Ok-clause-ends
returns-in-Ok-clause-ends g c = fit_ends c.in-Ok.misfit _ _ _ c.show_fit.ensures.does

pub returns-in-Err-clause-does : goal.returns-in-Err-clause-does
returns-in-Err-clause-does g c = inr (refl, Keeps-refl (g.K.Sink.written c.args.sink.now))

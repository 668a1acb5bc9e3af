use Rattle.std.proofs.Common.{inl, inr, refl, sym, ap, subst}
use Rattle.std.proofs.KnownBytes.{Keeps-refl}
use Rattle.index_file.specs.WholeFiles.{HasLabels}
use Rattle.pathindex_core.specs.Engines.{by_meaning, graph_in}
use Rattle.pathindex_run.proofs.MadeLemmas.{opened_with}
use Rattle.pathindex_run.proofs.seeded.run_text.Goals as goal

pub run_open-requires : goal.run_open-requires
run_open-requires g c = record { labels = subst HasLabels (sym (ap graph_in c.in-Ok.ensures.opened)) c.requires.labels; ready = record { sound = c.open.ensures.sound; opened = _; opened_is = c.in-Ok.ensures.opened; limits_are = c.program.ensures } }

pub returns-in-Ok-clause-does : goal.returns-in-Ok-clause-does
returns-in-Ok-clause-does g c = inl (_, opened_with c.args.names.names (by_meaning g.B.PathIndex.meaning c.args.engine.now) _ _ c.in-Ok.ensures.opened c.in-Ok.ensures.built c.open.ensures.kinds c.open.ensures.sound, c.run_open.ensures.does)

pub returns-in-Err-clause-does : goal.returns-in-Err-clause-does
returns-in-Err-clause-does g c = inr (Keeps-refl (g.K.Sink.written c.args.sink.now), inr refl)

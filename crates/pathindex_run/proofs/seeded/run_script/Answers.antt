use Rattle.std.proofs.Common.{inr, refl, map, rules}
use Rattle.std.proofs.KnownBytes.{Keeps-refl}
use Rattle.index_api.specs.IndexKinds.{kinds_of}
use Rattle.pathindex_core.specs.Engines.{by_meaning}
use Rattle.script_interpreter.specs.EngineStates.{IsIn}
use Rattle.pathindex_run.proofs.MadeLemmas.{made_runs}
use Rattle.pathindex_run.proofs.seeded.run_script.Goals as goal

pub returns-in-Ok-clause-does : goal.returns-in-Ok-clause-does
returns-in-Ok-clause-does g c =
    made_runs c.args.seed (kinds_of (map g.B.PathIndex.meaning c.args.engine.now.boxes)) (kinds_of (map g.B.PathIndex.meaning c.leave_out.new.engine.boxes)) c.args.graph.graph c.args.names.names
    c.as_bytes.result.now c.created.result (g.K.Sink.written c.args.sink.now) (g.K.Sink.written c.run_text.new.sink) _ (IsIn (by_meaning g.B.PathIndex.meaning c.run_text.new.engine))
    c.created.ensures.count (search rules) c.leave_out.ensures.kinds c.run_text.ensures.does

pub returns-in-Err-clause-does : goal.returns-in-Err-clause-does
returns-in-Err-clause-does g c = inr (Keeps-refl (g.K.Sink.written c.args.sink.now), inr refl)

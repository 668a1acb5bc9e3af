use Rattle.std.proofs.Common.{arith}
use Rattle.pathindex_core.specs.Engines.{by_meaning}
use Rattle.script_interpreter.specs.EngineStates.{state_in}
use Rattle.pathindex_run.proofs.MadeLemmas.{text_ran, text_part}
use Rattle.pathindex_run.proofs.seeded.run_open.Goals as goal

pub returns-in-Ok-clause-does : goal.returns-in-Ok-clause-does
returns-in-Ok-clause-does g c =
    rw c.status_of.ensures (text_ran (state_in (by_meaning g.B.PathIndex.meaning c.args.engine.now) c.args.names.names) _ c.args.script.now _ _ c.in-Ok.ending _ c.new-shelf.ensures.rest (c.in-Ok.ensures.ran c.requires.labels))

pub returns-in-Err-Sink-clause-does : goal.returns-in-Err-Sink-clause-does
returns-in-Err-Sink-clause-does g c =
    text_part (state_in (by_meaning g.B.PathIndex.meaning c.args.engine.now) c.args.names.names) _ c.args.script.now _ _ 6 _ c.new-shelf.ensures.rest (omega arith) (c.in-Err-Sink.ensures.part c.requires.labels)

pub returns-in-Err-Memory-clause-does : goal.returns-in-Err-Memory-clause-does
returns-in-Err-Memory-clause-does g c =
    text_part (state_in (by_meaning g.B.PathIndex.meaning c.args.engine.now) c.args.names.names) _ c.args.script.now _ _ 7 _ c.new-shelf.ensures.rest (omega arith) (c.in-Err-Memory.ensures.part c.requires.labels)

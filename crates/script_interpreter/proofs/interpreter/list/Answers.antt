use Rattle.std.proofs.lemmas.Result.{on_ok_weaker}
use Rattle.pathindex_core.specs.Engines.{by_meaning}
use Rattle.script_interpreter.proofs.EngineCalls.{data_obeyed}
use Rattle.script_interpreter.proofs.interpreter.list.Goals as goal

pub returns-in-Data-clause-ok : goal.returns-in-Data-clause-ok
returns-in-Data-clause-ok g c n =
    on_ok_weaker c.refuse.result (λ t. data_obeyed n (by_meaning g.B.PathIndex.meaning c.args.engine.now) c.args.via _ _ c.in-Data.is t) c.refuse.ensures.ok

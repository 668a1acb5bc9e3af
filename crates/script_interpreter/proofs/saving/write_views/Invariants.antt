use Rattle.std.proofs.Common.{◌≡◌, ◌+◌, ◌*◌, ◌-◌, take}
use Rattle.index_api.specs.IndexOrder.{all_indexes}
use Rattle.index_file.specs.SavedIndexes.{SavesIndexes}
use Rattle.pathindex_core.specs.Engines.{by_meaning, graph_in, kept_in}
use Rattle.pathindex_core.specs.Calls.{KeepsAllButViews}
use Rattle.script_interpreter.specs.EngineStates.{IsOpenForProgram}
use Rattle.script_interpreter.specs.Pieces.{Wrote}
use Rattle.script_interpreter.proofs.saving.write_views.Given as goal

abbrev pub invariant-loop-via : goal.invariant-loop-via
invariant-loop-via g l = record {
  ready : IsOpenForProgram (by_meaning g.B.PathIndex.meaning l.engine);
  asked : KeepsAllButViews (by_meaning g.B.PathIndex.meaning l.fn.engine) (by_meaning g.B.PathIndex.meaning l.engine);
  views : Wrote (SavesIndexes (graph_in l.fn.engine.opened) (kept_in (by_meaning g.B.PathIndex.meaning l.fn.engine)) (take l.n (all_indexes l.k))) (g.K.Sink.written l.fn.sink) (g.K.Sink.written l.sink);
  faults : g.K.Sink.faults l.sink ≡ g.K.Sink.faults l.fn.sink;
}

abbrev pub decreases-loop-via : goal.decreases-loop-via
decreases-loop-via g l = 2 * l.k + 4 - l.n

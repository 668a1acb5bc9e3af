use Rattle.std.proofs.Common.{◌+◌, ◌*◌, ◌-◌, string_bytes, IsSome}
use Rattle.index_api.specs.IndexOrder.{all_indexes}
use Rattle.pathindex_core.specs.Engines.{IsSound, by_meaning, graph_in, kept_in}
use Rattle.pathindex_core.specs.Calls.{KeepsAllButViews}
use Rattle.index_saving.proofs.SavedFileLaws.{AreFirstViews}
use Rattle.index_saving.proofs.saving.push_views.Given as goal

abbrev pub invariant-loop-via : goal.invariant-loop-via
invariant-loop-via g l = record {
  is_open : IsSome l.engine.opened;
  sound : IsSound (by_meaning g.B.PathIndex.meaning l.engine);
  asked : KeepsAllButViews (by_meaning g.B.PathIndex.meaning l.fn.engine) (by_meaning g.B.PathIndex.meaning l.engine);
  views : AreFirstViews (graph_in l.fn.engine.opened) (kept_in (by_meaning g.B.PathIndex.meaning l.fn.engine)) (all_indexes l.k) l.n (string_bytes l.fn.out) (string_bytes l.out);
}

abbrev pub decreases-loop-via : goal.decreases-loop-via
decreases-loop-via g l = 2 * l.k + 4 - l.n

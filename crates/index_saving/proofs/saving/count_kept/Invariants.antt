use Rattle.std.proofs.Common.{◌≡◌, ◌≤◌, ◌+◌, ◌*◌, ◌-◌, take, IsSome}
use Rattle.index_api.specs.IndexOrder.{all_indexes}
use Rattle.index_file.specs.SavedIndexes.{count_kept}
use Rattle.pathindex_core.specs.Engines.{IsSound, by_meaning, kept_in}
use Rattle.pathindex_core.specs.Calls.{KeepsAllButViews}
use Rattle.index_saving.proofs.saving.count_kept.Given as goal

abbrev pub invariant-loop-via : goal.invariant-loop-via
invariant-loop-via g l = record {
  is_open : IsSome l.engine.opened;
  sound : IsSound (by_meaning g.B.PathIndex.meaning l.engine);
  asked : KeepsAllButViews (by_meaning g.B.PathIndex.meaning l.fn.engine) (by_meaning g.B.PathIndex.meaning l.engine);
  count : l.count ≡ count_kept (kept_in (by_meaning g.B.PathIndex.meaning l.fn.engine)) (take l.n (all_indexes l.k));
  few : l.count ≤ l.n;
}

abbrev pub decreases-loop-via : goal.decreases-loop-via
decreases-loop-via g l = 2 * l.k + 4 - l.n

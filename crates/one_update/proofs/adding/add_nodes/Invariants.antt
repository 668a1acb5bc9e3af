use Rattle.std.proofs.Common.{[], take}
use Rattle.graph_update.specs.PendingChanges.{graph_after}
use Rattle.one_update.specs.EffectDrafts.{IsIndexOnWay}
use Rattle.one_update.proofs.adding.add_nodes.Given as goal

abbrev pub invariant-joins : goal.invariant-joins
invariant-joins l = record { way : IsIndexOnWay (graph_after l.after) l.after.before (take l.n-index l.came) [] l.base l.draft }

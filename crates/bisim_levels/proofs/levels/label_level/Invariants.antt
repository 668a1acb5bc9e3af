use Rattle.std.proofs.Common.{[]}
use Rattle.label_graph.specs.GraphViews.{label_number}
use Rattle.key_table.specs.NumberedKeys.{AreDistinct}
use Rattle.bisim_levels.specs.NeighbourSides.{no_neighbours}
use Rattle.bisim_spec.specs.NodeKeys.{IsKey}
use Rattle.bisim_levels.proofs.NumberedNodes.{NumberedBelow}
use Rattle.bisim_levels.proofs.levels.label_level.Given as goal

abbrev pub invariant-loop-n : goal.invariant-loop-n
invariant-loop-n l = record {
  numbered : NumberedBelow (label_number l.view) (IsKey (label_number l.view) [] no_neighbours) l.n l.keys l.block.items;
  distinct : AreDistinct l.keys;
}

use Rattle.graph_spec.specs.Members.{at}
use Rattle.graph_spec.specs.Shapes.{shape_of}
use Rattle.key_table.specs.NumberedKeys.{AreDistinct}
use Rattle.bisim_levels.specs.SidedKeys.{IsSidedKey}
use Rattle.bisim_levels.proofs.NumberedNodes.{NumberedBelow}
use Rattle.bisim_levels.proofs.refining.next_level.Given as goal

abbrev pub invariant-loop-n : goal.invariant-loop-n
invariant-loop-n l = record {
  numbered : NumberedBelow (at l.block) (IsSidedKey l.sides (shape_of l.view) l.block) l.n l.keys l.next.items;
  distinct : AreDistinct l.keys;
}

use Rattle.std.proofs.Common.{◌≤◌, length}
use Rattle.key_table.specs.NumberedKeys.{AreDistinct}
use Rattle.round_refinement.specs.NeighbourSides.{is_neighbour}
use Rattle.round_refinement.specs.Changes.{AreNear}
use Rattle.round_refinement.specs.Watches.{IsWatched}
use Rattle.round_refinement.proofs.ChangeLaws.{NumberedBelow}
use Rattle.round_refinement.proofs.changes.number_all.Given as goal

abbrev pub invariant-loop-i : goal.invariant-loop-i
invariant-loop-i g l = record {
  numbered : NumberedBelow (is_neighbour l.side (g.G.Digraph.edge l.g)) l.parts.before.items l.parts.block.items l.active l.own l.i l.keys.table l.numbers.items;
  distinct : AreDistinct l.keys.table;
  near : AreNear (is_neighbour l.side (g.G.Digraph.edge l.g)) l.parts.before.items l.parts.block.items l.keys.near;
  watched : IsWatched (g.G.Digraph.edge l.g) l.parts.block.items l.keys.watches;
  within : l.i ≤ length l.active;
}

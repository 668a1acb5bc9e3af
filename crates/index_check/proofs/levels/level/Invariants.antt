use Rattle.std.proofs.Common.{◌≤◌}
use Rattle.bisim_spec.specs.Bisimilarity.{Bis}
use Rattle.bisim_spec.specs.Partitions.{Agrees}
use Rattle.round_refinement.specs.NumberedShapes.{digraph_shape}
use Rattle.index_check.proofs.levels.level.Given as goal

abbrev pub invariant-loop-j : goal.invariant-loop-j
invariant-loop-j g l = record {
  agrees : Agrees (digraph_shape g.G.Digraph l.g) l.block.items (Bis (digraph_shape g.G.Digraph l.g) l.j);
  within : l.j ≤ l.i;
}

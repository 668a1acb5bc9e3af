use Rattle.std.proofs.Common.{◌≡◌, take, vec_len}
use Rattle.graph_spec.specs.Members.{has}
use Rattle.block_splitting.specs.Groups.{AreGrouped, NeighbourKey}
use Rattle.block_splitting.proofs.grouping.group_nodes.Given as goal

abbrev pub invariant-loop-n : goal.invariant-loop-n
invariant-loop-n l = record {
  long : vec_len l.group ≡ vec_len l.initial.group;
  grouped : AreGrouped (NeighbourKey l.view l.side l.blocks.block_of) (has (take l.n-index l.nodes)) l.keys l.group.items;
}

use Rattle.std.proofs.Common.{◌≡◌, ◌+◌, ◌≤◌, length, vec_len}
use Rattle.std.specs.Prelude.{vec_capacity}
use Rattle.graph_spec.specs.Members.{has}
use Rattle.block_splitting.specs.Chosen.{AreChosen}
use Rattle.block_splitting.proofs.choosing.choose.Given as goal

abbrev pub invariant-loop-k : goal.invariant-loop-k
invariant-loop-k l = record {
  chosen : AreChosen l.fn.blocks l.blocks (has l.active_nodes.nodes) l.keys l.k l.retained l.chosen.items;
  capacity : length l.keys ≤ vec_capacity l.chosen;
  len : vec_len l.chosen ≡ l.k;
  reserved : length l.keys ≤ l.blocks.reserved.blocks + l.k;
}

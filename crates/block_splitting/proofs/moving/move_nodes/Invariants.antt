use Rattle.std.proofs.Common.{◌≡◌, ◌≤◌, take, slice_index, vec_len}
use Rattle.std.specs.Prelude.{vec_capacity}
use Rattle.graph_spec.specs.Members.{has}
use Rattle.block_splitting.specs.Moved.{AreMoved}
use Rattle.block_splitting.proofs.moving.move_nodes.Given as goal

abbrev pub invariant-loop-n : goal.invariant-loop-n
invariant-loop-n l = record {
  capacity : vec_capacity l.moved ≡ vec_capacity l.initial.moved;
  len : vec_len l.moved ≤ l.n-index;
  labels : l.blocks.labels ≡ l.initial.blocks.labels;
  moved : AreMoved (has (take l.n-index l.nodes)) (λ n. slice_index l.chosen (slice_index l.group n)) l.initial.blocks.block_of l.blocks.block_of (has l.moved.items);
}

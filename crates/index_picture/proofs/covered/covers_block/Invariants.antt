use Rattle.std.proofs.Common.{◌≡◌, ℕ, true, ◌⊎◌}
use Rattle.graph_spec.specs.Graphs.{has_edge}
use Rattle.graph_spec.specs.Members.{has}
use Rattle.block_partition.specs.LabelledPartitions.{is_member}
use Rattle.index_picture.specs.DrawnBlocks.{has_parent_in}
use Rattle.index_picture.proofs.covered.covers_block.Given as goal

abbrev pub invariant-loop-n : goal.invariant-loop-n
invariant-loop-n g l = record {
  next : (goal.iterator-loop-n g).can_next l.n-iterator;
  finite : (goal.iterator-loop-n g).is_finite l.n-iterator;
  members : (m : ℕ) → has l.n-iterator m ≡ true → is_member l.summary.blocks l.b m ≡ true;
  rest : (m : ℕ) → is_member l.summary.blocks l.b m ≡ true
      → (has l.n-iterator m ≡ true) ⊎ (has_parent_in (has_edge l.graph.graph) l.summary.blocks.block_of l.a m ≡ true);
}

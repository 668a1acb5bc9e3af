use Rattle.std.proofs.Common.{◌≡◌, ◌≤◌, ◌+◌, ◌*◌, ◌-◌, ◌^◌, length, vec_len, cond}
use Rattle.std.specs.Prelude.{nat_eq}
use Rattle.graph_spec.specs.Members.{has}
use Rattle.block_splitting.specs.Nodes.{AreNodes}
use Rattle.bisim_spec.specs.Bisimilarity.{Bisim}
use Rattle.graph_spec.specs.Shapes.{shape_of}
use Rattle.block_partition.specs.LabelledPartitions.{block_count}
use Rattle.block_splitting.specs.Splits.{AreLabelled, AreInhabited}
use Rattle.coarsest_partition.specs.Refined.{parents_alone, IsRefined}
use Rattle.coarsest_partition.proofs.rounds.settle_by_parents.Given as goal

abbrev pub invariant-rounds : goal.invariant-rounds
invariant-rounds l = record {
  refined : IsRefined l.view parents_alone (Bisim (shape_of l.view)) l.blocks.block_of (λ t. has l.active_nodes.nodes);
  nodes : AreNodes l.view l.active_nodes.nodes;
  size : l.active_nodes.size ≡ length l.view.allocated;
  labelled : AreLabelled l.view l.fn.blocks → AreLabelled l.view l.blocks;
  inhabited : AreInhabited l.fn.blocks → AreInhabited l.blocks;
  reserved : length l.view.allocated ≤ vec_len l.tables.group;
}

abbrev pub decreases-rounds : goal.decreases-rounds
decreases-rounds l = 2 * (2 ^ 31 - block_count l.blocks) + cond (nat_eq (length l.active_nodes.nodes) 0) 0 1

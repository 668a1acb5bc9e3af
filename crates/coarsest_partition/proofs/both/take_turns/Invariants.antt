use Rattle.std.proofs.Common.{◌≡◌, ◌≤◌, ◌+◌, ◌*◌, ◌-◌, ◌^◌, length, vec_len, cond}
use Rattle.std.specs.Prelude.{nat_eq, ◌&&◌}
use Rattle.graph_spec.specs.Members.{has}
use Rattle.block_splitting.specs.Nodes.{AreNodes}
use Rattle.bisim_spec.specs.Bisimilarity.{FB}
use Rattle.graph_spec.specs.Shapes.{shape_of}
use Rattle.block_partition.specs.LabelledPartitions.{block_count}
use Rattle.block_splitting.specs.Splits.{AreLabelled, AreInhabited}
use Rattle.coarsest_partition.specs.Refined.{both_sides, IsRefined}
use Rattle.coarsest_partition.specs.ActiveSides.{two}
use Rattle.coarsest_partition.proofs.both.take_turns.Given as goal

abbrev pub invariant-rounds : goal.invariant-rounds
invariant-rounds l = record {
  refined : IsRefined l.view both_sides (FB (shape_of l.view)) l.blocks.block_of (two (has l.parents.nodes) (has l.children.nodes));
  parents_are : AreNodes l.view l.parents.nodes;
  children_are : AreNodes l.view l.children.nodes;
  parents_size : l.parents.size ≡ length l.view.allocated;
  children_size : l.children.size ≡ length l.view.allocated;
  labelled : AreLabelled l.view l.fn.blocks → AreLabelled l.view l.blocks;
  inhabited : AreInhabited l.fn.blocks → AreInhabited l.blocks;
  reserved : length l.view.allocated ≤ vec_len l.tables.group;
}

abbrev pub decreases-rounds : goal.decreases-rounds
decreases-rounds l = 2 * (2 ^ 31 - block_count l.blocks) + cond (nat_eq (length l.parents.nodes) 0 && nat_eq (length l.children.nodes) 0) 0 1

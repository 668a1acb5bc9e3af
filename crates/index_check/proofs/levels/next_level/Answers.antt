use Rattle.index_check.proofs.LevelLaws.{bis_up}
use Rattle.round_refinement.proofs.LevelLaws.{refined_partition, node_of, of_node}
use Rattle.round_refinement.specs.NumberedShapes.{digraph_shape}
use Rattle.round_refinement.specs.NeighbourSides.{is_neighbour}
use Rattle.bisim_spec.specs.declared.sides.Side.TheVariants.{Parents}
use Rattle.index_check.proofs.levels.next_level.Goals as goal

pub refine-requires-clause-own : goal.refine-requires-clause-own
refine-requires-clause-own g c = λ n h. node_of (g.G.Digraph.label_at c.args.g.now n) (c.requires.partition.only n h)

pub refine-requires-clause-base : goal.refine-requires-clause-base
refine-requires-clause-base g c = λ n h. c.requires.partition.live n (of_node (g.G.Digraph.label_at c.args.g.now n) h)

pub returns-clause-partition : goal.returns-clause-partition
returns-clause-partition g c =
    refined_partition (digraph_shape g.G.Digraph c.args.g.now) c.args.block.now c.args.block.now c.in_ok-next.next.items
    (is_neighbour Parents (g.G.Digraph.edge c.args.g.now)) c.requires.partition c.in_ok-next.ensures

pub returns-clause-agrees : goal.returns-clause-agrees
returns-clause-agrees g c = λ i a.
    bis_up (digraph_shape g.G.Digraph c.args.g.now) c.args.block.now c.in_ok-next.next.items c.in_ok-next.ensures i a

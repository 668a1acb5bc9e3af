use Rattle.graph_spec.specs.Members.{at}
use Rattle.round_refinement.proofs.LevelLaws.{both_up, refined_partition, refines_next, node_of, of_node}
use Rattle.round_refinement.specs.NumberedShapes.{digraph_shape}
use Rattle.round_refinement.specs.NeighbourSides.{is_neighbour}
use Rattle.bisim_spec.specs.declared.sides.Side.TheVariants.{Parents, Children}
use Rattle.round_refinement.proofs.levels.next_both.Goals as goal

pub refine-requires-clause-own : goal.refine-requires-clause-own
refine-requires-clause-own g c = λ n h. node_of (g.G.Digraph.label_at c.args.g.now n) (c.requires.partition.only n h)

pub refine-requires-clause-base : goal.refine-requires-clause-base
refine-requires-clause-base g c = λ n h. c.requires.partition.live n (of_node (g.G.Digraph.label_at c.args.g.now n) h)

pub refine_children-requires-clause-own : goal.refine_children-requires-clause-own
refine_children-requires-clause-own g c = λ n h.
    let s = digraph_shape g.G.Digraph c.args.g.now in
    let r = refines_next (at c.args.block.now) c.args.block.now c.in_ok-mid.mid.items c.deref.result.now (is_neighbour Parents (g.G.Digraph.edge c.args.g.now)) c.deref.ensures.value c.in_ok-mid.ensures in
    let p = refined_partition s c.args.block.now c.args.block.now c.deref.result.now (is_neighbour Parents (g.G.Digraph.edge c.args.g.now)) c.requires.partition r in
    node_of (g.G.Digraph.label_at c.args.g.now n) (p.only n h)

pub refine_children-requires-clause-base : goal.refine_children-requires-clause-base
refine_children-requires-clause-base g c = λ n h. c.requires.partition.live n (of_node (g.G.Digraph.label_at c.args.g.now n) h)

pub returns-clause-partition : goal.returns-clause-partition
returns-clause-partition g c =
    let s = digraph_shape g.G.Digraph c.args.g.now in
    let r = refines_next (at c.args.block.now) c.args.block.now c.in_ok-mid.mid.items c.deref.result.now (is_neighbour Parents (g.G.Digraph.edge c.args.g.now)) c.deref.ensures.value c.in_ok-mid.ensures in
    let p = refined_partition s c.args.block.now c.args.block.now c.deref.result.now (is_neighbour Parents (g.G.Digraph.edge c.args.g.now)) c.requires.partition r in
    refined_partition s c.deref.result.now c.args.block.now c.in_ok-next.next.items (is_neighbour Children (g.G.Digraph.edge c.args.g.now)) p c.in_ok-next.ensures

pub returns-clause-agrees : goal.returns-clause-agrees
returns-clause-agrees g c = λ i a.
    let s = digraph_shape g.G.Digraph c.args.g.now in
    let r = refines_next (at c.args.block.now) c.args.block.now c.in_ok-mid.mid.items c.deref.result.now (is_neighbour Parents (g.G.Digraph.edge c.args.g.now)) c.deref.ensures.value c.in_ok-mid.ensures in
    both_up s c.args.block.now c.deref.result.now c.in_ok-next.next.items r c.in_ok-next.ensures i a

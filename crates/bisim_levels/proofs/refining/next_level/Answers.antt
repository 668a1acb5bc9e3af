use Rattle.std.proofs.Common.{arith}
use Rattle.graph_spec.specs.Shapes.{shape_of}
use Rattle.graph_spec.proofs.GraphLaws.{is_shape}
use Rattle.label_graph.specs.ViewLaws.{below_span}
use Rattle.bisim_levels.specs.SidedKeys.{IsAround}
use Rattle.bisim_levels.proofs.LabelledNodes.{node_number}
use Rattle.bisim_levels.proofs.NumberedNodes.{numbered_more, numbered_all, numbered_refines_by, numbered_below}
use Rattle.bisim_levels.proofs.SidedRefinement.{refined_level, refined_partition}
use Rattle.bisim_levels.proofs.refining.next_level.Goals as goal

pub loop-n-preserved : goal.loop-n-preserved
loop-n-preserved c = record {
  numbered = rw c.in_ok-push.ensures.items (numbered_more _ _ _ _ _ _ _ c.loop-n.invariant.numbered c.in_ok-number.ensures.ok);
  distinct = c.in_ok-number.ensures.distinct;
}

pub returns-clause-numbered : goal.returns-clause-numbered
returns-clause-numbered c =
    rw c.into_table.ensures (numbered_all _ _ _ _ _ c.loop-n.invariant.numbered (λ m h.
    let below = below_span c.args.view.now m (node_number c.args.view.now c.size-n-end.ensures.graph m (c.requires.partition.only m h)) in
    let end = c.loop-n-test.false in
    let size = c.size-n-end.ensures.size in
    omega (arith, below, end, size)))

pub returns-clause-agrees : goal.returns-clause-agrees
returns-clause-agrees c = λ i a.
    refined_level c.args.sides (shape_of c.args.view.now) (is_shape c.args.view.now c.size-n-end.ensures.graph) _ _
    (numbered_refines_by _ _ _ _ c.loop-n.invariant.distinct.apart (numbered_all _ _ _ _ _ c.loop-n.invariant.numbered (λ m h.
    let below = below_span c.args.view.now m (node_number c.args.view.now c.size-n-end.ensures.graph m (c.requires.partition.only m h)) in
    let end = c.loop-n-test.false in
    let size = c.size-n-end.ensures.size in
    omega (arith, below, end, size)))) i a

pub returns-clause-partition : goal.returns-clause-partition
returns-clause-partition c =
    refined_partition (shape_of c.args.view.now) (IsAround c.args.sides (shape_of c.args.view.now) c.args.block.now) _ _ c.requires.partition
    (numbered_refines_by _ _ _ _ c.loop-n.invariant.distinct.apart (numbered_all _ _ _ _ _ c.loop-n.invariant.numbered (λ m h.
    let below = below_span c.args.view.now m (node_number c.args.view.now c.size-n-end.ensures.graph m (c.requires.partition.only m h)) in
    let end = c.loop-n-test.false in
    let size = c.size-n-end.ensures.size in
    omega (arith, below, end, size))))

pub returns-clause-span : goal.returns-clause-span
returns-clause-span c = numbered_below _ _ _ _ (returns-clause-numbered c)

pub number_of-requires-clause-nodes : goal.number_of-requires-clause-nodes
number_of-requires-clause-nodes c = λ h. node_number c.args.view.now c.size-n-end.ensures.graph c.loop-n.n (c.requires.partition.only c.loop-n.n h)

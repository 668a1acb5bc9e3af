use Rattle.std.proofs.Common.{arith}
use Rattle.label_graph.specs.ViewLaws.{below_span}
use Rattle.bisim_levels.proofs.LabelledNodes.{node_number}
use Rattle.coarsest_partition.proofs.rounds.all_active_nodes.Goals as goal

pub returns-clause-nodes : goal.returns-clause-nodes
returns-clause-nodes c = λ n h. node_number c.args.view.now c.size.ensures.graph n (c.requires.partition.only n (c.loop-n.invariant.only n h))

pub returns-clause-all : goal.returns-clause-all
returns-clause-all c = λ n h. c.loop-n.invariant.all n (
    let below = below_span c.args.view.now n (node_number c.args.view.now c.size.ensures.graph n (c.requires.partition.only n h)) in
    let end = c.loop-n-test.false in
    let size = c.size-n-end.ensures.size in
    omega (arith, below, end, size)) h

use Rattle.std.proofs.Common.{arith, refl}
use Rattle.label_graph.specs.ViewLaws.{below_span}
use Rattle.bisim_levels.proofs.LabelledNodes.{parents_neighbours}
use Rattle.coarsest_partition.proofs.OrderLaws.{numbered_more}
use Rattle.coarsest_partition.proofs.numbering.number_node.Goals as goal

pub returns-clause-ordered : goal.returns-clause-ordered
returns-clause-ordered c =
    numbered_more _ c.requires.graph _ _ _ _ _ _ _ _ _ c.deref.ensures.value c.deref-2.ensures.value
    (let below = below_span c.args.view.now c.args.n c.requires.node in let long = c.requires.long in let ok = c.args.block.now.ok in omega (arith, below, long, ok)) c.requires.ordered
    c.requires.node (c.if-not-is_ready.ensures refl) (parents_neighbours c.args.view.now c.requires.graph c.args.n _ c.parents-parents.ensures) c.label.ensures c.in_ok-k.ensures.ok c.in_ok-k.ensures.distinct

use Rattle.std.proofs.Common.{◌∙◌, sym}
use Rattle.graph_steps.proofs.Listed.{listed_edges}
use Rattle.graph_steps.proofs.degrees.counted_edges.Goals as goal

pub returns : goal.returns
returns g c =
    c.sum_of.ensures ∙ sym (listed_edges c.args.graph.now.graph c.args.u c.parents-parents.result.now c.children-children.result.now c.parents-parents.ensures.parents c.children-children.ensures.children)

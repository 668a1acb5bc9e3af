use Rattle.std.proofs.Common.{◌∙◌}
use Rattle.graph_spec.specs.Graphs.{has_edge}
use Rattle.index_picture.proofs.ParentLaws.{parent_found}
use Rattle.index_picture.proofs.covered.has_parent_in.Goals as goal

pub returns : goal.returns
returns g c =
    c.any_in.ensures
    ∙ parent_found (has_edge c.args.graph.now.graph) c.args.summary.now.blocks.block_of c.args.a c.args.n c.parents.result.now c.parents.ensures.parents

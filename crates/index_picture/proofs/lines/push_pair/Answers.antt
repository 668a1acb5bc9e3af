use Rattle.std.proofs.Common.{◌++◌, ◌∙◌, ap}
use Rattle.std.specs.Prelude.{codes}
use Rattle.graph_spec.specs.Graphs.{has_edge}
use Rattle.index_picture.specs.DrawnBlocks.{covers}
use Rattle.index_picture.specs.Pictures.{arrow_text, support_text, dash_text}
use Rattle.index_picture.proofs.ListLaws.{then_push}
use Rattle.index_picture.proofs.lines.push_pair.Goals as goal

pub returns : goal.returns
returns g c =
    let a = arrow_text c.args.pair.now in
    let b = support_text c.args.pair.now.support in
    let d = dash_text (covers (has_edge c.args.graph.now.graph) c.args.summary.now.blocks.block_of c.args.pair.now.from.number c.args.pair.now.onto.number) in
    let f = codes ";\n" in
    let z = c.extend_from_slice.new.self.items in
    then_push c.args.out.now.items c.push_arrow.new.out.items z a (b ++ (d ++ f)) c.in_ok-push_arrow.ensures
    (then_push c.push_arrow.new.out.items c.push_support.new.out.items z b (d ++ f) c.in_ok-push_support.ensures
    (then_push c.push_support.new.out.items c.push_dash.new.out.items z d f
    (c.in_ok-push_dash.ensures ∙ ap (λ t. c.push_support.new.out.items ++ dash_text t) c.covers-covered.ensures) c.in_ok-extend_from_slice.ensures.items))

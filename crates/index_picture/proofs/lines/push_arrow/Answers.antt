use Rattle.std.proofs.Common.{◌++◌}
use Rattle.std.specs.Prelude.{codes}
use Rattle.graph_spec.specs.Words.{node_word}
use Rattle.index_picture.specs.QuotedTexts.{quoted}
use Rattle.index_picture.proofs.ListLaws.{then_push}
use Rattle.index_picture.proofs.lines.push_arrow.Goals as goal

pub returns : goal.returns
returns c =
    let a = codes "  \"" in
    let b = quoted (node_word c.args.pair.now.from.first) in
    let d = codes "\" -> \"" in
    let e = quoted (node_word c.args.pair.now.onto.first) in
    let f = codes "\"" in
    let z = c.extend_from_slice-3.new.self.items in
    then_push c.args.out.now.items c.extend_from_slice.new.self.items z a (b ++ (d ++ (e ++ f))) c.in_ok-extend_from_slice.ensures.items
    (then_push c.extend_from_slice.new.self.items c.push_node.new.out.items z b (d ++ (e ++ f)) c.in_ok-push_node.ensures
    (then_push c.push_node.new.out.items c.extend_from_slice-2.new.self.items z d (e ++ f) c.in_ok-extend_from_slice-2.ensures.items
    (then_push c.extend_from_slice-2.new.self.items c.push_node-2.new.out.items z e f c.in_ok-push_node-2.ensures c.in_ok-extend_from_slice-3.ensures.items)))

use Rattle.std.proofs.Common.{◌++◌}
use Rattle.std.specs.Prelude.{codes}
use Rattle.graph_spec.specs.Words.{node_word}
use Rattle.index_picture.specs.QuotedTexts.{quoted}
use Rattle.index_picture.specs.Pictures.{box_text}
use Rattle.index_picture.proofs.ListLaws.{then_push}
use Rattle.index_picture.proofs.lines.push_front.Goals as goal

pub returns : goal.returns
returns c =
    let a = codes "  \"" in
    let b = quoted (node_word c.args.block.now.first) in
    let d = codes "\" [label=\"" in
    let e = box_text c.args.labels.now.texts c.args.names.now c.args.most c.args.summary.now.blocks c.args.block.now in
    then_push c.args.out.now.items c.extend_from_slice.new.self.items c.push_box.new.out.items a (b ++ (d ++ e)) c.in_ok-extend_from_slice.ensures.items
    (then_push c.extend_from_slice.new.self.items c.push_node.new.out.items c.push_box.new.out.items b (d ++ e) c.in_ok-push_node.ensures
    (then_push c.push_node.new.out.items c.extend_from_slice-2.new.self.items c.push_box.new.out.items d e c.in_ok-extend_from_slice-2.ensures.items c.in_ok-push_box.ensures))

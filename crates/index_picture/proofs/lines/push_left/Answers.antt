use Rattle.std.proofs.Common.{◌++◌}
use Rattle.std.specs.Prelude.{codes, decimal}
use Rattle.index_picture.specs.QuotedTexts.{quoted}
use Rattle.index_picture.proofs.ListLaws.{then_push}
use Rattle.index_picture.proofs.lines.push_left.Goals as goal

pub returns : goal.returns
returns c =
    let a = codes "  \"note\" [shape=plaintext style=\"\" label=\"not drawn: " in
    let b = quoted (decimal c.args.blocks) in
    let d = codes " smaller blocks, " in
    let e = quoted (decimal c.args.pairs) in
    let f = codes " pairs of blocks\"];\n" in
    let z = c.extend_from_slice-3.new.self.items in
    then_push c.args.out.now.items c.extend_from_slice.new.self.items z a (b ++ (d ++ (e ++ f))) c.in_ok-extend_from_slice.ensures.items
    (then_push c.extend_from_slice.new.self.items c.push_number.new.out.items z b (d ++ (e ++ f)) c.in_ok-push_number.ensures
    (then_push c.push_number.new.out.items c.extend_from_slice-2.new.self.items z d (e ++ f) c.in_ok-extend_from_slice-2.ensures.items
    (then_push c.extend_from_slice-2.new.self.items c.push_number-2.new.out.items z e f c.in_ok-push_number-2.ensures c.in_ok-extend_from_slice-3.ensures.items)))

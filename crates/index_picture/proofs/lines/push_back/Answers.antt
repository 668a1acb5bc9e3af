use Rattle.std.proofs.Common.{◌++◌, ◌∙◌, ap}
use Rattle.std.specs.Prelude.{codes}
use Rattle.index_picture.specs.QuotedTexts.{quoted}
use Rattle.index_picture.specs.Pictures.{label_text, colour_of}
use Rattle.index_picture.proofs.ListLaws.{then_push}
use Rattle.index_picture.proofs.lines.push_back.Goals as goal

pub returns : goal.returns
returns c =
    let a = codes "\" tooltip=\"" in
    let b = quoted (label_text c.args.labels.now.texts c.args.block.now.label) in
    let d = codes "\" fillcolor=\"" in
    let e = quoted (colour_of c.args.used.now c.args.block.now.label) in
    let f = codes "\"];\n" in
    then_push c.args.out.now.items c.extend_from_slice.new.self.items c.extend_from_slice-3.new.self.items a (b ++ (d ++ (e ++ f))) c.in_ok-extend_from_slice.ensures.items
    (then_push c.extend_from_slice.new.self.items c.push_quoted.new.out.items c.extend_from_slice-3.new.self.items b (d ++ (e ++ f))
    (c.in_ok-push_quoted.ensures ∙ ap (λ t. c.extend_from_slice.new.self.items ++ quoted t) c.label_text.ensures)
    (then_push c.push_quoted.new.out.items c.extend_from_slice-2.new.self.items c.extend_from_slice-3.new.self.items d (e ++ f) c.in_ok-extend_from_slice-2.ensures.items
    (then_push c.extend_from_slice-2.new.self.items c.push_quoted-2.new.out.items c.extend_from_slice-3.new.self.items e f
    (c.in_ok-push_quoted-2.ensures ∙ ap (λ t. c.extend_from_slice-2.new.self.items ++ quoted t) c.colour_of.ensures) c.in_ok-extend_from_slice-3.ensures.items)))

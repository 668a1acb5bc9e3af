use Rattle.std.proofs.Common.{◌∙◌, ap, sym}
use Rattle.std.specs.Prelude.{nat_eq}
use Rattle.std.specs.List.{position}
use Rattle.one_merge.proofs.ParentlessLaws.{others_left}
use Rattle.one_merge.proofs.parentless.take_out.Goals as goal

pub returns-in-Some : goal.returns-in-Some
returns-in-Some c =
    others_left c.args.list.now.items c.swap_remove.new.self.items c.args.b c.in-Some.place c.swap_remove.result
    (ap (position (nat_eq c.args.b)) (sym c.as_slice.ensures) ∙ sym c.place_of.ensures ∙ c.in-Some.is) c.swap_remove.ensures.value c.swap_remove.ensures.items

use Rattle.std.proofs.Common.{◌∙◌, sym, ap}
use Rattle.std.specs.Prelude.{nat_eq}
use Rattle.std.specs.Map.{lookup}
use Rattle.quotient_draft.proofs.Scanned.{added_found, added_absent}
use Rattle.quotient_draft.proofs.added.Added.label.Goals as goal

pub returns-in-Some : goal.returns-in-Some
returns-in-Some c =
    sym (added_found c.args.base.now.blocks.labels c.args.self.now c.args.b c.in-Some.label.now c.requires
    (ap (lookup (nat_eq c.args.b)) (sym c.self.view_is) ∙ sym c.in-Some.ensures.value))

pub returns-in-None : goal.returns-in-None
returns-in-None c =
    c.base_label.ensures
    ∙ sym (added_absent c.args.base.now.blocks.labels c.args.self.now c.args.b (ap (lookup (nat_eq c.args.b)) (sym c.self.view_is) ∙ sym c.in-None.ensures.value))

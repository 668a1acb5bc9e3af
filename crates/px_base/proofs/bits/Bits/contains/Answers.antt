use Rattle.std.proofs.Common.{ap, sym, ◌∙◌}
use Rattle.std.specs.Prelude.{nat_eq, get_or}
use Rattle.px_base.proofs.FlagIndexes.{members-has}
use Rattle.px_base.proofs.bits.Bits.contains.Goals as goal

pub returns : goal.returns
returns c =
    let n = c.args.n in
    rw (← c.self.view_is) (c.is_set.ensures ∙ ap (λ xs. nat_eq (get_or xs n 0) 1) c.deref.ensures.value ∙ sym (members-has c.self.inside.flags.items n))

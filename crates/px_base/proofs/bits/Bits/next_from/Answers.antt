use Rattle.std.proofs.Common.{arith, ap, sym, ◌∙◌}
use Rattle.std.specs.Prelude.{nat_eq, get_or}
use Rattle.px_base.proofs.FlagIndexes.{head-here, members-has, next-Some, next-head-Some, next-None, next-head-None}
use Rattle.px_base.proofs.bits.Bits.next_from.Goals as goal

pub returns-in-Some-clause-next : goal.returns-in-Some-clause-next
returns-in-Some-clause-next c =
    rw (← c.self.view_is) (next-Some c.self.inside.flags.items _ _ _ _ c.deref-2.ensures.value (grind arith) c.in-Some.ensures)

pub returns-in-Some-clause-head : goal.returns-in-Some-clause-head
returns-in-Some-clause-head c =
    rw (← c.self.view_is) (next-head-Some c.self.inside.flags.items _ _ _ _ c.deref-2.ensures.value (grind arith) c.in-Some.ensures)

pub returns-in-None-clause-next : goal.returns-in-None-clause-next
returns-in-None-clause-next c =
    rw (← c.self.view_is) (next-None c.self.inside.flags.items _ _ _ c.deref-2.ensures.value (grind arith) c.in-None.ensures)

pub returns-in-None-clause-head : goal.returns-in-None-clause-head
returns-in-None-clause-head c =
    rw (← c.self.view_is) (next-head-None c.self.inside.flags.items _ _ _ c.deref-2.ensures.value (grind arith) c.in-None.ensures)

pub returns-then-is_set-clause-next : goal.returns-then-is_set-clause-next
returns-then-is_set-clause-next c =
    let bytes = c.self.inside.flags.items in
    let set = ap (λ xs. nat_eq (get_or xs c.args.n 0) 1) (sym c.deref.ensures.value) ∙ sym c.is_set.ensures ∙ c.if-is_set.true in
    rw (← c.self.view_is) record {
      member = members-has bytes c.args.n ∙ set;
      from = omega arith;
      first = λ j a b. absurd (omega arith);
    }

pub returns-then-is_set-clause-head : goal.returns-then-is_set-clause-head
returns-then-is_set-clause-head c =
    let bytes = c.self.inside.flags.items in
    let set = ap (λ xs. nat_eq (get_or xs c.args.n 0) 1) (sym c.deref.ensures.value) ∙ sym c.is_set.ensures ∙ c.if-is_set.true in
    rw (← c.self.view_is) (head-here bytes c.args.n (members-has bytes c.args.n ∙ set))

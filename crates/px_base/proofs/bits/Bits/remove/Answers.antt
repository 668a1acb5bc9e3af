use Rattle.std.proofs.Common.{◌<◌, length, arith, ap, sym, ◌∙◌}
use Rattle.std.specs.Prelude.{nat_eq}
use Rattle.std.proofs.Math.ListN.{set}
use Rattle.std.proofs.lemmas.List.{get_or_read}
use Rattle.px_base.specs.BitSets.{flags_of}
use Rattle.px_base.proofs.FlagIndexes.{is_one, not_one, remove-has, remove-kept, places-rising, members-fewer}
use Rattle.px_base.proofs.bits.Bits.remove.Goals as goal

pub returns-then-index-ne1-clause-members : goal.returns-then-index-ne1-clause-members
returns-then-index-ne1-clause-members c =
    let flags = c.self.inside.flags.items in
    let h : c.args.n < length flags = grind arith in
    rw (← c.self.view_is) (λ m. remove-kept flags c.args.n m (sym (ap (λ b. nat_eq b 1) (get_or_read flags _ _ h c.index.ensures 0)) ∙ not_one _ c.if-index-ne1.true))

pub returns-then-index-ne1-clause-rising : goal.returns-then-index-ne1-clause-rising
returns-then-index-ne1-clause-rising c = rw (← c.self.view_is) (places-rising 0 (flags_of c.self.inside.flags.items))

pub overflow_sub-self : goal.overflow_sub-self
overflow_sub-self c =
    let flags = c.self.inside.flags.items in
    let h : c.args.n < length flags = grind arith in
    let e = members-fewer flags c.args.n h (sym (ap (λ b. nat_eq b 1) (get_or_read flags _ _ h c.index.ensures 0)) ∙ is_one _ c.if-index-ne1.false) in
    grind arith

pub invariant_of-self : goal.invariant_of-self
invariant_of-self c =
    let flags = c.self.inside.flags.items in
    let h : c.args.n < length flags = grind arith in
    let e = members-fewer flags c.args.n h (sym (ap (λ b. nat_eq b 1) (get_or_read flags _ _ h c.index.ensures 0)) ∙ is_one _ c.if-index-ne1.false) in
    (c.self.invariant.0, grind arith)

pub returns-clause-members : goal.returns-clause-members
returns-clause-members c =
    let flags = c.self.inside.flags.items in
    let h : c.args.n < length flags = grind arith in
    rw (← c.self.view_is) (λ m. remove-has flags c.args.n m h)

pub returns-clause-rising : goal.returns-clause-rising
returns-clause-rising c = places-rising 0 (flags_of (set c.self.inside.flags.items c.args.n 0))

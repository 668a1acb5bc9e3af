use Rattle.std.proofs.Common.{◌<◌, length, length-set, arith, ap, sym, ◌∙◌}
use Rattle.std.specs.Prelude.{nat_eq}
use Rattle.std.proofs.Math.ListN.{set}
use Rattle.std.proofs.lemmas.List.{get_or_read}
use Rattle.px_base.specs.BitSets.{flags_of}
use Rattle.px_base.proofs.FlagIndexes.{is_one, not_one, insert-has, insert-kept, places-rising, members-more, members-length}
use Rattle.px_base.proofs.bits.Bits.insert.Goals as goal

pub returns-then-index-eq1-clause-members : goal.returns-then-index-eq1-clause-members
returns-then-index-eq1-clause-members c =
    let flags = c.self.inside.flags.items in
    let h : c.args.n < length flags = grind arith in
    rw (← c.self.view_is) (λ m. insert-kept flags c.args.n m (sym (ap (λ b. nat_eq b 1) (get_or_read flags _ _ h c.index.ensures 0)) ∙ is_one _ c.if-index-eq1.true))

pub returns-then-index-eq1-clause-rising : goal.returns-then-index-eq1-clause-rising
returns-then-index-eq1-clause-rising c = rw (← c.self.view_is) (places-rising 0 (flags_of c.self.inside.flags.items))

pub overflow_add-self : goal.overflow_add-self
overflow_add-self c =
    let flags = c.self.inside.flags.items in
    let h : c.args.n < length flags = grind arith in
    let e = members-more flags c.args.n h (sym (ap (λ b. nat_eq b 1) (get_or_read flags _ _ h c.index.ensures 0)) ∙ not_one _ c.if-index-eq1.false) in
    let within = members-length (set flags c.args.n 1) in
    let same = length-set flags c.args.n 1 in
    grind arith

pub invariant_of-self : goal.invariant_of-self
invariant_of-self c =
    let flags = c.self.inside.flags.items in
    let h : c.args.n < length flags = grind arith in
    let e = members-more flags c.args.n h (sym (ap (λ b. nat_eq b 1) (get_or_read flags _ _ h c.index.ensures 0)) ∙ not_one _ c.if-index-eq1.false) in
    (c.self.invariant.0, grind arith)

pub returns-clause-members : goal.returns-clause-members
returns-clause-members c =
    let flags = c.self.inside.flags.items in
    let h : c.args.n < length flags = grind arith in
    rw (← c.self.view_is) (λ m. insert-has flags c.args.n m h)

pub returns-clause-rising : goal.returns-clause-rising
returns-clause-rising c = places-rising 0 (flags_of (set c.self.inside.flags.items c.args.n 1))

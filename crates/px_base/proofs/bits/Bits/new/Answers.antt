use Rattle.std.proofs.Common.{◌≡◌, ◌∙◌, ap, sym, length, vec_len, arith}
use Rattle.px_base.specs.BitSets.{flags_of, places_from}
use Rattle.px_base.proofs.FlagIndexes.{places-none}
use Rattle.px_base.proofs.bits.Bits.new.Goals as goal

pub invariant_of-result : goal.invariant_of-result
invariant_of-result c =
    let e = c.in_ok-flags.ensures.items_if_clones_equal (λ y h. h) in
    let none = ap (λ bytes. places_from 0 (flags_of bytes)) e ∙ places-none 0 c.args.size in
    (grind arith, sym (ap length none))

pub returns : goal.returns
returns c =
    let e = c.in_ok-flags.ensures.items_if_clones_equal (λ y h. h) in
    let none = ap (λ bytes. places_from 0 (flags_of bytes)) e ∙ places-none 0 c.args.size in
    let size : vec_len c.in_ok-flags.flags ≡ c.args.size = c.in_ok-flags.ensures.len in
    λ i. record { size = size i; members = none i }

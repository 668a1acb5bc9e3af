use Rattle.std.proofs.Common.{◌<◌, ◌∙◌, length, sym, ap, nat_eq, not, get_or, set, true, false, arith}
use Rattle.std.specs.Prelude.{◌||◌}
use Rattle.std.proofs.lemmas.List.{with_items_is}
use Rattle.path_automaton.specs.MarkRows.{bit_of, flags_of}
use Rattle.path_automaton.proofs.Bits.{length-flags_of, get_or-flags_of, flags_of-set}
use Rattle.path_automaton.proofs.row.Row.insert.Goals as goal

pub set_bit-requires : goal.set_bit-requires
set_bit-requires c =
    let wide = length-flags_of c.self.inside.width c.self.inside.words.items in
    omega (arith, c.requires, ap length c.self.view_is, wide, c.in_ok-make_words.ensures.ready, ap length c.deref_mut.ensures.value)

pub returns-clause-new : goal.returns-clause-new
returns-clause-new c =
    let words = c.self.inside.words.items in
    let width = c.self.inside.width in
    let inside : c.args.place < width = omega (arith, c.requires, ap length c.self.view_is, length-flags_of width words) in
    c.set_bit.ensures.new
    ∙ ap (λ w. not (bit_of w c.args.place)) c.deref_mut.ensures.value
    ∙ ap not (c.in_ok-make_words.ensures.same c.args.place ∙ sym (get_or-flags_of width words c.args.place inside) ∙ ap (λ s. get_or s c.args.place false) c.self.view_is)

pub returns-clause-after : goal.returns-clause-after
returns-clause-after c =
    let words = c.self.inside.words.items in
    let width = c.self.inside.width in
    let inside : c.args.place < width = omega (arith, c.requires, ap length c.self.view_is, length-flags_of width words) in
    ap (flags_of width) (with_items_is c.make_words.new.words c.set_bit.new.words (c.set_bit.ensures.len ∙ c.deref_mut.ensures.len))
    ∙ flags_of-set width words c.set_bit.new.words c.args.place inside
    (λ k. c.set_bit.ensures.bits k ∙ ap (λ b. nat_eq k c.args.place || b) (ap (λ w. bit_of w k) c.deref_mut.ensures.value ∙ c.in_ok-make_words.ensures.same k))
    ∙ ap (λ s. set s c.args.place true) c.self.view_is

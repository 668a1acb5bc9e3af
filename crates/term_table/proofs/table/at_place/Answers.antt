use Rattle.std.proofs.Common.{◌∙◌, ap, sym, refl, arith}
use Rattle.term_table.specs.Entries.{parts_in}
use Rattle.term_table.proofs.FoundLemmas.{found_as}
use Rattle.term_table.proofs.table.at_place.Goals as goal

pub returns : goal.returns
returns c x is =
    let arena = c.args.arena.now in
    let index = c.args.index.now in
    let within = c.if-place-len.false in
    let count = c.len.ensures.items in
    let parts = ap (parts_in arena) (sym c.read_entry-e.ensures) ∙ c.if-not-has_parts.ensures.same refl ∙ is in
    rw c.read_entry-e.ensures (found_as arena index c.requires x c.args.place (omega (arith, within, count)) parts)

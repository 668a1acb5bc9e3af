use Rattle.std.proofs.Common.{sym, ◌∙◌, ap}
use Rattle.std.specs.Prelude.{position, nat_eq}
use Rattle.cell_lists.specs.Segments.{items_in}
use Rattle.cell_lists.proofs.ListWithout.{untaken}
use Rattle.cell_lists.proofs.SegmentLemmas.{items-without}
use Rattle.cell_lists.proofs.segment.take_out.Goals as goal

pub returns-in_default-clause-without : goal.returns-in_default-clause-without
returns-in_default-clause-without c =
    untaken (items_in c.args.cells.now.items c.args.segment.now) c.args.n c.requires.once
    (ap (position (nat_eq c.args.n)) (sym (c.items.ensures ∙ ap (λ l. items_in l c.args.segment.now) c.deref.ensures.value)) ∙ sym c.place_of.ensures ∙ c.in_default.is)

pub returns-clause-without : goal.returns-clause-without
returns-clause-without c =
    let s = c.args.segment.now in
    let at = ap (position (nat_eq c.args.n)) (sym (c.items.ensures ∙ ap (λ l. items_in l s) c.deref.ensures.value)) ∙ sym c.place_of.ensures ∙ c.in-Some.is in
    items-without c.args.cells.now.items s c.in-Some.place c.args.n c.requires.within at _ c.requires.once c.take_at.ensures.items

use Rattle.std.proofs.Common.{◌∙◌, ap, sym, nat_eq}
use Rattle.std.specs.Prelude.{is_some, position}
use Rattle.label_graph.proofs.TakenNumbers.{first-found, first-removed}
use Rattle.label_graph.proofs.numbers.take_number.Goals as goal

pub unwrap-at-requires : goal.unwrap-at-requires
unwrap-at-requires c =
    ap is_some (c.place_of_number.ensures ∙ ap (position (nat_eq c.args.l)) c.deref.ensures.value) ∙ first-found (nat_eq c.args.l) c.args.numbers.now.items c.requires

pub returns : goal.returns
returns c =
    c.remove.ensures.items
    ∙ first-removed (nat_eq c.args.l) c.args.numbers.now.items c.unwrap-at.result
    (ap (position (nat_eq c.args.l)) (sym c.deref.ensures.value) ∙ sym c.place_of_number.ensures ∙ c.unwrap-at.ensures)

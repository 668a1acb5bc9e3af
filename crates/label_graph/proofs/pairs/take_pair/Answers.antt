use Rattle.std.proofs.Common.{◌∙◌, ap, sym}
use Rattle.std.specs.Prelude.{is_some, position}
use Rattle.label_graph.specs.ReservedGraphs.{is_pair}
use Rattle.label_graph.proofs.ReservedPairs.{pair-found, pair-taken}
use Rattle.label_graph.proofs.pairs.take_pair.Goals as goal

pub unwrap-at-requires : goal.unwrap-at-requires
unwrap-at-requires c =
    ap is_some (c.place_of_pair.ensures ∙ ap (position (is_pair c.args.u c.args.v)) c.deref.ensures.value) ∙ pair-found c.args.u c.args.v c.args.pairs.now.items c.requires

pub returns : goal.returns
returns c =
    c.remove.ensures.items
    ∙ pair-taken c.args.u c.args.v c.args.pairs.now.items c.unwrap-at.result
    (ap (position (is_pair c.args.u c.args.v)) (sym c.deref.ensures.value) ∙ sym c.place_of_pair.ensures ∙ c.unwrap-at.ensures)

use Rattle.std.proofs.Common.{◌∙◌, ap, sym, Some, option_map}
use Rattle.std.specs.Map.{keys_of}
use Rattle.std.proofs.lemmas.Option.{slice_get-map}
use Rattle.std.proofs.lemmas.Slice.Eq.{bytes_eq-Decides}
use Rattle.label_graph.proofs.Positions.{position-at}
use Rattle.triple_names.proofs.predicates.Predicates.is_at.Goals as goal

pub returns-in-Some : goal.returns-in-Some
returns-in-Some c h =
    let es = c.self.inside.table.entries in
    let same = (bytes_eq-Decides c.in-Some.text.now c.args.iri.now).0 (sym c.eq.ensures ∙ h) in
    let entry = sym c.get_index.ensures.entry ∙ ap (option_map _) c.in-Some.is in
    let key = slice_get-map (λ e. e.0) es c.args.place ∙ ap (option_map (λ e. e.0)) entry in
    rw (← c.self.view_is) (position-at (keys_of es) c.args.place c.args.iri.now c.len-known.ensures.unique (key ∙ ap Some same))

use Rattle.std.proofs.Common.{◌≡◌, ◌+◌, ◌∙◌, ◌++◌, ap, sym, arith, length}
use Rattle.std.proofs.lemmas.List.{length-map}
use Rattle.graph_steps.specs.StepLists.{step_of, steps_of}
use Rattle.graph_steps.specs.NodePlaces.{place_if, node_places}
use Rattle.graph_steps.proofs.NodePlaces.{places_more}
use Rattle.graph_steps.proofs.changes.note_place.Goals as goal

pub returns : goal.returns
returns c =
    let ss = c.args.steps.now in
    let s = step_of c.args.step.now in
    let same = length-map ss step_of in
    let len : length ss ≡ 0 + length (steps_of ss) = omega (arith, same) in
    c.place_if.ensures ∙ ap (λ xs. xs ++ place_if s (length ss)) c.requires.places ∙ ap (λ k. node_places (steps_of ss) ++ place_if s k) len ∙ sym (places_more 0 (steps_of ss) s)

use Rattle.std.proofs.Common.{◌∙◌, ◌++◌, ◌∷◌, [], ap, sym, Some}
use Rattle.std.specs.Prelude.{position, bytes_eq}
use Rattle.triple_names.proofs.PlaceLaws.{none_passes, position_push, predicate_there, predicate_new, predicate_is_at}
use Rattle.term_table.proofs.SameTerms.{bytes_same}
use Rattle.triple_names.proofs.predicates.Predicates.intern.Goals as goal

pub returns-in-Some-clause-added : goal.returns-in-Some-clause-added
returns-in-Some-clause-added c = predicate_there c.args.self.now c.args.iri.now c.in-Some.place (rw c.in-Some.is at c.requires.found)

pub returns-in-Some-clause-at : goal.returns-in-Some-clause-at
returns-in-Some-clause-at c = predicate_is_at c.args.self.now c.args.iri.now c.in-Some.place (rw c.in-Some.is at c.requires.found)

pub returns-in-Some-find-clause-added : goal.returns-in-Some-find-clause-added
returns-in-Some-find-clause-added c = predicate_there c.args.self.now c.args.iri.now c.in-Some-find.place (sym c.find.ensures ∙ c.in-Some-find.is)

pub returns-in-Some-find-clause-at : goal.returns-in-Some-find-clause-at
returns-in-Some-find-clause-at c = predicate_is_at c.args.self.now c.args.iri.now c.in-Some-find.place (sym c.find.ensures ∙ c.in-Some-find.is)

pub add-requires-clause-absent : goal.add-requires-clause-absent
add-requires-clause-absent c =
    rw c.in_ok-copy.ensures (none_passes (bytes_eq c.args.iri.now) c.args.self.now (sym c.find.ensures ∙ c.in_default-find.is))

pub returns-clause-added : goal.returns-clause-added
returns-clause-added c =
    c.in_ok-add.ensures.added ∙ ap (λ x. c.args.self.now ++ x ∷ []) c.in_ok-copy.ensures
    ∙ predicate_new c.args.self.now c.args.iri.now (sym c.find.ensures ∙ c.in_default-find.is)

pub returns-clause-place : goal.returns-clause-place
returns-clause-place c =
    ap (position (bytes_eq c.args.iri.now)) (c.in_ok-add.ensures.added ∙ ap (λ x. c.args.self.now ++ x ∷ []) c.in_ok-copy.ensures)
    ∙ position_push (bytes_eq c.args.iri.now) c.args.self.now c.args.iri.now (bytes_same c.args.iri.now)
    (none_passes (bytes_eq c.args.iri.now) c.args.self.now (sym c.find.ensures ∙ c.in_default-find.is))
    ∙ ap Some (sym c.len-place.ensures)

pub returns-clause-at : goal.returns-clause-at
returns-clause-at c = predicate_is_at c.add.new.self c.args.iri.now c.len-place.result (returns-clause-place c)

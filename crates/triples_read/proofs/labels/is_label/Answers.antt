use Rattle.std.proofs.Common.{◌≡◌, ◌∙◌, sym, ap, List, ℕ, [], true, refl, length, nat_eq}
use Rattle.std.proofs.lemmas.Bool.{eqb-true}
use Rattle.std.proofs.lemmas.List.{nil_from_length}
use Rattle.triples_read.proofs.CanonicalLaws.{label_of_text, text_of_label}
use Rattle.triples_read.proofs.labels.is_label.Goals as goal

empty_is : (xs : List ℕ) → nat_eq (length xs) 0 ≡ true → xs ≡ []
empty_is xs e = nil_from_length xs (eqb-true (length xs) 0 e)

pub returns-in-Some-clause-sound : goal.returns-in-Some-clause-sound
returns-in-Some-clause-sound c e =
    let none : c.in-Some.rest.now ≡ [] = empty_is c.in-Some.rest.now (sym c.is_empty.ensures ∙ e) in
    label_of_text c.args.text.now c.in-Some.rest.now c.utf8.text c.in-Some.ensures.found none

pub returns-in-Some-clause-complete : goal.returns-in-Some-clause-complete
returns-in-Some-clause-complete c s spelled =
    let (v, good, whole) = text_of_label c.args.text.now s spelled in
    let none : c.in-Some.rest.now ≡ [] = c.in-Some.ensures.whole v [] whole good refl in
    c.is_empty.ensures ∙ ap (λ (z : List ℕ). nat_eq (length z) 0) none

pub returns-in-None-clause-complete : goal.returns-in-None-clause-complete
returns-in-None-clause-complete c s spelled =
    let (v, good, whole) = text_of_label c.args.text.now s spelled in
    absurd (c.in-None.ensures.whole v [] whole good refl)

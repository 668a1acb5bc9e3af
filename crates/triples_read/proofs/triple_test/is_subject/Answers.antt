use Rattle.std.proofs.Common.{◌∷◌, sym, subst, List, ℕ}
use Rattle.std.specs.Str.{chars}
use Rattle.triples_read.specs.Lines.{IsIri, IsSubject, IsBlankNode}
use Rattle.triples_read.specs.declared.term.Term.{Term}
use Rattle.triples_read.proofs.triple_test.is_subject.Goals as goal

pub returns-in-Iri-clause-sound : goal.returns-in-Iri-clause-sound
returns-in-Iri-clause-sound c e =
    let iri = c.is_iri.ensures.spelled in
    subst (λ (u : Term). (s : List ℕ) × IsSubject s u) (sym c.in-Iri.is) (iri.0, subst (IsIri iri.0) c.as_str.ensures iri.1)

pub returns-in-Blank-clause-sound : goal.returns-in-Blank-clause-sound
returns-in-Blank-clause-sound c e =
    let own : IsBlankNode (95 ∷ 58 ∷ chars c.in-Blank.label) c.in-Blank.label = subst (λ (z : List ℕ). IsBlankNode (95 ∷ 58 ∷ chars z) z) c.as_str-in-Blank.ensures (c.is_label.ensures.sound e) in
    subst (λ (u : Term). (s : List ℕ) × IsSubject s u) (sym c.in-Blank.is) (95 ∷ 58 ∷ chars c.in-Blank.label, own)

pub returns-in-Blank-clause-complete : goal.returns-in-Blank-clause-complete
returns-in-Blank-clause-complete c s spelled =
    let own : IsBlankNode s c.in-Blank.label = subst (IsSubject s) c.in-Blank.is spelled in
    c.is_label.ensures.complete s (subst (IsBlankNode s) (sym c.as_str-in-Blank.ensures) own)

use Rattle.std.proofs.Common.{◌∙◌, sym, subst, List, ℕ}
use Rattle.triples_read.specs.Lines.{IsObject, IsLiteral}
use Rattle.triples_read.specs.declared.term.Term.{Term}
use Rattle.triples_read.specs.declared.term.Term.TheVariants.{Literal}
use Rattle.triples_read.proofs.CanonicalLaws.{literal_of_text}
use Rattle.triples_read.proofs.LineLaws.{subject-object, object-subject, literal-suffix}
use Rattle.triples_read.proofs.triple_test.is_object.Goals as goal

pub returns-then-is_string-clause-sound : goal.returns-then-is_string-clause-sound
returns-then-is_string-clause-sound c e =
    let string = c.is_string.ensures.spelled in
    let suffix = c.is_suffix.ensures.sound e in
    let made : (s : List ℕ) × IsObject s (Literal c.in-Literal.text c.in-Literal.datatype c.in-Literal.tag) =
    literal_of_text string.0 string.1 c.in-Literal.text suffix.0 c.in-Literal.datatype c.in-Literal.tag string.2 (sym c.as_str.ensures ∙ string.3) suffix.1 in
    subst (λ (u : Term). (s : List ℕ) × IsObject s u) (sym c.in-Literal.is) made

pub returns-then-is_string-clause-complete : goal.returns-then-is_string-clause-complete
returns-then-is_string-clause-complete c s spelled =
    let own : IsLiteral s c.in-Literal.text c.in-Literal.datatype c.in-Literal.tag = subst (IsObject s) c.in-Literal.is spelled in
    let suffix = literal-suffix s c.in-Literal.text c.in-Literal.datatype c.in-Literal.tag own in
    c.is_suffix.ensures.complete suffix.0 suffix.1

pub returns-in_default : goal.returns-in_default
returns-in_default c = record {
  sound = λ e. (let found = c.is_subject.ensures.sound e in (found.0, subject-object found.0 c.args.term.now found.1));
  complete = λ s spelled. c.is_subject.ensures.complete s (object-subject s c.args.term.now c.in_default.not-Literal spelled);
}

use Rattle.std.proofs.Common.{◌≡◌, ◌∙◌, ◌∷◌, sym, ap, subst, true, List, ℕ, Option, Some}
use Rattle.std.specs.Prelude.{bytes_eq}
use Rattle.triples_read.specs.Terminals.{LANGTAG}
use Rattle.triples_read.specs.Lines.{IsIri, Suffix, lang_string}
use Rattle.triples_read.proofs.CanonicalLaws.{tagged_suffix, plain_suffix, suffix_tag}
use Rattle.triples_read.proofs.triple_test.is_suffix.Goals as goal

pub returns-then-is_lang_string-clause-sound : goal.returns-then-is_lang_string-clause-sound
returns-then-is_lang_string-clause-sound c e =
    let kind : bytes_eq c.args.datatype.now lang_string ≡ true = ap (λ (z : List ℕ). bytes_eq z lang_string) (sym c.as_str.ensures) ∙ sym c.is_lang_string.ensures ∙ c.if-is_lang_string.true in
    let own : LANGTAG (64 ∷ c.in-Some.tag) c.in-Some.tag = subst (λ (z : List ℕ). LANGTAG (64 ∷ z) z) c.as_bytes.ensures.bytes (c.is_tag.ensures.sound e) in
    subst (λ (t : Option (List ℕ)). (s : List ℕ) × Suffix s c.args.datatype.now t) (sym c.in-Some.is) (tagged_suffix c.args.datatype.now c.in-Some.tag kind own)

pub returns-then-is_lang_string-clause-complete : goal.returns-then-is_lang_string-clause-complete
returns-then-is_lang_string-clause-complete c s spelled =
    let own : Suffix s c.args.datatype.now (Some c.in-Some.tag) = subst (Suffix s c.args.datatype.now) c.in-Some.is spelled in
    let (kind, u, langtag) = suffix_tag s c.args.datatype.now c.in-Some.tag own in
    c.is_tag.ensures.complete u (subst (LANGTAG (64 ∷ u)) (sym c.as_bytes.ensures.bytes) langtag)

pub returns-in-None-clause-sound : goal.returns-in-None-clause-sound
returns-in-None-clause-sound c e =
    let iri = c.is_iri.ensures.spelled in
    subst (λ (t : Option (List ℕ)). (s : List ℕ) × Suffix s c.args.datatype.now t) (sym c.in-None.is) (plain_suffix iri.0 c.args.datatype.now (subst (IsIri iri.0) c.as_str-in-None.ensures iri.1))

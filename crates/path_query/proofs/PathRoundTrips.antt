-- What is written is read again as the same tree.
use Rattle.std.proofs.Common.{ℕ, inl, inr, List, [], ◌∷◌, ◌++◌, refl, sym, ◌∙◌, subst, arith}
use Rattle.std.proofs.Math.Seq.{take-length}
use Rattle.std.specs.Str.{chars}
use Rattle.triples_read.specs.Canonical.{iri_text}
use Rattle.triples_read.proofs.CanonicalLaws.{iri_canonical}
use Rattle.path_spec.specs.Trees.{Expr}
use Rattle.path_spec.specs.Tokens.{Token, lab, underscore, slash, slashes, bar, opening, closing, sign, tokens}
use Rattle.path_spec.specs.Spelling.{EndsSlash, SpellsTokens, canonical}
use Rattle.path_spec.proofs.CanonicalTexts.{SpellThemselves, NoSlash, canonical_spells}
use Rattle.path_query.specs.Labels.{IsPlainLabel, SpellsLabel}
use Rattle.path_query.specs.Parsed.{SpellsPath}
use Rattle.path_query.proofs.LabelLaws.{label_first}
use Rattle.path_query.proofs.TokenPrefixLaws.{label_no_slash}

-- a label is spelled by its own text
pub label_again : (w t : List ℕ) → SpellsLabel w t → SpellsLabel t t
label_again w t (inl (l, e)) = inl (subst (λ x. IsPlainLabel x) (sym e) l, refl)
label_again w t (inr (iri, (le, s, prefix, is), e)) =
    let again = iri_canonical s iri is in
    inr (iri, (omega arith, iri_text (chars iri), take-length t ∙ e, again.0), e)

themselves : (text : List ℕ) (ts : List Token) → SpellsTokens SpellsLabel text ts → SpellThemselves SpellsLabel ts
themselves text [] h = tt
themselves text (lab t ∷ ts) (b, w, rest, blanks, spelled, ends, more, e) = (label_again w t spelled, themselves rest ts more)
themselves text (underscore ∷ ts) (b, w, rest, blanks, spelled, ends, more, e) = themselves rest ts more
themselves text (slash ∷ ts) (b, w, rest, blanks, spelled, ends, more, e) = themselves rest ts more
themselves text (slashes ∷ ts) (b, w, rest, blanks, spelled, ends, more, e) = themselves rest ts more
themselves text (bar ∷ ts) (b, w, rest, blanks, spelled, ends, more, e) = themselves rest ts more
themselves text (opening ∷ ts) (b, w, rest, blanks, spelled, ends, more, e) = themselves rest ts more
themselves text (closing ∷ ts) (b, w, rest, blanks, spelled, ends, more, e) = themselves rest ts more
themselves text (sign g ∷ ts) (b, w, rest, blanks, spelled, ends, more, e) = themselves rest ts more

no_slash : NoSlash SpellsLabel
no_slash t rest h = let f = label_first t t h in subst (λ x. EndsSlash (x ++ rest)) (sym f.is) (label_no_slash f.byte f.opens)

pub again : (text : List ℕ) (e : Expr) → SpellsPath text e → SpellsPath (canonical e) e
again text e h = canonical_spells SpellsLabel no_slash e (themselves text (tokens e) h)

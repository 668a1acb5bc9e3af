-- The definitions at small cases.
use Rattle.std.proofs.Common.{◌≡◌, ℕ, List, [], ◌∷◌, ◌++◌, refl, sym, ◌∙◌, ap, inl, inr, Some, None}
use Rattle.std.specs.Prelude.{codes}
use Rattle.triples_read.specs.Characters.{pn_chars, label_inner}
use Rattle.triples_read.specs.Terminals.{EndsIn, LANGTAG}
use Rattle.triples_read.specs.Lines.{SpellsTriple}
use Rattle.triples_read.specs.declared.term.Term.TheVariants.{Iri, Blank}
use Rattle.triples_read.specs.ByteReaders.{past_label, string_escape_at, uchar_at}
use Rattle.triples_read.proofs.Basics.{no_both}

no_nil : (xs : List ℕ) → xs ++ 46 ∷ [] ≡ [] → ⊥
no_nil [] e = absurd cc
no_nil (x ∷ xs) e = absurd cc

last_of : List ℕ → ℕ → ℕ
last_of [] d = d
last_of (x ∷ xs) d = last_of xs x

last_push : (xs : List ℕ) (d c : ℕ) → last_of (xs ++ c ∷ []) d ≡ c
unfolding last_of
last_push [] d c = refl
last_push (x ∷ xs) d c = last_push xs x c

last_same : (xs ys : List ℕ) (a b : ℕ) → xs ++ a ∷ [] ≡ ys ++ b ∷ [] → a ≡ b
last_same xs ys a b e = sym (last_push xs 0 a) ∙ ap (λ (z : List ℕ). last_of z 0) e ∙ last_push ys 0 b

-- what ends in a dot is no label's rest
pub no_dot_last : (xs : List ℕ) → EndsIn label_inner pn_chars (xs ++ 46 ∷ []) → ⊥
no_dot_last xs (inl none) = no_nil xs none
no_dot_last xs (inr (more, c, parts, all, ok, last)) = no_both (pn_chars c) last (ap pn_chars (sym (last_same xs more 46 c parts)))

-- `b.1 ` is the label b.1, `b..` is the label b
pub inner_dot : past_label (codes ".1 ") (codes ".1 ") ≡ codes " "
inner_dot = refl

pub two_dots : past_label (codes "..") (codes "..") ≡ codes ".."
two_dots = refl

pub lower_tag : LANGTAG (codes "@EN-gb") (codes "en-gb")
lower_tag = (codes "EN", codes "gb" ∷ [], (λ e. cc, ((refl, refl), ((refl, refl), tt))), ((λ e. cc, ((refl, refl), ((refl, refl), tt))), tt), refl, refl)

pub surrogate : uchar_at (codes "uD800") ≡ None
surrogate = refl

pub highest : uchar_at (codes "U0010FFFF") ≡ Some (0x10FFFF, 10)
highest = refl

pub no_q : string_escape_at (codes "qb") ≡ None
no_q = refl

-- `<a><b>_:c.#`
pub whole_line : SpellsTriple (codes "<a> <b>_:c.#") (record { subject = Iri (codes "a"); predicate = codes "b"; object = Blank (codes "c") })
unfolding lib.Utf8.encode
whole_line = (
  record { chars = codes "<a> <b>_:c.#"; scalars = refl; encoded = refl },
  [],
  codes "<a> <b>_:c.",
  [],
  codes "#",
  refl,
  tt,
  record {
    subject = codes "<a>";
    gap = codes " ";
    predicate = codes "<b>";
    gap2 = [];
    object = codes "_:c";
    gap3 = [];
    whole = refl;
    gaps = (((refl, refl), tt), tt, tt);
    is_subject = (codes "a", (codes "a", refl, (codes "a", [], refl, inl (refl, refl, refl), refl)), refl);
    is_predicate = (codes "b", (codes "b", refl, (codes "b", [], refl, inl (refl, refl, refl), refl)), refl);
    is_object = (codes "c", (refl, (99, [], refl, refl, refl, inl refl)), refl);
  },
  tt,
  inr ([], refl),
)

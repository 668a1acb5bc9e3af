-- At most one prefix of a text is a label behind which no name goes on.
use Rattle.std.proofs.Common.{◌≡◌, ◌≤◌, inl, inr, ℕ, zero, suc, true, false, refl, List, [], ◌∷◌, ◌++◌, length, take, drop, sym, ap, ◌∙◌, subst, true≢false, arith, ◌+◌, append-nil, length-append, eqb-true}
use Rattle.std.proofs.Math.Seq.{take-length}
use Rattle.std.proofs.Math.Utf8.{encodes, scalars}
use Rattle.std.specs.Prelude.{◌==◌, ◌||◌, IsUtf8, nat_eq}
use Rattle.std.specs.List.{prefix_len, position_or_len}
use Rattle.std.proofs.lemmas.Bool.Decides.{nat_tests}
use Rattle.std.proofs.lemmas.List.{take-append-drop, length-take-le}
use Rattle.std.proofs.lemmas.Str.{encodes_same}
use Rattle.graph_spec.specs.Words.{is_blank, is_letter, is_name_byte, is_name}
use Rattle.triples_read.specs.Lines.{IsIri, IsIriPrefix}
use Rattle.triples_read.specs.Canonical.{iri_spelling}
use Rattle.triples_read.specs.SpelledPrefixes.{IsText}
use Rattle.triples_read.specs.ByteReaders.{starts_with}
use Rattle.triples_read.proofs.OpeningQuotes.{prefix-quoted}
use Rattle.triples_read.proofs.IriPrefixes.{prefix-cut, end-found, cut-there}
use Rattle.triples_read.proofs.OneTriple.{iri-unique}
use Rattle.path_spec.specs.Spelling.{EndsName}
use Rattle.path_query.specs.Languages.{Begins}
use Rattle.path_query.specs.Labels.{IsPlainLabel, SpellsLabel, IsNamePrefix}
use Rattle.path_query.proofs.LabelBytes.{named, name_bytes}
use Rattle.path_query.proofs.Cuts.{Stops, prefix_len-cut}

pub ends_stop : (xs : List ℕ) → EndsName xs → Stops is_name_byte xs
ends_stop [] h = tt
ends_stop (x ∷ xs) h = h

pub stop_ends : (xs : List ℕ) → Stops is_name_byte xs → EndsName xs
stop_ends [] h = tt
stop_ends (x ∷ xs) h = h

-- a name that ends there is as long as can be
pub name_end : (text : List ℕ) (n : ℕ) → n ≤ length text → is_name (take n text) ≡ true → EndsName (drop n text) → prefix_len is_name_byte text ≡ n
name_end text n le name ends =
    ap (prefix_len is_name_byte) (sym (take-append-drop n text))
    ∙ prefix_len-cut is_name_byte (take n text) (drop n text) (name_bytes (take n text) name) (ends_stop (drop n text) ends)
    ∙ length-take-le n text le

-- an IRIREF at the front is one of the front alone
pub iri_alone : (text : List ℕ) (n : ℕ) (iri : List ℕ) → IsIriPrefix text n iri → IsIriPrefix (take n text) (length (take n text)) iri
iri_alone text n iri (le, s, prefix, is) = (omega arith, s, take-length (take n text) ∙ prefix, is)

pub iri_in_prefix : (text : List ℕ) (n : ℕ) (iri : List ℕ) → n ≤ length text → IsIriPrefix (take n text) (length (take n text)) iri → IsIriPrefix text n iri
iri_in_prefix text n iri le (within, s, prefix, is) = (le, s, sym (take-length (take n text)) ∙ prefix, is)

-- it begins with '<'
pub iri_opens : (text : List ℕ) (n : ℕ) (iri : List ℕ) → IsIriPrefix text n iri → starts_with 60 text ≡ true
iri_opens text n iri prefix =
    let (v, tail, is, len, quoted) = prefix-quoted text n iri prefix in
    ap (starts_with 60) quoted.1

-- where it ends, at its first '>', and its text
record Cut (text : List ℕ) (n : ℕ) : Type 0 where
  end : ℕ
  end_is : position_or_len (λ c. nat_eq c 62) text ≡ end
  len_is : n ≡ end + 1
  utf8 : IsUtf8 (take n text)

iri_cut : (text : List ℕ) (n : ℕ) (iri : List ℕ) → IsIriPrefix text n iri → Cut text n
iri_cut text n iri prefix =
    let (xs, ys, v, parts, lacks, len, is, utf8, quoted) = prefix-cut text n iri prefix in
    let size : n ≡ length xs + 1 = len ∙ length-append xs (62 ∷ []) in
    record {
      end = length xs;
      end_is = end-found text xs ys parts lacks;
      len_is = size;
      utf8 = subst IsUtf8 (sym (ap (λ i. take i text) size ∙ cut-there text xs ys parts)) utf8;
    }

-- an IRIREF is one for one IRI
iri_read : (s i j : List ℕ) → IsUtf8 (encodes s) → IsIri s i → IsIri s j → i ≡ j
iri_read s i j (cs, (ok, e)) h k =
    let text : IsText (encodes s) (s ++ []) = (ap encodes (sym (append-nil s)), ap scalars (append-nil s ∙ encodes_same s cs (sym e)) ∙ ok) in
    (iri-unique (encodes s) s [] i s [] j text text h k).0

pub iri_one : (text : List ℕ) (m n : ℕ) (i j : List ℕ) → IsIriPrefix text m i → IsIriPrefix text n j → (m ≡ n) × (i ≡ j)
iri_one text m n i j h k =
    let a = iri_cut text m i h in
    let b = iri_cut text n j k in
    let end : a.end ≡ b.end = sym a.end_is ∙ b.end_is in
    let same : m ≡ n = a.len_is ∙ ap (λ e. e + 1) end ∙ sym b.len_is in
    let spelled : h.1 ≡ k.1 = encodes_same h.1 k.1 (sym h.2 ∙ ap (λ e. take e text) same ∙ k.2) in
    (same, iri_read h.1 i j (subst IsUtf8 h.2 a.utf8) h.3 (subst (λ s. IsIri s j) (sym spelled) k.3))

-- and a name doesn't
pub plain_opens : (text : List ℕ) (n : ℕ) → starts_with 60 text ≡ true → IsPlainLabel (take n text) → ⊥
plain_opens [] n e l = true≢false (sym e)
plain_opens (x ∷ xs) zero e l = true≢false (sym l.0)
plain_opens (x ∷ xs) (suc n) e l =
    true≢false (sym (subst (λ b. is_letter b ≡ true) (eqb-true x 60 e) (named x (take n xs) l.0).letter))

-- its first byte is a letter, or '<'
pub record First (w : List ℕ) : Type 0 where
  pub byte : ℕ
  pub others : List ℕ
  pub is : w ≡ byte ∷ others
  pub opens : (is_letter byte || (byte == 60)) ≡ true

pub label_first : (w t : List ℕ) → SpellsLabel w t → First w
label_first [] t (inl (l, e)) = absurd (true≢false (sym l.0))
label_first (x ∷ xs) t (inl (l, e)) = record { byte = x; others = xs; is = refl; opens = ap (λ c. c || (x == 60)) (named x xs l.0).letter }
label_first [] t (inr (iri, h, e)) = absurd (true≢false (sym (iri_opens [] 0 iri h)))
label_first (x ∷ xs) t (inr (iri, h, e)) =
    record { byte = x; others = xs; is = refl; opens = ap (λ b. is_letter b || (b == 60)) (eqb-true x 60 (iri_opens (x ∷ xs) (length (x ∷ xs)) iri h)) }

-- and that is no blank
pub label_begins : (w t : List ℕ) → SpellsLabel w t → Begins w
label_begins w t h = let f = label_first w t h in subst Begins (sym f.is) (no_blank f.byte f.opens)
  where
    no_blank : (b : ℕ) → (is_letter b || (b == 60)) ≡ true → is_blank b ≡ false
    no_blank b h = grind (arith, nat_tests)

-- which kind of label stands in front
pub data Kind (text : List ℕ) (n : ℕ) (t : List ℕ) : Type 0 where
  plain : IsPlainLabel (take n text) → t ≡ take n text → Kind text n t
  bracketed : (iri : List ℕ) → IsIriPrefix text n iri → t ≡ iri_spelling iri → Kind text n t

pub kind : (text : List ℕ) (n : ℕ) (t : List ℕ) → IsNamePrefix text n t → Kind text n t
kind text n t (le, inl (l, e)) = plain l e
kind text n t (le, inr (iri, h, e)) = bracketed iri (iri_in_prefix text n iri le h) e

-- the law of one prefix
pub prefix_one : (text : List ℕ) (m n : ℕ) (a b : List ℕ) → IsNamePrefix text m a → EndsName (drop m text) → IsNamePrefix text n b → EndsName (drop n text)
    → (m ≡ n) × (a ≡ b)
prefix_one text m n a b h p k q =
    elim (kind text m a h) [
      | plain l e ↦ elim (kind text n b k) [
        | plain l2 e2 ↦ (
            let same : m ≡ n = sym (name_end text m h.0 l.0 p) ∙ name_end text n k.0 l2.0 q in
            (same, e ∙ ap (λ i. take i text) same ∙ sym e2))
        | bracketed iri f e2 ↦ absurd (plain_opens text m (iri_opens text n iri f) l)
      ]
      | bracketed iri f e ↦ elim (kind text n b k) [
        | plain l2 e2 ↦ absurd (plain_opens text n (iri_opens text m iri f) l2)
        | bracketed other f2 e2 ↦ (let same = iri_one text m n iri other f f2 in (same.0, e ∙ ap iri_spelling same.1 ∙ sym e2))
      ]
    ]

-- a whole text is its own prefix
pub whole_prefix : (text t : List ℕ) → SpellsLabel text t → IsNamePrefix text (length text) t
whole_prefix text t h = (omega arith, subst (λ x. SpellsLabel x t) (sym (take-length text)) h)

pub whole_ends : (text : List ℕ) → EndsName (drop (length text) text)
whole_ends [] = tt
whole_ends (x ∷ xs) = whole_ends xs

pub prefix_whole : (text : List ℕ) (n : ℕ) (t : List ℕ) → n ≡ length text → IsNamePrefix text n t → SpellsLabel text t
prefix_whole text n t e h = subst (λ x. SpellsLabel x t) (ap (λ i. take i text) e ∙ take-length text) h.1

-- a word spells at most one label
pub label_one : (text t u : List ℕ) → SpellsLabel text t → SpellsLabel text u → t ≡ u
label_one text t u h k =
    (prefix_one text (length text) (length text) t u (whole_prefix text t h) (whole_ends text) (whole_prefix text u k) (whole_ends text)).1

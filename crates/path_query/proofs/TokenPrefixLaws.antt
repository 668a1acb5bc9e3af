-- The token in front of a text.
use Rattle.std.proofs.Common.{◌≡◌, ℕ, inl, inr, true, false, cond, List, [], ◌∷◌, ◌++◌, length, take, drop, refl, sym, ap, ◌∙◌, subst, arith, length-append, None, Some, eqb-true}
use Rattle.std.specs.Prelude.{◌==◌, ◌||◌, option_map}
use Rattle.std.proofs.Math.Seq.{take-append_seam}
use Rattle.std.proofs.lemmas.Bool.Decides.{nat_tests}
use Rattle.std.proofs.lemmas.Option.{same_Some}
use Rattle.graph_spec.specs.Words.{is_letter}
use Rattle.path_spec.specs.Trees.{star, plus, opt}
use Rattle.path_spec.specs.Tokens.{Token, lab, underscore, slash, slashes, bar, opening, closing, sign}
use Rattle.path_spec.specs.Spelling.{EndsName, EndsSlash, EndsToken, SpellsToken, SpellsTokens}
use Rattle.path_query.specs.Labels.{SpellsLabel, IsNamePrefix}
use Rattle.path_query.specs.Languages.{Begins, IsLanguage}
use Rattle.path_query.specs.PathTokenPrefixes.{IsTokenPrefix, mark_at, slash_prefix, mark_prefix}
use Rattle.path_query.proofs.Cuts.{drop_prefix}
use Rattle.path_query.proofs.Fronts.{IsFront, front_label, front_one, chosen, mapped}
use Rattle.path_query.proofs.LabelLaws.{label_first, label_begins, prefix_one}

pub label_no_slash : (b : ℕ) → (is_letter b || (b == 60)) ≡ true → (b == 47) ≡ false
label_no_slash b h = grind (arith, nat_tests)

label_no_mark : (b : ℕ) → (is_letter b || (b == 60)) ≡ true → mark_at b ≡ None
label_no_mark b h = grind (arith, nat_tests)

word_begins : (w : List ℕ) (t : Token) → SpellsToken SpellsLabel w t → Begins w
word_begins w (lab t) h = label_begins w t h
word_begins w underscore h = subst Begins (sym h) refl
word_begins w slash h = subst Begins (sym h) refl
word_begins w slashes h = subst Begins (sym h) refl
word_begins w bar h = subst Begins (sym h) refl
word_begins w opening h = subst Begins (sym h) refl
word_begins w closing h = subst Begins (sym h) refl
word_begins w (sign star) h = subst Begins (sym h) refl
word_begins w (sign plus) h = subst Begins (sym h) refl
word_begins w (sign opt) h = subst Begins (sym h) refl

-- which token that is no label stands in front
slash_found : (rest : List ℕ) → EndsSlash rest → slash_prefix rest ≡ (slash, rest)
slash_found [] h = refl
slash_found (b ∷ bs) h = ap (λ c. cond c (slashes, bs) (slash, b ∷ bs)) h

label_found : (text u rest : List ℕ) → IsTokenPrefix text (lab u) rest → mark_prefix text ≡ None
label_found text u rest (w, spelled, ends, e) =
    let f = label_first w u spelled in
    ap mark_prefix (e ∙ ap (λ x. x ++ rest) f.is)
    ∙ ap (λ c. cond c (Some (slash_prefix (f.others ++ rest))) (option_map (λ t. (t, f.others ++ rest)) (mark_at f.byte))) (label_no_slash f.byte f.opens)
    ∙ ap (option_map (λ t. (t, f.others ++ rest))) (label_no_mark f.byte f.opens)

front : (text : List ℕ) (t : Token) (rest : List ℕ) → IsTokenPrefix text t rest → IsFront lab (mark_prefix text) t rest
front text (lab u) rest h = inr (u, refl, label_found text u rest h)
front text slash rest (w, is, ends, e) = inl (ap mark_prefix (e ∙ ap (λ x. x ++ rest) is) ∙ ap Some (slash_found rest ends))
front text underscore rest (w, is, ends, e) = inl (ap mark_prefix (e ∙ ap (λ x. x ++ rest) is))
front text slashes rest (w, is, ends, e) = inl (ap mark_prefix (e ∙ ap (λ x. x ++ rest) is))
front text bar rest (w, is, ends, e) = inl (ap mark_prefix (e ∙ ap (λ x. x ++ rest) is))
front text opening rest (w, is, ends, e) = inl (ap mark_prefix (e ∙ ap (λ x. x ++ rest) is))
front text closing rest (w, is, ends, e) = inl (ap mark_prefix (e ∙ ap (λ x. x ++ rest) is))
front text (sign star) rest (w, is, ends, e) = inl (ap mark_prefix (e ∙ ap (λ x. x ++ rest) is))
front text (sign plus) rest (w, is, ends, e) = inl (ap mark_prefix (e ∙ ap (λ x. x ++ rest) is))
front text (sign opt) rest (w, is, ends, e) = inl (ap mark_prefix (e ∙ ap (λ x. x ++ rest) is))

made : (b k : ℕ) (bs : List ℕ) (u t : Token) → (b == k) ≡ true → Some u ≡ Some t → SpellsToken SpellsLabel (k ∷ []) u → EndsToken u bs → IsTokenPrefix (b ∷ bs) t bs
made b k bs u t h same spelled ends =
    subst (λ x. IsTokenPrefix (b ∷ bs) x bs) (same_Some u t same) (k ∷ [], spelled, ends, ap (λ x. x ∷ bs) (eqb-true b k h))

mark_spelled : (b : ℕ) (bs : List ℕ) (t : Token) → mark_at b ≡ Some t → IsTokenPrefix (b ∷ bs) t bs
mark_spelled b bs t e = elim (chosen (b == 95) (Some underscore) _ (Some t) e) [
  | inl (h, s) ↦ made b 95 bs underscore t h s refl tt
  | inr (n1, e1) ↦ elim (chosen (b == 124) (Some bar) _ (Some t) e1) [
    | inl (h, s) ↦ made b 124 bs bar t h s refl tt
    | inr (n2, e2) ↦ elim (chosen (b == 40) (Some opening) _ (Some t) e2) [
      | inl (h, s) ↦ made b 40 bs opening t h s refl tt
      | inr (n3, e3) ↦ elim (chosen (b == 41) (Some closing) _ (Some t) e3) [
        | inl (h, s) ↦ made b 41 bs closing t h s refl tt
        | inr (n4, e4) ↦ elim (chosen (b == 42) (Some (sign star)) _ (Some t) e4) [
          | inl (h, s) ↦ made b 42 bs (sign star) t h s refl tt
          | inr (n5, e5) ↦ elim (chosen (b == 43) (Some (sign plus)) _ (Some t) e5) [
            | inl (h, s) ↦ made b 43 bs (sign plus) t h s refl tt
            | inr (n6, e6) ↦ elim (chosen (b == 63) (Some (sign opt)) None (Some t) e6) [
              | inl (h, s) ↦ made b 63 bs (sign opt) t h s refl tt
              | inr (n7, e7) ↦ cc
            ]
          ]
        ]
      ]
    ]
  ]
]

slash_spelled : (b : ℕ) (bs : List ℕ) → (b == 47) ≡ true → IsTokenPrefix (b ∷ bs) (slash_prefix bs).0 (slash_prefix bs).1
slash_spelled b [] h = (47 ∷ [], refl, tt, ap (λ x. x ∷ []) (eqb-true b 47 h))
slash_spelled b (x ∷ xs) h =
    let F : Token × List ℕ → Type 0 = λ p. IsTokenPrefix (b ∷ x ∷ xs) p.0 p.1 in
    elim (x == 47) as (λ c. (x == 47) ≡ c → F (cond c (slashes, xs) (slash, x ∷ xs))) [
      | true ↦ λ e. (47 ∷ 47 ∷ [], refl, tt, ap (λ y. y ∷ x ∷ xs) (eqb-true b 47 h) ∙ ap (λ y. 47 ∷ y ∷ xs) (eqb-true x 47 e))
      | false ↦ λ e. (47 ∷ [], refl, e, ap (λ y. y ∷ x ∷ xs) (eqb-true b 47 h))
    ] refl

pub mark_is_prefix : (text : List ℕ) (t : Token) (rest : List ℕ) → mark_prefix text ≡ Some (t, rest) → IsTokenPrefix text t rest
mark_is_prefix [] t rest e = cc
mark_is_prefix (b ∷ bs) t rest e = elim (chosen (b == 47) (Some (slash_prefix bs)) _ (Some (t, rest)) e) [
  | inl (h, s) ↦ (
      let same : slash_prefix bs ≡ (t, rest) = same_Some (slash_prefix bs) (t, rest) s in
      subst (λ p. IsTokenPrefix (b ∷ bs) p.0 p.1) same (slash_spelled b bs h))
  | inr (h, s) ↦ (
      let p = mapped (mark_at b) bs t rest s in
      subst (λ x. IsTokenPrefix (b ∷ bs) t x) p.1 (mark_spelled b bs t p.0))
]

-- a label in front
pub record LabelAt (text v q : List ℕ) : Type 0 where
  pub len : ℕ
  pub prefix : IsNamePrefix text len v
  pub ends : EndsName (drop len text)
  pub rest : q ≡ drop len text

pub label_at : (text v q : List ℕ) → IsTokenPrefix text (lab v) q → LabelAt text v q
label_at text v q (w, spelled, ends, e) =
    let back : drop (length w) text ≡ q = ap (drop (length w)) e ∙ drop_prefix w q in
    let prefix : take (length w) text ≡ w = ap (take (length w)) e ∙ take-append_seam w q in
    record {
      len = length w;
      prefix = (omega (arith, ap length e, length-append w q), subst (λ x. SpellsLabel x v) (sym prefix) spelled);
      ends = subst EndsName (sym back) ends;
      rest = sym back;
    }

pub as_label : (text : List ℕ) (t : Token) (q : List ℕ) → mark_prefix text ≡ None → IsTokenPrefix text t q → (v : List ℕ) × (t ≡ lab v) × LabelAt text v q
as_label text t q none h =
    let v = front_label lab (mark_prefix text) t q (front text t q h) none in
    (v.0, v.1, label_at text v.0 q (subst (λ x. IsTokenPrefix text x q) v.1 h))

-- one token stands in front
token_one : (text : List ℕ) (t u : Token) (r q : List ℕ) → IsTokenPrefix text t r → IsTokenPrefix text u q → (t ≡ u) × (r ≡ q)
token_one text t u r q h k = front_one lab (mark_prefix text) t u r q (front text t r h) (front text u q k) (λ none.
    let a = as_label text t r none h in
    let b = as_label text u q none k in
    let same = prefix_one text a.2.len b.2.len a.0 b.0 a.2.prefix a.2.ends b.2.prefix b.2.ends in
    (a.1 ∙ ap lab same.1 ∙ sym b.1, a.2.rest ∙ ap (λ n. drop n text) same.0 ∙ sym b.2.rest))

-- the language of path expressions
pub path_language : IsLanguage (SpellsToken SpellsLabel) EndsToken (SpellsTokens SpellsLabel)
path_language = record { none = λ text. ((λ h. h), (λ h. h)); more = λ text t ts. ((λ h. h), (λ h. h)); begins = word_begins; one = token_one }

-- The token in front of a text.
use Rattle.std.proofs.Common.{◌≡◌, ◌≢◌, ℕ, ◌+◌, ◌<◌, ◌≤◌, inl, inr, true, false, Bool, cond, List, [], ◌∷◌, ◌++◌, length, take, drop, refl, sym, ap, ◌∙◌, subst, arith, length-append, append_assoc, Option, None, Some, true≢false, eqb-true}
use Rattle.std.specs.Prelude.{◌==◌, ◌||◌, option_map, codes, bytes_eq, nat_eq, nat_lt}
use Rattle.std.specs.List.{list_all, prefix_len, position_or_len}
use Rattle.std.proofs.Math.Seq.{take-append_seam, take-length}
use Rattle.std.specs.Str.{chars}
use Rattle.std.proofs.lemmas.Bool.Decides.{nat_tests}
use Rattle.std.proofs.lemmas.List.{take-append-drop}
use Rattle.std.proofs.lemmas.Option.{same_Some}
use Rattle.std.proofs.lemmas.Slice.Eq.{bytes_eq-Decides}
use Rattle.graph_spec.specs.Words.{is_letter, is_name_byte, is_name}
use Rattle.triples_read.specs.Lines.{IsIriPrefix}
use Rattle.triples_read.specs.ByteReaders.{starts_with}
use Rattle.triples_read.specs.Canonical.{iri_text, iri_spelling}
use Rattle.triples_read.proofs.CanonicalLaws.{iri_canonical}
use Rattle.triples_read.proofs.IriPrefixes.{prefix-cut, end-found}
use Rattle.path_spec.specs.Spelling.{EndsName, EndsSlash}
use Rattle.branch_spec.specs.Trees.{child, below, parent, above}
use Rattle.branch_spec.specs.Tokens.{Token, lab, underscore, axis, left, right, opening, closing, not_word, and_word, or_word, nothing}
use Rattle.branch_spec.specs.Spelling.{EndsBackslash, EndsToken, SpellsToken, SpellsTokens}
use Rattle.path_query.specs.Labels.{SpellsLabel}
use Rattle.path_query.specs.Languages.{Begins, IsLanguage}
use Rattle.path_query.proofs.LabelBytes.{named, name_bytes}
use Rattle.path_query.proofs.LabelLaws.{ends_stop, stop_ends, iri_opens, label_first, label_begins, label_one, plain_opens}
use Rattle.path_query.proofs.Cuts.{cut_at, drop_prefix, passed, prefix_len-cut}
use Rattle.path_query.proofs.Fronts.{IsFront, front_label, front_one, chosen, mapped}
use Rattle.path_query.proofs.TokenPrefixLaws.{label_no_slash}
use Rattle.branch_text.specs.BranchTokenPrefixes.{IsTokenPrefix, mark_at, axis_prefix, sign_prefix, word_token, word_prefix, or_else, mark_prefix, iri_len, label_len}

pub label_no_backslash : (b : ℕ) → (is_letter b || (b == 60)) ≡ true → (b == 92) ≡ false
label_no_backslash b h = grind (arith, nat_tests)

label_no_mark : (b : ℕ) → (is_letter b || (b == 60)) ≡ true → mark_at b ≡ None
label_no_mark b h = grind (arith, nat_tests)

word_begins : (w : List ℕ) (t : Token) → SpellsToken SpellsLabel w t → Begins w
word_begins w (lab t) h = label_begins w t h
word_begins w underscore h = subst Begins (sym h) refl
word_begins w (axis child) h = subst Begins (sym h) refl
word_begins w (axis below) h = subst Begins (sym h) refl
word_begins w (axis parent) h = subst Begins (sym h) refl
word_begins w (axis above) h = subst Begins (sym h) refl
word_begins w left h = subst Begins (sym h) refl
word_begins w right h = subst Begins (sym h) refl
word_begins w opening h = subst Begins (sym h) refl
word_begins w closing h = subst Begins (sym h) refl
word_begins w not_word h = subst Begins (sym h) refl
word_begins w and_word h = subst Begins (sym h) refl
word_begins w or_word h = subst Begins (sym h) refl
word_begins w nothing h = absurd h

-- which token that is no label stands in front
slash_found : (rest : List ℕ) → EndsSlash rest → axis_prefix 47 child below rest ≡ (axis child, rest)
slash_found [] h = refl
slash_found (b ∷ bs) h = ap (λ c. cond c (axis below, bs) (axis child, b ∷ bs)) h

backslash_found : (rest : List ℕ) → EndsBackslash rest → axis_prefix 92 parent above rest ≡ (axis parent, rest)
backslash_found [] h = refl
backslash_found (b ∷ bs) h = ap (λ c. cond c (axis above, bs) (axis parent, b ∷ bs)) h

-- where a word ends, its token is that of the front
word_at : (w rest text : List ℕ) → text ≡ w ++ rest → list_all is_name_byte w ≡ true → EndsName rest → word_prefix text ≡ option_map (λ t. (t, rest)) (word_token w)
word_at w rest text e h ends =
    let cut = cut_at is_name_byte w rest text e h (ends_stop rest ends) in
    λ i. option_map (λ t. (t, cut.back i)) (word_token (cut.prefix i))

no_sign : (b : ℕ) (bs : List ℕ) → (b == 47) ≡ false → (b == 92) ≡ false → mark_at b ≡ None → sign_prefix (b ∷ bs) ≡ None
no_sign b bs h k m =
    ap (λ c. cond c (Some (axis_prefix 47 child below bs)) (cond (b == 92) (Some (axis_prefix 92 parent above bs)) (option_map (λ t. (t, bs)) (mark_at b)))) h
    ∙ ap (λ c. cond c (Some (axis_prefix 92 parent above bs)) (option_map (λ t. (t, bs)) (mark_at b))) k
    ∙ ap (option_map (λ t. (t, bs))) m

differ : (w v : List ℕ) → w ≢ v → bytes_eq w v ≡ false
differ w v h = elim (bytes_eq w v) as (λ b. bytes_eq w v ≡ b → b ≡ false) [
  | true ↦ λ e. absurd (h ((bytes_eq-Decides w v).0 e))
  | false ↦ λ e. refl
] refl

no_word : (w : List ℕ) → w ≢ codes "and" → w ≢ codes "or" → w ≢ codes "not" → word_token w ≡ None
no_word w a o n =
    ap (λ c. cond c (Some not_word) (cond (bytes_eq w (codes "and")) (Some and_word) (cond (bytes_eq w (codes "or")) (Some or_word) None))) (differ w (codes "not") n)
    ∙ ap (λ c. cond c (Some and_word) (cond (bytes_eq w (codes "or")) (Some or_word) None)) (differ w (codes "and") a)
    ∙ ap (λ c. cond c (Some or_word) None) (differ w (codes "or") o)

label_no_word : (text w u rest : List ℕ) → text ≡ w ++ rest → EndsToken (lab u) rest → SpellsLabel w u → word_prefix text ≡ None
label_no_word text w u rest e ends (inl (l, is)) =
    word_at w rest text e (name_bytes w l.0) (ends (ap is_name is ∙ l.0)) ∙ ap (option_map (λ t. (t, rest))) (no_word w l.1 l.2 l.3)
label_no_word text [] u rest e ends (inr (iri, h, is)) = absurd (true≢false (sym (iri_opens [] 0 iri h)))
label_no_word text (x ∷ xs) u rest e ends (inr (iri, h, is)) =
    let at : x ≡ 60 = eqb-true x 60 (iri_opens (x ∷ xs) (length (x ∷ xs)) iri h) in
    ap word_prefix (e ∙ ap (λ b. b ∷ (xs ++ rest)) at)

label_found : (text u rest : List ℕ) → IsTokenPrefix text (lab u) rest → mark_prefix text ≡ None
label_found text u rest (w, spelled, ends, e) =
    let f = label_first w u spelled in
    let signs : sign_prefix text ≡ None = ap sign_prefix (e ∙ ap (λ x. x ++ rest) f.is)
    ∙ no_sign f.byte (f.others ++ rest) (label_no_slash f.byte f.opens) (label_no_backslash f.byte f.opens) (label_no_mark f.byte f.opens) in
    ap (λ o. or_else o (word_prefix text)) signs ∙ label_no_word text w u rest e ends spelled

front : (text : List ℕ) (t : Token) (rest : List ℕ) → IsTokenPrefix text t rest → IsFront lab (mark_prefix text) t rest
front text (lab u) rest h = inr (u, refl, label_found text u rest h)
front text nothing rest (w, is, ends, e) = absurd is
front text underscore rest (w, is, ends, e) = inl (ap mark_prefix (e ∙ ap (λ x. x ++ rest) is))
front text (axis child) rest (w, is, ends, e) = inl (ap mark_prefix (e ∙ ap (λ x. x ++ rest) is) ∙ ap Some (slash_found rest ends))
front text (axis below) rest (w, is, ends, e) = inl (ap mark_prefix (e ∙ ap (λ x. x ++ rest) is))
front text (axis parent) rest (w, is, ends, e) = inl (ap mark_prefix (e ∙ ap (λ x. x ++ rest) is) ∙ ap Some (backslash_found rest ends))
front text (axis above) rest (w, is, ends, e) = inl (ap mark_prefix (e ∙ ap (λ x. x ++ rest) is))
front text left rest (w, is, ends, e) = inl (ap mark_prefix (e ∙ ap (λ x. x ++ rest) is))
front text right rest (w, is, ends, e) = inl (ap mark_prefix (e ∙ ap (λ x. x ++ rest) is))
front text opening rest (w, is, ends, e) = inl (ap mark_prefix (e ∙ ap (λ x. x ++ rest) is))
front text closing rest (w, is, ends, e) = inl (ap mark_prefix (e ∙ ap (λ x. x ++ rest) is))
front text not_word rest (w, is, ends, e) = inl (ap mark_prefix (e ∙ ap (λ x. x ++ rest) is) ∙ word_at (codes "not") rest (codes "not" ++ rest) refl refl ends)
front text and_word rest (w, is, ends, e) = inl (ap mark_prefix (e ∙ ap (λ x. x ++ rest) is) ∙ word_at (codes "and") rest (codes "and" ++ rest) refl refl ends)
front text or_word rest (w, is, ends, e) = inl (ap mark_prefix (e ∙ ap (λ x. x ++ rest) is) ∙ word_at (codes "or") rest (codes "or" ++ rest) refl refl ends)

made : (b k : ℕ) (bs : List ℕ) (u t : Token) → (b == k) ≡ true → Some u ≡ Some t → SpellsToken SpellsLabel (k ∷ []) u → EndsToken u bs → IsTokenPrefix (b ∷ bs) t bs
made b k bs u t h same spelled ends =
    subst (λ x. IsTokenPrefix (b ∷ bs) x bs) (same_Some u t same) (k ∷ [], spelled, ends, ap (λ x. x ∷ bs) (eqb-true b k h))

mark_spelled : (b : ℕ) (bs : List ℕ) (t : Token) → mark_at b ≡ Some t → IsTokenPrefix (b ∷ bs) t bs
mark_spelled b bs t e = elim (chosen (b == 95) (Some underscore) _ (Some t) e) [
  | inl (h, s) ↦ made b 95 bs underscore t h s refl tt
  | inr (n1, e1) ↦ elim (chosen (b == 91) (Some left) _ (Some t) e1) [
    | inl (h, s) ↦ made b 91 bs left t h s refl tt
    | inr (n2, e2) ↦ elim (chosen (b == 93) (Some right) _ (Some t) e2) [
      | inl (h, s) ↦ made b 93 bs right t h s refl tt
      | inr (n3, e3) ↦ elim (chosen (b == 40) (Some opening) _ (Some t) e3) [
        | inl (h, s) ↦ made b 40 bs opening t h s refl tt
        | inr (n4, e4) ↦ elim (chosen (b == 41) (Some closing) None (Some t) e4) [
          | inl (h, s) ↦ made b 41 bs closing t h s refl tt
          | inr (n5, e5) ↦ cc
        ]
      ]
    ]
  ]
]

slash_spelled : (b : ℕ) (bs : List ℕ) → (b == 47) ≡ true → IsTokenPrefix (b ∷ bs) (axis_prefix 47 child below bs).0 (axis_prefix 47 child below bs).1
slash_spelled b [] h = (47 ∷ [], refl, tt, ap (λ x. x ∷ []) (eqb-true b 47 h))
slash_spelled b (x ∷ xs) h =
    let F : Token × List ℕ → Type 0 = λ p. IsTokenPrefix (b ∷ x ∷ xs) p.0 p.1 in
    elim (x == 47) as (λ c. (x == 47) ≡ c → F (cond c (axis below, xs) (axis child, x ∷ xs))) [
      | true ↦ λ e. (47 ∷ 47 ∷ [], refl, tt, ap (λ y. y ∷ x ∷ xs) (eqb-true b 47 h) ∙ ap (λ y. 47 ∷ y ∷ xs) (eqb-true x 47 e))
      | false ↦ λ e. (47 ∷ [], refl, e, ap (λ y. y ∷ x ∷ xs) (eqb-true b 47 h))
    ] refl

backslash_spelled : (b : ℕ) (bs : List ℕ) → (b == 92) ≡ true → IsTokenPrefix (b ∷ bs) (axis_prefix 92 parent above bs).0 (axis_prefix 92 parent above bs).1
backslash_spelled b [] h = (92 ∷ [], refl, tt, ap (λ x. x ∷ []) (eqb-true b 92 h))
backslash_spelled b (x ∷ xs) h =
    let F : Token × List ℕ → Type 0 = λ p. IsTokenPrefix (b ∷ x ∷ xs) p.0 p.1 in
    elim (x == 92) as (λ c. (x == 92) ≡ c → F (cond c (axis above, xs) (axis parent, x ∷ xs))) [
      | true ↦ λ e. (92 ∷ 92 ∷ [], refl, tt, ap (λ y. y ∷ x ∷ xs) (eqb-true b 92 h) ∙ ap (λ y. 92 ∷ y ∷ xs) (eqb-true x 92 e))
      | false ↦ λ e. (92 ∷ [], refl, e, ap (λ y. y ∷ x ∷ xs) (eqb-true b 92 h))
    ] refl

sign_is_prefix : (text : List ℕ) (t : Token) (rest : List ℕ) → sign_prefix text ≡ Some (t, rest) → IsTokenPrefix text t rest
sign_is_prefix [] t rest e = cc
sign_is_prefix (b ∷ bs) t rest e = elim (chosen (b == 47) (Some (axis_prefix 47 child below bs)) _ (Some (t, rest)) e) [
  | inl (h, s) ↦ (
      let same : axis_prefix 47 child below bs ≡ (t, rest) = same_Some (axis_prefix 47 child below bs) (t, rest) s in
      subst (λ p. IsTokenPrefix (b ∷ bs) p.0 p.1) same (slash_spelled b bs h))
  | inr (h, s) ↦ elim (chosen (b == 92) (Some (axis_prefix 92 parent above bs)) _ (Some (t, rest)) s) [
    | inl (k, r) ↦ (
        let same : axis_prefix 92 parent above bs ≡ (t, rest) = same_Some (axis_prefix 92 parent above bs) (t, rest) r in
        subst (λ p. IsTokenPrefix (b ∷ bs) p.0 p.1) same (backslash_spelled b bs k))
    | inr (k, r) ↦ (
        let p = mapped (mark_at b) bs t rest r in
        subst (λ x. IsTokenPrefix (b ∷ bs) t x) p.1 (mark_spelled b bs t p.0))
  ]
]

-- the word of a token that is a word, which ends where a name ends
record IsWord (w : List ℕ) (t : Token) : Type 0 where
  spelled : SpellsToken SpellsLabel w t
  ends : (rest : List ℕ) → EndsName rest → EndsToken t rest

word_made : (w v : List ℕ) (u t : Token) → bytes_eq w v ≡ true → Some u ≡ Some t → (w ≡ v → IsWord w u) → IsWord w t
word_made w v u t h same is = subst (IsWord w) (same_Some u t same) (is ((bytes_eq-Decides w v).0 h))

word_is : (w : List ℕ) (t : Token) → word_token w ≡ Some t → IsWord w t
word_is w t e = elim (chosen (bytes_eq w (codes "not")) (Some not_word) _ (Some t) e) [
  | inl (h, s) ↦ word_made w (codes "not") not_word t h s (λ k. record { spelled = k; ends = λ r x. x })
  | inr (n1, e1) ↦ elim (chosen (bytes_eq w (codes "and")) (Some and_word) _ (Some t) e1) [
    | inl (h, s) ↦ word_made w (codes "and") and_word t h s (λ k. record { spelled = k; ends = λ r x. x })
    | inr (n2, e2) ↦ elim (chosen (bytes_eq w (codes "or")) (Some or_word) None (Some t) e2) [
      | inl (h, s) ↦ word_made w (codes "or") or_word t h s (λ k. record { spelled = k; ends = λ r x. x })
      | inr (n3, e3) ↦ cc
    ]
  ]
]

word_is_prefix : (text : List ℕ) (t : Token) (rest : List ℕ) → word_prefix text ≡ Some (t, rest) → IsTokenPrefix text t rest
word_is_prefix text t rest e =
    let n = prefix_len is_name_byte text in
    let p = mapped (word_token (take n text)) (drop n text) t rest e in
    let w = word_is (take n text) t p.0 in
    let ends : EndsName (drop n text) = stop_ends (drop n text) (passed is_name_byte text) in
    subst (IsTokenPrefix text t) p.1 (take n text, w.spelled, w.ends (drop n text) ends, sym (take-append-drop n text))

pub mark_is_prefix : (text : List ℕ) (t : Token) (rest : List ℕ) → mark_prefix text ≡ Some (t, rest) → IsTokenPrefix text t rest
mark_is_prefix text t rest e = by (sign_prefix text) refl
  where
    by : (o : Option (Token × List ℕ)) → sign_prefix text ≡ o → IsTokenPrefix text t rest
    by None s = word_is_prefix text t rest (sym (ap (λ o. or_else o (word_prefix text)) s) ∙ e)
    by (Some p) s =
        let same : p ≡ (t, rest) = same_Some p (t, rest) (sym (ap (λ o. or_else o (word_prefix text)) s) ∙ e) in
        sign_is_prefix text t rest (s ∙ ap Some same)

letter_no_bracket : (b : ℕ) → is_letter b ≡ true → (b == 60) ≡ false
letter_no_bracket b h = grind (arith, nat_tests)

name_opens : (w more : List ℕ) → is_name w ≡ true → starts_with 60 (w ++ more) ≡ false
name_opens [] more h = absurd (true≢false (sym h))
name_opens (x ∷ xs) more h = letter_no_bracket x (named x xs h).letter

opens_still : (w more : List ℕ) → starts_with 60 w ≡ true → starts_with 60 (w ++ more) ≡ true
opens_still [] more h = absurd (true≢false (sym h))
opens_still (x ∷ xs) more h = h

-- the spelling of an IRI is no name
spelling_no_name : (w v iri : List ℕ) → IsIriPrefix w (length w) iri → v ≡ iri_spelling iri → is_name v ≡ true → ⊥
spelling_no_name w v iri (le, s, prefix, is) e name =
    let again : IsIriPrefix v (length v) iri = (omega arith, iri_text (chars iri), take-length v ∙ e, (iri_canonical s iri is).0) in
    by v name (iri_opens v (length v) iri again)
  where
    by : (v : List ℕ) → is_name v ≡ true → starts_with 60 v ≡ true → ⊥
    by [] n o = true≢false (sym o)
    by (x ∷ xs) n o = true≢false (sym o ∙ letter_no_bracket x (named x xs n).letter)

-- an IRIREF ends with the first '>', whatever follows it
bracketed_len : (w more iri : List ℕ) → IsIriPrefix w (length w) iri → iri_len (w ++ more) ≡ length w
bracketed_len w more iri prefix =
    let (xs, ys, v, parts, lacks, len, is, utf8, quoted) = prefix-cut w (length w) iri prefix in
    let whole : w ++ more ≡ xs ++ 62 ∷ (ys ++ more) = ap (λ x. x ++ more) parts ∙ append_assoc xs (62 ∷ ys) more in
    let found : position_or_len (λ b. nat_eq b 62) (w ++ more) ≡ length xs = end-found (w ++ more) xs (ys ++ more) whole lacks in
    let size : length w ≡ length xs + 1 = len ∙ length-append xs (62 ∷ []) in
    let below : nat_lt (length xs) (length (w ++ more)) ≡ true = grind (arith, nat_tests, size, length-append w more) in
    ap (λ p. cond (nat_lt p (length (w ++ more))) (p + 1) p) found ∙ ap (λ c. cond c (length xs + 1) (length xs)) below ∙ sym size

-- what the code counts
pub len_to_end : (text : List ℕ) (n : ℕ) → n ≡ position_or_len (λ b. nat_eq b 62) text → n < length text → n + 1 ≡ iri_len text
len_to_end text n is within =
    let test : nat_lt n (length text) ≡ true = grind (arith, nat_tests) in
    sym (ap (λ c. cond c (n + 1) n) test) ∙ ap (λ x. cond (nat_lt x (length text)) (x + 1) x) is

pub len_of_all : (text : List ℕ) (n : ℕ) → n ≡ position_or_len (λ b. nat_eq b 62) text → length text ≤ n → n ≡ iri_len text
len_of_all text n is past =
    let test : nat_lt n (length text) ≡ false = grind (arith, nat_tests) in
    sym (ap (λ c. cond c (n + 1) n) test) ∙ ap (λ x. cond (nat_lt x (length text)) (x + 1) x) is

-- how long a label in front is
label_ends : (text w v q : List ℕ) → text ≡ w ++ q → EndsToken (lab v) q → SpellsLabel w v → label_len text ≡ length w
label_ends text w v q e ends (inl (l, is)) =
    ap label_len e ∙ ap (λ c. cond c (iri_len (w ++ q)) (prefix_len is_name_byte (w ++ q))) (name_opens w q l.0)
    ∙ prefix_len-cut is_name_byte w q (name_bytes w l.0) (ends_stop q (ends (ap is_name is ∙ l.0)))
label_ends text w v q e ends (inr (iri, h, is)) =
    ap label_len e ∙ ap (λ c. cond c (iri_len (w ++ q)) (prefix_len is_name_byte (w ++ q))) (opens_still w q (iri_opens w (length w) iri h))
    ∙ bracketed_len w q iri h

-- a label in front
pub record LabelAt (text v q : List ℕ) : Type 0 where
  pub spelled : SpellsLabel (take (label_len text) text) v
  pub rest : q ≡ drop (label_len text) text

label_at : (text v q : List ℕ) → IsTokenPrefix text (lab v) q → LabelAt text v q
label_at text v q (w, spelled, ends, e) =
    let size = label_ends text w v q e ends spelled in
    let prefix : take (label_len text) text ≡ w = ap (λ n. take n text) size ∙ ap (take (length w)) e ∙ take-append_seam w q in
    record {
      spelled = subst (λ x. SpellsLabel x v) (sym prefix) spelled;
      rest = sym (ap (λ n. drop n text) size ∙ ap (drop (length w)) e ∙ drop_prefix w q);
    }

pub as_label : (text : List ℕ) (t : Token) (q : List ℕ) → mark_prefix text ≡ None → IsTokenPrefix text t q → (v : List ℕ) × (t ≡ lab v) × LabelAt text v q
as_label text t q none h =
    let v = front_label lab (mark_prefix text) t q (front text t q h) none in
    (v.0, v.1, label_at text v.0 q (subst (λ x. IsTokenPrefix text x q) v.1 h))

-- and what spells a label there is one in front
pub label_is_prefix : (text v : List ℕ) → SpellsLabel (take (label_len text) text) v → IsTokenPrefix text (lab v) (drop (label_len text) text)
label_is_prefix text v h = (take (label_len text) text, h, by (starts_with 60 text) refl h, sym (take-append-drop (label_len text) text))
  where
    by : (c : Bool) → starts_with 60 text ≡ c → SpellsLabel (take (label_len text) text) v → EndsToken (lab v) (drop (label_len text) text)
    by true e (inl (l, is)) name = absurd (plain_opens text (label_len text) e l)
    by true e (inr (iri, prefix, is)) name = absurd (spelling_no_name (take (label_len text) text) v iri prefix is name)
    by false e h name =
        subst (λ n. EndsName (drop n text)) (sym (ap (λ c. cond c (iri_len text) (prefix_len is_name_byte text)) e))
        (stop_ends (drop (prefix_len is_name_byte text) text) (passed is_name_byte text))

-- one token stands in front
token_one : (text : List ℕ) (t u : Token) (r q : List ℕ) → IsTokenPrefix text t r → IsTokenPrefix text u q → (t ≡ u) × (r ≡ q)
token_one text t u r q h k = front_one lab (mark_prefix text) t u r q (front text t r h) (front text u q k) (λ none.
    let a = as_label text t r none h in
    let b = as_label text u q none k in
    (a.1 ∙ ap lab (label_one (take (label_len text) text) a.0 b.0 a.2.spelled b.2.spelled) ∙ sym b.1, a.2.rest ∙ sym b.2.rest))

-- the language of branching queries
pub branch_language : IsLanguage (SpellsToken SpellsLabel) EndsToken (SpellsTokens SpellsLabel)
branch_language = record { none = λ text. ((λ h. h), (λ h. h)); more = λ text t ts. ((λ h. h), (λ h. h)); begins = word_begins; one = token_one }

-- How a text is cut into tokens, in any language of them.
use Rattle.std.proofs.Common.{◌≡◌, ℕ, ◌+◌, ◌<◌, ◌≤◌, true, cond, List, [], ◌∷◌, ◌++◌, length, take, drop, refl, sym, ap, ◌∙◌, subst, arith, append-nil, append_assoc, length-append, length-drop}
use Rattle.std.specs.List.{list_all, prefix_len}
use Rattle.std.proofs.lemmas.Bool.{and_from}
use Rattle.std.proofs.lemmas.List.{take-append-drop}
use Rattle.graph_spec.specs.Words.{is_blank, AreBlanks}
use Rattle.path_query.specs.Languages.{Begins, IsTokenPrefix, IsLanguage}
use Rattle.path_query.proofs.LabelBytes.{both}
use Rattle.path_query.proofs.Cuts.{Stops, cut_at, prefix_passes, passed}

-- blanks in front
abbrev pub past : List ℕ → List ℕ
past text = drop (prefix_len is_blank text) text

pub past_shorter : (text : List ℕ) → length (past text) ≤ length text
past_shorter text = omega (arith, length-drop (prefix_len is_blank text) text)

all_then : (a b : List ℕ) → list_all is_blank a ≡ true → list_all is_blank b ≡ true → list_all is_blank (a ++ b) ≡ true
all_then [] b h k = k
all_then (x ∷ xs) b h k = let e = both (is_blank x) (list_all is_blank xs) h in and_from (is_blank x) (list_all is_blank (xs ++ b)) e.0 (all_then xs b e.1 k)

blanks_past : (text : List ℕ) → AreBlanks text → past text ≡ []
blanks_past text h = (cut_at is_blank text [] text (sym (append-nil text)) h tt).back

-- what is left begins with no blank
abbrev pub Begun : List ℕ → Type 0
Begun text = past text ≡ text

stops_begun : (text : List ℕ) → Stops is_blank text → Begun text
stops_begun [] h = refl
stops_begun (x ∷ xs) h = ap (λ c. drop (cond c (1 + prefix_len is_blank xs) 0) (x ∷ xs)) h

past_begun : (text : List ℕ) → Begun (past text)
past_begun text = stops_begun (past text) (passed is_blank text)

begins_stops : (w rest : List ℕ) → Begins w → Stops is_blank (w ++ rest)
begins_stops [] rest h = absurd h
begins_stops (b ∷ bs) rest h = h

behind_shorter : (w rest text : List ℕ) → Begins w → text ≡ w ++ rest → length rest < length text
behind_shorter [] rest text h e = absurd h
behind_shorter (b ∷ bs) rest text h e = omega (arith, ap length e, length-append (b ∷ bs) rest)

-- The tokens were read from the front of the text: what is left is spelled by the others.
pub record Lexed {Token : Type 0} (SpellsTokens : List ℕ → List Token → Type 0) (text left : List ℕ) (ts : List Token) : Type 0 where
  pub begun : Begun left
  pub so_far : (us : List Token) → SpellsTokens left us → SpellsTokens text (ts ++ us)
  pub needs : (us : List Token) → SpellsTokens text us → (vs : List Token) × (us ≡ ts ++ vs) × SpellsTokens left vs

module _ {Token : Type 0} {SpellsToken : List ℕ → Token → Type 0} {EndsToken : Token → List ℕ → Type 0} {SpellsTokens : List ℕ → List Token → Type 0}
    (language : IsLanguage SpellsToken EndsToken SpellsTokens) where
  pub prefix_shorter : (text : List ℕ) (t : Token) (rest : List ℕ) → IsTokenPrefix SpellsToken EndsToken text t rest → length rest < length text
  prefix_shorter text t rest (w, spelled, ends, e) = behind_shorter w rest text (language.begins w t spelled) e

  -- no token stands in front of nothing
  prefix_some : (t : Token) (rest : List ℕ) → IsTokenPrefix SpellsToken EndsToken [] t rest → ⊥
  prefix_some t rest h = let l : length rest < 0 = prefix_shorter [] t rest h in absurd (omega arith)

  blanks_more : (before rest : List ℕ) (ts : List Token) → AreBlanks before → SpellsTokens rest ts → SpellsTokens (before ++ rest) ts
  blanks_more before rest [] h k = (language.none (before ++ rest)).1 (all_then before rest h ((language.none rest).0 k))
  blanks_more before rest (t ∷ ts) h k =
      let (b, w, q, blanks, spelled, ends, more, e) = (language.more rest t ts).0 k in
      (language.more (before ++ rest) t ts).1
      (before ++ b, w, q, all_then before b h blanks, spelled, ends, more, ap (λ x. before ++ x) e ∙ sym (append_assoc before b (w ++ q)))

  past_spells : (text : List ℕ) (ts : List Token) → SpellsTokens (past text) ts → SpellsTokens text ts
  past_spells text ts h =
      subst (λ x. SpellsTokens x ts) (take-append-drop (prefix_len is_blank text) text)
      (blanks_more (take (prefix_len is_blank text) text) (past text) ts (prefix_passes is_blank text) h)

  -- the first token stands behind the blanks
  pub record FirstToken (text : List ℕ) (t : Token) (ts : List Token) : Type 0 where
    pub rest : List ℕ
    pub prefix : IsTokenPrefix SpellsToken EndsToken (past text) t rest
    pub more : SpellsTokens rest ts

  pub first_token : (text : List ℕ) (t : Token) (ts : List Token) → SpellsTokens text (t ∷ ts) → FirstToken text t ts
  first_token text t ts h =
      let (b, w, q, blanks, spelled, ends, more, e) = (language.more text t ts).0 h in
      let cut = cut_at is_blank b (w ++ q) text e blanks (begins_stops w q (language.begins w t spelled)) in
      record { rest = q; prefix = (w, spelled, ends, cut.back); more = more }

  with_token : (text rest : List ℕ) (t : Token) (ts : List Token) → IsTokenPrefix SpellsToken EndsToken text t rest → SpellsTokens rest ts → SpellsTokens text (t ∷ ts)
  with_token text rest t ts (w, spelled, ends, e) h = (language.more text t ts).1 ([], w, rest, refl, spelled, ends, h, e)

  to_past : (text : List ℕ) (us : List Token) → SpellsTokens text us → SpellsTokens (past text) us
  to_past text [] h = (language.none (past text)).1 (subst AreBlanks (sym (blanks_past text ((language.none text).0 h))) refl)
  to_past text (t ∷ ts) h = let f = first_token text t ts h in with_token (past text) f.rest t ts f.prefix f.more

  -- a text is spelled by one list of tokens at most
  pub tokens_one : (us vs : List Token) (text : List ℕ) → SpellsTokens text us → SpellsTokens text vs → us ≡ vs
  tokens_one [] [] text h k = refl
  tokens_one [] (v ∷ vs) text h k =
      let f = first_token text v vs k in
      absurd (prefix_some v f.rest (subst (λ x. IsTokenPrefix SpellsToken EndsToken x v f.rest) (blanks_past text ((language.none text).0 h)) f.prefix))
  tokens_one (u ∷ us) [] text h k =
      let f = first_token text u us h in
      absurd (prefix_some u f.rest (subst (λ x. IsTokenPrefix SpellsToken EndsToken x u f.rest) (blanks_past text ((language.none text).0 k)) f.prefix))
  tokens_one (u ∷ us) (v ∷ vs) text h k =
      let f = first_token text u us h in
      let g = first_token text v vs k in
      let same = language.one (past text) u v f.rest g.rest f.prefix g.prefix in
      ap (λ x. x ∷ us) same.0 ∙ ap (λ x. v ∷ x) (tokens_one us vs f.rest f.more (subst (λ x. SpellsTokens x vs) (sym same.1) g.more))

  -- each token has a byte
  pub tokens_few : (ts : List Token) (text : List ℕ) → SpellsTokens text ts → length ts ≤ length text
  tokens_few [] text h = omega arith
  tokens_few (t ∷ ts) text h =
      let f = first_token text t ts h in
      let less : length f.rest < length (past text) = prefix_shorter (past text) t f.rest f.prefix in
      let cut : length (past text) ≤ length text = past_shorter text in
      let more : length ts ≤ length f.rest = tokens_few ts f.rest f.more in
      omega arith

  pub lexed_none : (text left : List ℕ) → left ≡ past text → Lexed SpellsTokens text left []
  lexed_none text left e = subst (λ x. Lexed SpellsTokens text x []) (sym e) (record {
    begun = past_begun text;
    so_far = λ us h. past_spells text us h;
    needs = λ us h. (us, refl, to_past text us h);
  })

  pub lexed_more : (text left next rest : List ℕ) (ts : List Token) (t : Token) → 0 < length left → IsTokenPrefix SpellsToken EndsToken left t rest
      → next ≡ past rest → Lexed SpellsTokens text left ts → Lexed SpellsTokens text next (ts ++ t ∷ [])
  lexed_more text left next rest ts t some prefix e k = subst (λ x. Lexed SpellsTokens text x (ts ++ t ∷ [])) (sym e) (record {
    begun = past_begun rest;
    so_far = λ us h.
        subst (SpellsTokens text) (sym (append_assoc ts (t ∷ []) us)) (k.so_far (t ∷ us) (with_token left rest t us prefix (past_spells rest us h)));
    needs = λ us h. let v = k.needs us h in go us v.0 v.1 v.2;
  })
    where
      go : (us vs : List Token) → us ≡ ts ++ vs → SpellsTokens left vs → (ws : List Token) × (us ≡ (ts ++ t ∷ []) ++ ws) × SpellsTokens (past rest) ws
      go us [] h s = let l : length left ≡ 0 = ap length (sym k.begun ∙ blanks_past left ((language.none left).0 s)) in absurd (omega arith)
      go us (v ∷ vs) h s =
          let f = first_token left v vs s in
          let same = language.one left v t f.rest rest (subst (λ x. IsTokenPrefix SpellsToken EndsToken x v f.rest) k.begun f.prefix) prefix in (
            vs,
            h ∙ ap (λ x. ts ++ x ∷ vs) same.0 ∙ sym (append_assoc ts (t ∷ []) vs),
            to_past rest vs (subst (λ x. SpellsTokens x vs) same.1 f.more),
          )

  pub lexed_bad : (text left : List ℕ) (ts : List Token) → 0 < length left → ((u : Token) (q : List ℕ) → IsTokenPrefix SpellsToken EndsToken left u q → ⊥)
      → Lexed SpellsTokens text left ts → (us : List Token) → SpellsTokens text us → ⊥
  lexed_bad text left ts some bad k us h = let v = k.needs us h in go v.0 v.2
    where
      go : (vs : List Token) → SpellsTokens left vs → ⊥
      go [] s = let l : length left ≡ 0 = ap length (sym k.begun ∙ blanks_past left ((language.none left).0 s)) in absurd (omega arith)
      go (v ∷ vs) s = let f = first_token left v vs s in bad v f.rest (subst (λ x. IsTokenPrefix SpellsToken EndsToken x v f.rest) k.begun f.prefix)

  pub lexed_all : (text left : List ℕ) (ts : List Token) → left ≡ [] → Lexed SpellsTokens text left ts → SpellsTokens text ts
  lexed_all text left ts e k = subst (SpellsTokens text) (append-nil ts) (k.so_far [] ((language.none left).1 (subst AreBlanks (sym e) refl)))

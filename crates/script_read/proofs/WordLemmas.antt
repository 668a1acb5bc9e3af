-- The words of a line by its first word and what follows it.
use Rattle.std.proofs.Common.{◌≡◌, ◌≢◌, ℕ, suc, ◌+◌, ◌<◌, ◌≤◌, Bool, true, false, List, [], ◌∷◌, ◌++◌, length, take, drop, filter, append-nil, refl, sym, ap, ◌∙◌, arith, cond, ◌⊎◌, inl, inr, true≢false}
use Rattle.std.proofs.lemmas.Grind.{common_steps}
use Rattle.std.proofs.lemmas.Bool.{ne_eqb}
use Rattle.std.specs.Prelude.{not, ◌==◌, IsTrue, ◌↔◌}
use Rattle.std.specs.List.{slice_split, position_or_len, prefix_len, onto_first}
use Rattle.std.proofs.lemmas.List.Splits.{slice_split_first, slice_split_none}
use Rattle.std.proofs.lemmas.List.Sums.{fails_before_first, prefix_len-le-length}
use Rattle.graph_spec.specs.Words.{is_blank, words}
use Rattle.graph_spec.specs.Words.{node_word}
use Rattle.script_read.specs.FirstWords.{after_blanks, first_word, behind_word, IsSplit}

abbrev filled : List ℕ → Bool
filled w = not (length w == 0)

filter_prefix : (w : List ℕ) (ws : List (List ℕ)) → filter filled (w ∷ ws) ≡ filter filled (w ∷ []) ++ filter filled ws
filter_prefix w ws = elim (filled w) as (λ b. cond b (w ∷ filter filled ws) (filter filled ws) ≡ cond b (w ∷ []) [] ++ filter filled ws) [ true ↦ refl | false ↦ refl ]

words-next : (rest : List ℕ) (n : ℕ) → n ≡ position_or_len is_blank rest → n < length rest
    → filter filled (take n rest ∷ []) ++ words (drop (n + 1) rest) ≡ words rest
words-next rest n e h =
    let l : position_or_len is_blank rest < length rest = omega arith in
    sym (filter_prefix (take n rest) (slice_split is_blank (drop (n + 1) rest)))
    ∙ ap (λ k. filter filled (take k rest ∷ slice_split is_blank (drop (k + 1) rest))) e
    ∙ ap (filter filled) (sym (slice_split_first is_blank rest 0 l))

take_whole : (xs : List ℕ) (n : ℕ) → n ≡ length xs → take n xs ≡ xs
take_whole xs n e = grind (arith, common_steps)

words-last : (rest : List ℕ) (n : ℕ) → n ≡ position_or_len is_blank rest → n ≡ length rest → filter filled (take n rest ∷ []) ≡ words rest
words-last rest n e h =
    ap (λ w. filter filled (w ∷ [])) (take_whole rest n h)
    ∙ ap (filter filled) (sym (slice_split_none is_blank rest (λ k d l. fails_before_first is_blank rest k d (omega arith))))

prefix_yes : (p : ℕ → Bool) (b : ℕ) (bs : List ℕ) → p b ≡ true → prefix_len p (b ∷ bs) ≡ suc (prefix_len p bs)
prefix_yes p b bs e = ap (λ t. cond t (1 + prefix_len p bs) 0) e ∙ (omega arith)

prefix_no : (p : ℕ → Bool) (b : ℕ) (bs : List ℕ) → p b ≡ false → prefix_len p (b ∷ bs) ≡ 0
prefix_no p b bs e = ap (λ t. cond t (1 + prefix_len p bs) 0) e

words-blank : (b : ℕ) (bs : List ℕ) → is_blank b ≡ true → words (b ∷ bs) ≡ words bs
words-blank b bs e = ap (λ t. filter filled (cond t ([] ∷ slice_split is_blank bs) (onto_first b (slice_split is_blank bs)))) e

-- what stands behind the blanks in front: nothing, or a byte that is none
pub data Prefix (line : List ℕ) : Type 0 where
  over : after_blanks line ≡ [] → words line ≡ [] → Prefix line
  ink : (b : ℕ) (bs : List ℕ) → after_blanks line ≡ b ∷ bs → is_blank b ≡ false → words line ≡ words (b ∷ bs) → Prefix line

prefix_on : (c : ℕ) (cs : List ℕ) → is_blank c ≡ true → Prefix cs → Prefix (c ∷ cs)
prefix_on c cs e f =
    let skipped : after_blanks (c ∷ cs) ≡ after_blanks cs = ap (λ n. drop n (c ∷ cs)) (prefix_yes is_blank c cs e) in
    elim f [
      | over a w ↦ over (skipped ∙ a) (words-blank c cs e ∙ w)
      | ink b bs a n w ↦ ink b bs (skipped ∙ a) n (words-blank c cs e ∙ w)
    ]

pub prefix : (line : List ℕ) → Prefix line
prefix [] = over refl refl
prefix (c ∷ cs) =
    elim (is_blank c) as (λ t. is_blank c ≡ t → Prefix (c ∷ cs)) [
      | true ↦ λ e. prefix_on c cs e (prefix cs)
      | false ↦ λ e. ink c cs (ap (λ n. drop n (c ∷ cs)) (prefix_no is_blank c cs e)) e refl
    ] refl

-- with no first word there is no word
pub words-none : (line : List ℕ) → first_word line ≡ [] → words line ≡ []
words-none line e = elim (prefix line) [
  | over a w ↦ w
  | ink b bs a n w ↦ absurd (
      let k : first_word line ≡ take (position_or_len is_blank (b ∷ bs)) (b ∷ bs) = ap (λ l. take (position_or_len is_blank l) l) a in
      let m : take (position_or_len is_blank (b ∷ bs)) (b ∷ bs) ≡ b ∷ take (position_or_len is_blank bs) bs = ap (λ n. take n (b ∷ bs)) (prefix_yes (λ b. not (is_blank b)) b bs (ap not n)) in
      let z : [] ≡ b ∷ take (position_or_len is_blank bs) bs = sym e ∙ k ∙ m in cc)
]

place_cases : (a b : ℕ) → a ≤ b → (a < b) ⊎ (a ≡ b)
place_cases a b h = grind arith

-- what follows the first word begins with a blank, or is nothing
words-behind : (xs : List ℕ) → position_or_len is_blank xs < length xs
    → words (drop (position_or_len is_blank xs) xs) ≡ words (drop (position_or_len is_blank xs + 1) xs)
words-behind [] l = absurd (omega arith)
words-behind (x ∷ xs) l =
    elim (is_blank x) as (λ t. is_blank x ≡ t → words (drop (position_or_len is_blank (x ∷ xs)) (x ∷ xs)) ≡ words (drop (position_or_len is_blank (x ∷ xs) + 1) (x ∷ xs))) [
      | true ↦ λ e.
          let n : position_or_len is_blank (x ∷ xs) ≡ 0 = prefix_no (λ b. not (is_blank b)) x xs (ap not e) in
          ap (λ k. words (drop k (x ∷ xs))) n ∙ words-blank x xs e ∙ ap (λ k. words (drop (k + 1) (x ∷ xs))) (sym n)
      | false ↦ λ e.
          let n : position_or_len is_blank (x ∷ xs) ≡ suc (position_or_len is_blank xs) = prefix_yes (λ b. not (is_blank b)) x xs (ap not e) in
          let m : suc (position_or_len is_blank xs + 1) ≡ position_or_len is_blank (x ∷ xs) + 1 = omega arith in
          ap (λ k. words (drop k (x ∷ xs))) n ∙ words-behind xs (omega arith) ∙ ap (λ k. words (drop k (x ∷ xs))) m
    ] refl

nothing_behind : (xs : List ℕ) (n : ℕ) → n ≡ length xs → words (drop n xs) ≡ []
nothing_behind xs n e = let d : drop n xs ≡ [] = grind (arith, common_steps) in ap words d

words-parts : (xs : List ℕ) → filter filled (take (position_or_len is_blank xs) xs ∷ []) ++ words (drop (position_or_len is_blank xs) xs) ≡ words xs
words-parts xs = elim (place_cases (position_or_len is_blank xs) (length xs) (prefix_len-le-length (λ b. not (is_blank b)) xs)) [
  | inl l ↦ ap (λ ws. filter filled (take (position_or_len is_blank xs) xs ∷ []) ++ ws) (words-behind xs l) ∙ words-next xs _ refl l
  | inr e ↦ ap (λ ws. filter filled (take (position_or_len is_blank xs) xs ∷ []) ++ ws) (nothing_behind xs _ e) ∙ append-nil _ ∙ words-last xs _ refl e
]

words-after : (line : List ℕ) → words (after_blanks line) ≡ words line
words-after line = elim (prefix line) [ over a w ↦ ap words a ∙ sym w | ink b bs a n w ↦ ap words a ∙ sym w ]

filled_some : (b : ℕ) (bs : List ℕ) → filled (b ∷ bs) ≡ true
filled_some b bs = ap not (ne_eqb (length (b ∷ bs)) 0 (omega arith))

-- the first word, and then those of what follows it
pub words-first : (line : List ℕ) → first_word line ≢ [] → words line ≡ first_word line ∷ words (behind_word line)
words-first line ne =
    sym (words-after line) ∙ sym (words-parts (after_blanks line)) ∙ ap (λ ws. ws ++ words (behind_word line)) (kept (first_word line) ne)
  where
    kept : (w : List ℕ) → w ≢ [] → filter filled (w ∷ []) ≡ w ∷ []
    kept [] ne = absurd (ne refl)
    kept (b ∷ bs) ne = ap (λ t. cond t ((b ∷ bs) ∷ []) []) (filled_some b bs)

pub is_split : (line : List ℕ) → IsSplit line (first_word line) (behind_word line)
is_split line = record { none = words-none line; some = words-first line }

-- a line whose first word is empty has no word, and only such a line
pub over_iff : (line word rest : List ℕ) → IsSplit line word rest → IsTrue (length word == 0) ↔ (words line ≡ [])
over_iff line [] rest s = (λ _. s.none refl, λ _. refl)
over_iff line (b ∷ bs) rest s =
    let ne : b ∷ bs ≢ [] = λ e. cc in
    let w = s.some ne in
    let f : (length (b ∷ bs) == 0) ≡ false = ne_eqb (length (b ∷ bs)) 0 (omega arith) in
    (λ e. absurd (true≢false (sym e ∙ f)), λ e. absurd (let z : (b ∷ bs) ∷ words rest ≡ [] = sym w ∙ e in cc))

-- the words begin with the first word
pub head_word : (line word rest u : List ℕ) (vs : List (List ℕ)) → IsSplit line word rest → words line ≡ u ∷ vs → (word ≡ u) × (words rest ≡ vs)
head_word line [] rest u vs s e = absurd (let z : [] ≡ u ∷ vs = sym (s.none refl) ∙ e in cc)
head_word line (b ∷ bs) rest u vs s e =
    let ne : b ∷ bs ≢ [] = λ e. cc in
    let z : (b ∷ bs) ∷ words rest ≡ u ∷ vs = sym (s.some ne) ∙ e in
    (cc, cc)

-- what is known of the words from the first one and the rest
pub words-cons : (line word rest : List ℕ) (vs : List (List ℕ)) → IsSplit line word rest → word ≢ [] → words rest ≡ vs → words line ≡ word ∷ vs
words-cons line word rest vs s ne e = s.some ne ∙ ap (λ ws. word ∷ ws) e

pub node_some : (w : List ℕ) (n : ℕ) → w ≡ node_word n → w ≢ []
node_some w n e f = let z : node_word n ≡ [] = sym e ∙ f in cc

-- Texts without blanks, and without ends of lines.
use Rattle.std.proofs.Common.{◌≡◌, ◌≢◌, ◌∙◌, ◌<◌, ◌≤◌, ◌^◌, ℕ, Bool, true, false, List, [], ◌∷◌, ◌++◌, refl, ap, rules, arith}
use Rattle.std.specs.Prelude.{not, ◌==◌, ◌||◌, ◌&&◌, decimal, nat_le}
use Rattle.std.specs.Char.{is_ascii_digit}
use Rattle.std.specs.List.{list_all, slice_split, onto_first}
use Rattle.std.specs.Str.Parse.{digits_value}
use Rattle.std.proofs.lemmas.Bool.{ne_eqb}
use Rattle.std.proofs.lemmas.Fmt.{digits_decimal}
use Rattle.std.proofs.lemmas.List.Folds.{list_all-append}
use Rattle.std.proofs.lemmas.List.Splits.{slice_split-cons_yes, slice_split-cons_no}
use Rattle.std.proofs.lemmas.Str.Parse.{IsNumeralModel, numerals_by_value}
use Rattle.graph_spec.specs.Lines.{IsUncut}
use Rattle.graph_spec.specs.Words.{is_blank, node_word}

-- neither LF nor CR
abbrev pub is_plain : ℕ → Bool
is_plain b = not (b == 10 || b == 13)

-- nor a blank
abbrev pub is_ink : ℕ → Bool
is_ink b = not (is_blank b) && is_plain b

both : (a b : Bool) → (a && b) ≡ true → (a ≡ true) × (b ≡ true)
both true b h = (refl, h)
both false b h = cc

not_from : (b : Bool) → not b ≡ true → b ≡ false
not_from true h = cc
not_from false h = refl

plain_byte : (b : ℕ) → is_plain b ≡ true → (b ≢ 10) × (b ≢ 13)
plain_byte b h = (λ e. cc, λ e. cc)

pub uncut : (text : List ℕ) → list_all is_plain text ≡ true → IsUncut text
uncut [] h = tt
uncut (b ∷ bs) h =
    let a = both (is_plain b) (list_all is_plain bs) h in
    let c = plain_byte b a.0 in
    (c.0, c.1, uncut bs a.1)

pub plain_ink : (text : List ℕ) → list_all is_ink text ≡ true → list_all is_plain text ≡ true
plain_ink [] h = refl
plain_ink (b ∷ bs) h =
    let a = both (is_ink b) (list_all is_ink bs) h in
    let c = both (not (is_blank b)) (is_plain b) a.0 in
    rw c.1 (plain_ink bs a.1)

pub all_linked : (p : ℕ → Bool) (xs ys : List ℕ) → list_all p xs ≡ true → list_all p ys ≡ true → list_all p (xs ++ ys) ≡ true
all_linked p xs ys h k = list_all-append p xs ys ∙ rw h k

-- a word in front of a blank, and the last one
pub word_split : (w rest : List ℕ) → list_all is_ink w ≡ true → slice_split is_blank (w ++ 32 ∷ rest) ≡ w ∷ slice_split is_blank rest
word_split [] rest h = slice_split-cons_yes is_blank 32 rest refl
word_split (b ∷ bs) rest h =
    let a = both (is_ink b) (list_all is_ink bs) h in
    let c = both (not (is_blank b)) (is_plain b) a.0 in
    slice_split-cons_no is_blank b (bs ++ 32 ∷ rest) (not_from (is_blank b) c.0) ∙ ap (onto_first b) (word_split bs rest a.1)

pub last_split : (w : List ℕ) → list_all is_ink w ≡ true → slice_split is_blank w ≡ w ∷ []
last_split [] h = refl
last_split (b ∷ bs) h =
    let a = both (is_ink b) (list_all is_ink bs) h in
    let c = both (not (is_blank b)) (is_plain b) a.0 in
    slice_split-cons_no is_blank b bs (not_from (is_blank b) c.0) ∙ ap (onto_first b) (last_split bs a.1)

-- ---- numbers in decimal

own : IsNumeralModel (λ ds. list_all is_ascii_digit ds ≡ true) (digits_value 10)
own = numerals_by_value _ (search rules)

digit_byte : (b : ℕ) → is_ascii_digit b ≡ true → is_ink b ≡ true
digit_byte b h =
    let low : (nat_le 48 b) ≡ true = (both (nat_le 48 b) (nat_le b 57) h).0 in
    let above : 48 ≤ b = search (rules, arith, low) in
    let space : (b == 32) ≡ false = ne_eqb b 32 (λ e. omega (arith, e, above)) in
    let tab : (b == 9) ≡ false = ne_eqb b 9 (λ e. omega (arith, e, above)) in
    let feed : (b == 10) ≡ false = ne_eqb b 10 (λ e. omega (arith, e, above)) in
    let return : (b == 13) ≡ false = ne_eqb b 13 (λ e. omega (arith, e, above)) in
    rw space (rw tab (rw feed (rw return refl)))

ink_digits : (ds : List ℕ) → list_all is_ascii_digit ds ≡ true → list_all is_ink ds ≡ true
ink_digits [] h = refl
ink_digits (d ∷ ds) h =
    let a = both (is_ascii_digit d) (list_all is_ascii_digit ds) h in
    rw (digit_byte d a.0) (ink_digits ds a.1)

pub digits_of_decimal : (n : ℕ) → n < 2 ^ 64 → list_all is_ascii_digit (decimal n) ≡ true
digits_of_decimal n h = digits_decimal own n h

pub ink_decimal : (n : ℕ) → n < 2 ^ 64 → list_all is_ink (decimal n) ≡ true
ink_decimal n h = ink_digits (decimal n) (digits_decimal own n h)

pub ink_node : (n : ℕ) → n < 2 ^ 64 → list_all is_ink (node_word n) ≡ true
ink_node n h = ink_decimal n h

-- A text of digits that isn't read as a number of 32 bits names no number that can be asked for.
use Rattle.std.proofs.Common.{◌≡◌, ◌∙◌, ◌^◌, ◌<◌, ℕ, List, length, Bool, true, false, None, if◌then◌else◌, rules, arith, refl}
use Rattle.std.specs.Prelude.{Result, Err, nat_le}
use Rattle.std.specs.Char.{is_ascii_digit}
use Rattle.std.specs.List.{list_all}
use Rattle.std.specs.Result.{OkIff}
use Rattle.std.specs.Str.Parse.{ParsesUnsigned, digits_value}
use Rattle.std.proofs.lemmas.Str.Parse.{IsNumeralModel, numerals_by_value, parse_digits}
use Rattle.picture_run.specs.Settings.{is_numeral, number_named, number_within}

own : IsNumeralModel (λ ds. list_all is_ascii_digit ds ≡ true) (digits_value 10)
own = numerals_by_value _ (search rules)

-- a number above the most isn't one
too_large : (most n : ℕ) (low : Bool) → nat_le 1 n ≡ low → nat_le n most ≡ false → number_within most n ≡ None
too_large most n true p q = rw p (rw q refl)
too_large most n false p q = rw p refl

named_by : (most : ℕ) (text : List ℕ) (numeral : Bool) → is_numeral text ≡ numeral
    → number_named most text ≡ (if numeral then number_within most (digits_value 10 text) else None)
named_by most text numeral e = rw e refl

told : {E : Type 0} (text : List ℕ) (r : Result ℕ E) → ParsesUnsigned 32 10 text r → is_numeral text ≡ true
    → OkIff r ((0 < length text) × (digits_value 10 text < 2 ^ 32)) (digits_value 10 text)
told text r parsed numeral =
    let digits : list_all is_ascii_digit text ≡ true = search (rules, numeral) in
    parse_digits own 32 text r parsed digits

pub not_read : {E : Type 0} (most : ℕ) (text : List ℕ) (r : Result ℕ E) (e : E) → most < 2 ^ 32 → r ≡ Err e → ParsesUnsigned 32 10 text r → is_numeral text ≡ true
    → number_named most text ≡ None
not_read most text r e few is parsed numeral =
    let some : 0 < length text = search (rules, arith, numeral) in
    let ok : OkIff r ((0 < length text) × (digits_value 10 text < 2 ^ 32)) (digits_value 10 text) = told text r parsed numeral in
    let not_small : ¬ ((0 < length text) × (digits_value 10 text < 2 ^ 32)) = rw is at ok in
    let large : nat_le (digits_value 10 text) most ≡ false = search (rules, arith, not_small, some, few) in
    named_by most text true numeral ∙ too_large most (digits_value 10 text) (nat_le 1 (digits_value 10 text)) refl large

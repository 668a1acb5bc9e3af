-- A text of digits that isn't read as a number of 64 bits names no seed.
use Rattle.std.proofs.Common.{◌≡◌, ◌&&◌, ◌^◌, ◌<◌, ℕ, List, length, Bool, true, false, nat_lt, Some, None, if◌then◌else◌, rules, arith, refl}
use Rattle.std.specs.Prelude.{Result, Err}
use Rattle.std.specs.Char.{is_ascii_digit}
use Rattle.std.specs.List.{list_all}
use Rattle.std.specs.Result.{OkIff}
use Rattle.std.specs.Str.Parse.{ParsesUnsigned, digits_value}
use Rattle.std.proofs.lemmas.Str.Parse.{IsNumeralModel, numerals_by_value, parse_digits}
use Rattle.command_line.specs.Arguments.{is_numeral, seed_of}

own : IsNumeralModel (λ ds. list_all is_ascii_digit ds ≡ true) (digits_value 10)
own = numerals_by_value _ (search rules)

seed_by : (text : List ℕ) (numeral small : Bool) → is_numeral text ≡ numeral → nat_lt (digits_value 10 text) (2 ^ 64) ≡ small
    → seed_of text ≡ (if numeral && small then Some (digits_value 10 text) else None)
seed_by text numeral small p q = rw p (rw q refl)

pub not_read : {E : Type 0} (text : List ℕ) (r : Result ℕ E) (e : E) → r ≡ Err e → ParsesUnsigned 64 10 text r → is_numeral text ≡ true
    → seed_of text ≡ None
not_read text r e is parsed numeral =
    let digits : list_all is_ascii_digit text ≡ true = search (rules, numeral) in
    let some : 0 < length text = search (rules, arith, numeral) in
    let told : OkIff r ((0 < length text) × (digits_value 10 text < 2 ^ 64)) (digits_value 10 text) = parse_digits own 64 text r parsed digits in
    let not_small : ¬ ((0 < length text) × (digits_value 10 text < 2 ^ 64)) = rw is at told in
    let large : nat_lt (digits_value 10 text) (2 ^ 64) ≡ false = search (rules, arith, not_small, some) in
    seed_by text true false numeral large

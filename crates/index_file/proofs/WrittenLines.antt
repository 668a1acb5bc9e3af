-- Lines that are written say what was meant.
use Rattle.std.proofs.Common.{◌≡◌, ℕ, zero, suc, ◌<◌, ◌^◌, List, [], ◌∷◌, ◌++◌, length, get_or, true, Some, ◌∙◌, ap, arith, rules}
use Rattle.std.specs.Prelude.{decimal, ◌==◌, ◌||◌, ◌&&◌, not, nat_le, slice_index_or}
use Rattle.std.specs.List.{list_all}
use Rattle.std.specs.Char.{is_ascii_digit}
use Rattle.std.specs.Str.Parse.{digits_value}
use Rattle.std.proofs.lemmas.Bool.{and_parts, leb-true, ne_eqb}
use Rattle.std.proofs.lemmas.Fmt.{digits_decimal, decimal_is_IsNumeral, first_decimal, decimal_digit}
use Rattle.std.proofs.lemmas.Str.Parse.{IsNumeralModel, numerals_by_value}
use Rattle.std.proofs.Math.Bool.{or-true}
use Rattle.graph_spec.specs.Lines.{IsUncut}
use Rattle.index_file.specs.Statements.{is_decimal, IsNumber}
use Rattle.index_file.proofs.DecimalLaws.{number_is}

-- no end of a line in it
pub uncut_both : (a b : List ℕ) → IsUncut a → IsUncut b → IsUncut (a ++ b)
uncut_both [] b h k = k
uncut_both (x ∷ a) b h k = (h.0, h.1, uncut_both a b h.2 k)

-- each byte is past those that end a line
pub uncut_above : (w : List ℕ) → list_all (nat_le 14) w ≡ true → IsUncut w
uncut_above [] h = tt
uncut_above (b ∷ bs) h =
    let p = and_parts (nat_le 14 b) (list_all (nat_le 14) bs) h in
    let high = leb-true 14 b p.0 in
    (λ e. omega (arith, e, high), λ e. omega (arith, e, high), uncut_above bs p.1)

-- ---- numbers

own : IsNumeralModel (λ ds. list_all is_ascii_digit ds ≡ true) (digits_value 10)
own = numerals_by_value _ (search rules)

all_digits : (n : ℕ) → n < 2 ^ 64 → list_all is_ascii_digit (decimal n) ≡ true
all_digits n h = digits_decimal own n h

uncut_digits : (ds : List ℕ) → list_all is_ascii_digit ds ≡ true → IsUncut ds
uncut_digits [] h = tt
uncut_digits (d ∷ ds) h =
    let p = and_parts (is_ascii_digit d) (list_all is_ascii_digit ds) h in
    let low = leb-true 48 d (and_parts (nat_le 48 d) (nat_le d 57) p.0).0 in
    (λ e. omega (arith, e, low), λ e. omega (arith, e, low), uncut_digits ds p.1)

pub uncut_decimal : (n : ℕ) → n < 2 ^ 64 → IsUncut (decimal n)
uncut_decimal n h = uncut_digits (decimal n) (all_digits n h)

no_zero : (ds : List ℕ) → 48 < get_or ds 0 0 → not (slice_index_or ds 0 48 == 48) ≡ true
no_zero [] h = absurd (omega (arith, h))
no_zero (d ∷ ds) h = ap not (ne_eqb d 48 (λ e. omega (arith, e, h)))

no_lead : (n : ℕ) → n < 2 ^ 64 → (length (decimal n) == 1 || not (slice_index_or (decimal n) 0 48 == 48)) ≡ true
no_lead zero h = ap (λ ds. length ds == 1 || not (slice_index_or ds 0 48 == 48)) (decimal_digit 0 (omega arith))
no_lead (suc n) h =
    ap (λ b. length (decimal (suc n)) == 1 || b) (no_zero (decimal (suc n)) (first_decimal (suc n) (omega arith) h)) ∙ or-true (length (decimal (suc n)) == 1)

-- a number as it is written
pub number_written : (n : ℕ) → n < 2 ^ 64 → IsNumber (decimal n) n
number_written n h =
    let whole : is_decimal (decimal n) ≡ true =
    ap (λ b. b && (length (decimal n) == 1 || not (slice_index_or (decimal n) 0 48 == 48))) (all_digits n h) ∙ no_lead n h in
    number_is (decimal n) whole ∙ ap Some (decimal_is_IsNumeral n h).1

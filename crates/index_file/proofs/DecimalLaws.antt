-- Numbers in decimal, as they are read.
use Rattle.std.proofs.Common.{◌≡◌, ℕ, suc, cond, Bool, ◌+◌, ◌*◌, ◌-◌, ◌<◌, ◌≤◌, List, [], ◌∷◌, ◌++◌, length, take, drop, get_or, Some, None, true, false, true≢false, refl, sym, ◌∙◌, ap, subst, arith, inl, inr}
use Rattle.std.specs.Prelude.{nat_le, ◌&&◌, ◌==◌}
use Rattle.std.specs.List.{list_all, prefix_len}
use Rattle.std.specs.Char.{is_ascii_digit, digit_value}
use Rattle.std.specs.Str.Parse.{digits_value}
use Rattle.std.proofs.lemmas.Bool.{cases_Bool, cases_lt, leb-true, leb-false, and_parts, eqb-true}
use Rattle.std.proofs.lemmas.List.{append-nil, take-append-drop, nil_from_length}
use Rattle.std.proofs.lemmas.List.Sums.{prefix_len_is}
use Rattle.std.proofs.lemmas.Str.{digit_value_digit}
use Rattle.std.proofs.lemmas.Int.Digits.{digits_value_more}
use Rattle.index_file.specs.FoundNumbers.{saturated, digits_ahead, after_digits, IsFound}
use Rattle.index_file.specs.Statements.{is_decimal, decimal_value, IsNumber}

pub past : (x : ℕ) → 1000000000000000000 < x → saturated x ≡ 1000000000000000000
past x l = elim (cases_Bool (nat_le x 1000000000000000000)) [
  | inl on ↦ absurd (let m = leb-true x 1000000000000000000 on in omega (arith, l, m))
  | inr off ↦ rw off refl
]

-- a digit behind a number that was too great
pub saturated_more : (n d : ℕ) → saturated (saturated n * 10 + d) ≡ saturated (n * 10 + d)
saturated_more n d = elim (cases_Bool (nat_le n 1000000000000000000)) [
  | inl on ↦ rw on refl
  | inr off ↦
      (let above : 1000000000000000000 < n = leb-false n 1000000000000000000 off in
      let full : saturated n ≡ 1000000000000000000 = past n above in
      past (saturated n * 10 + d) (omega (arith, full)) ∙ sym (past (n * 10 + d) (omega (arith, above))))
]

value_of_digit : (c : ℕ) → is_ascii_digit c ≡ true → digit_value c ≡ c - 48
value_of_digit c h =
    let p = and_parts (nat_le 48 c) (nat_le c 57) h in
    let e = digit_value_digit c (leb-true 48 c p.0, leb-true c 57 p.1) in
    omega (arith, e)

pub value_more : (text : List ℕ) (i v w : ℕ) → i < length text → is_ascii_digit (get_or text i 0) ≡ true → v ≡ saturated (digits_value 10 (take i text))
    → w ≡ saturated (v * 10 + (get_or text i 0 - 48)) → w ≡ saturated (digits_value 10 (take (i + 1) text))
value_more text i v w l h e f =
    let digit = value_of_digit (get_or text i 0) h in
    f ∙ ap (λ x. saturated (x * 10 + (get_or text i 0 - 48))) e
    ∙ saturated_more (digits_value 10 (take i text)) (get_or text i 0 - 48)
    ∙ ap (λ x. saturated (digits_value 10 (take i text) * 10 + x)) (sym digit)
    ∙ ap saturated (sym (digits_value_more 10 text i l))

-- one more digit
pub digits_more : (text : List ℕ) (i : ℕ) → ((k : ℕ) → k < i → is_ascii_digit (get_or text k 0) ≡ true) → is_ascii_digit (get_or text i 0) ≡ true
    → (k : ℕ) → k < i + 1 → is_ascii_digit (get_or text k 0) ≡ true
digits_more text i before here k l = elim (cases_lt k i) [
  | inl below ↦ before k below
  | inr past ↦ ap (λ j. is_ascii_digit (get_or text j 0)) (let e : k ≡ i = omega (arith, past, l) in e) ∙ here
]

-- a place up to which digits stand, and where none stands
pub front_at : (text : List ℕ) (i v : ℕ) → i ≤ length text → ((k : ℕ) → k < i → is_ascii_digit (get_or text k 0) ≡ true)
    → (i < length text → is_ascii_digit (get_or text i 0) ≡ false) → v ≡ saturated (digits_value 10 (take i text))
    → (i ≡ prefix_len is_ascii_digit text) × (v ≡ saturated (digits_value 10 (digits_ahead text)))
front_at text i v within digits ends e =
    let len = sym (prefix_len_is is_ascii_digit text i 0 within digits ends) in
    (len, e ∙ ap (λ n. saturated (digits_value 10 (take n text))) len)

pub front_digits : (text : List ℕ) → list_all is_ascii_digit (digits_ahead text) ≡ true
front_digits [] = refl
front_digits (d ∷ ds) = by (is_ascii_digit d) refl (front_digits ds)
  where
    by : (b : Bool) → is_ascii_digit d ≡ b → list_all is_ascii_digit (digits_ahead ds) ≡ true → list_all is_ascii_digit (take (cond b (1 + prefix_len is_ascii_digit ds) 0) (d ∷ ds)) ≡ true
    by false e rest = refl
    by true e rest =
        let next : 1 + prefix_len is_ascii_digit ds ≡ suc (prefix_len is_ascii_digit ds) = omega arith in
        ap (λ n. list_all is_ascii_digit (take n (d ∷ ds))) next ∙ ap (λ b. b && list_all is_ascii_digit (digits_ahead ds)) e ∙ rest

-- digits alone
pub back_none : (text : List ℕ) → list_all is_ascii_digit text ≡ true → after_digits text ≡ []
back_none [] h = refl
back_none (d ∷ ds) h =
    let p = and_parts (is_ascii_digit d) (list_all is_ascii_digit ds) h in
    let next : 1 + prefix_len is_ascii_digit ds ≡ suc (prefix_len is_ascii_digit ds) = omega arith in
    ap (λ n. drop n (d ∷ ds)) (ap (λ b. cond b (1 + prefix_len is_ascii_digit ds) 0) p.0 ∙ next) ∙ back_none ds p.1

pub front_all : (text : List ℕ) → after_digits text ≡ [] → digits_ahead text ≡ text
front_all text e = sym (append-nil (digits_ahead text)) ∙ ap (λ r. digits_ahead text ++ r) (sym e) ∙ take-append-drop (prefix_len is_ascii_digit text) text

pub number_is : (digits : List ℕ) → is_decimal digits ≡ true → decimal_value digits ≡ Some (digits_value 10 digits)
number_is digits h = rw h refl

pub no_number : (digits : List ℕ) (n : ℕ) → is_decimal digits ≡ false → IsNumber digits n → ⊥
no_number digits n off e = (let z : decimal_value digits ≡ None = rw off refl in let y = sym z ∙ e in cc)

pub some_one : (a b : ℕ) → Some a ≡ Some b → b ≡ a
some_one a b e = cc

pub found_number : (digits : List ℕ) (r : ℕ) → is_decimal digits ≡ true → r ≡ saturated (digits_value 10 digits) → IsFound (IsNumber digits) r
found_number digits r h e = record {
  number = digits_value 10 digits;
  holds = number_is digits h;
  only = λ n f. some_one (digits_value 10 digits) n (sym (number_is digits h) ∙ f);
  is = e;
}

pub found_in_front : (text digits : List ℕ) (r : ℕ) → digits ≡ digits_ahead text → is_decimal digits ≡ true → r ≡ saturated (digits_value 10 (digits_ahead text)) → IsFound (IsNumber (digits_ahead text)) r
found_in_front text digits r e h v = found_number (digits_ahead text) r (ap is_decimal (sym e) ∙ h) v

pub none_in_front : (text digits : List ℕ) → digits ≡ digits_ahead text → is_decimal digits ≡ false → (n : ℕ) → IsNumber (digits_ahead text) n → ⊥
none_in_front text digits e off n = no_number (digits_ahead text) n (ap is_decimal (sym e) ∙ off)

pub digits_of : (digits : List ℕ) (n : ℕ) → IsNumber digits n → list_all is_ascii_digit digits ≡ true
digits_of digits n e = elim (cases_Bool (is_decimal digits)) [
  | inl on ↦ (and_parts (list_all is_ascii_digit digits) _ on).0
  | inr off ↦ absurd (no_number digits n off e)
]

-- a number has nothing behind its digits, and is all of them
pub number_front : (text : List ℕ) (n : ℕ) → IsNumber text n → (after_digits text ≡ []) × IsNumber (digits_ahead text) n
number_front text n p =
    let none = back_none text (digits_of text n p) in
    (none, subst (λ d. IsNumber d n) (sym (front_all text none)) p)

pub found_whole : (text rest : List ℕ) (r : ℕ) → IsFound (IsNumber (digits_ahead text)) r → rest ≡ after_digits text → (length rest == 0) ≡ true → IsFound (IsNumber text) r
found_whole text rest r f e none = subst (λ d. IsFound (IsNumber d) r) (front_all text (sym e ∙ nil_from_length rest (eqb-true (length rest) 0 none))) f

pub no_more : (text rest : List ℕ) (n : ℕ) → rest ≡ after_digits text → (length rest == 0) ≡ false → IsNumber text n → ⊥
no_more text rest n e more p = true≢false (sym (ap (λ r. length r == 0) (e ∙ (number_front text n p).0)) ∙ more)

-- a number begins with a digit
pub decimal_first : (digits : List ℕ) (n : ℕ) → IsNumber digits n → (d : ℕ) × (ds : List ℕ) × (digits ≡ d ∷ ds) × (is_ascii_digit d ≡ true)
decimal_first [] n e = absurd (let z : None ≡ Some n = e in cc)
decimal_first (d ∷ ds) n e = (d, ds, refl, (and_parts (is_ascii_digit d) (list_all is_ascii_digit ds) (digits_of (d ∷ ds) n e)).0)

-- what is read of a number is at most 10^18
pub saturated_few : (v n : ℕ) → v ≡ saturated n → v ≤ 1000000000000000000
saturated_few v n e = elim (cases_Bool (nat_le n 1000000000000000000)) [
  | inl on ↦ (let z : saturated n ≡ n = (rw on refl) in let m = leb-true n 1000000000000000000 on in omega (arith, e, z, m))
  | inr off ↦ (let z = past n (leb-false n 1000000000000000000 off) in omega (arith, e, z))
]

-- a number that isn't too great is read as it is
pub number_same : (v n : ℕ) → v ≡ saturated n → v < 1000000000000000000 → n ≡ v
number_same v n e l = elim (cases_Bool (nat_le n 1000000000000000000)) [
  | inl on ↦ (let z : saturated n ≡ n = (rw on refl) in sym z ∙ sym e)
  | inr off ↦ absurd (let z = past n (leb-false n 1000000000000000000 off) in omega (arith, e, z, l))
]

-- and what is read is at most the number
pub number_above : (v n m : ℕ) → v ≡ saturated n → m < v → m < n
number_above v n m e l = elim (cases_Bool (nat_le n 1000000000000000000)) [
  | inl on ↦ (let z : saturated n ≡ n = (rw on refl) in omega (arith, e, z, l))
  | inr off ↦ (let above = leb-false n 1000000000000000000 off in let z = past n above in omega (arith, e, z, l, above))
]

-- What is written is spelled so.
use Rattle.std.proofs.Common.{◌≡◌, ◌<◌, ◌/◌, ◌%◌, ℕ, List, [], ◌∷◌, true, false, refl, sym, arith, inl, inr}
use Rattle.std.specs.Char.{digit_value}
use Rattle.std.specs.List.{flat_map}
use Rattle.std.proofs.Math.Utf8.{scalar, scalars}
use Rattle.std.proofs.lemmas.Bool.{cases_lt}
use Rattle.std.proofs.lemmas.Bool.Decides.{nat_tests}
use Rattle.std.proofs.lemmas.List.Concat.{flat_map-cons}
use Rattle.triples_read.specs.Characters.{is_iri_char, is_hex}
use Rattle.triples_read.specs.Terminals.{Many, IriPiece, hex_number}
use Rattle.triples_read.specs.Canonical.{upper_hex, iri_char}
use Rattle.triples_read.proofs.Basics.{bool_cases, and_both, no_both}
use Rattle.triples_read.proofs.Uchars.{iri_kind}

value_of : (d : ℕ) → d < 16 → digit_value (upper_hex d) ≡ d
value_of d small = grind (arith, nat_tests)

is_digit_of : (d : ℕ) → d < 16 → is_hex (upper_hex d) ≡ true
is_digit_of d small = let v = value_of d small in rw v (grind (arith, nat_tests))

excluded_small : (c : ℕ) → is_iri_char c ≡ false → c < 128
excluded_small c bad = elim (cases_lt c 128) [ inl small ↦ small | inr large ↦ absurd (no_both (is_iri_char c) (iri_kind.wide c large) bad) ]

number_of : (c : ℕ) → c < 128 → hex_number 0 (48 ∷ 48 ∷ upper_hex (c / 16) ∷ upper_hex (c % 16) ∷ []) ≡ c
number_of c small =
    let high = value_of (c / 16) (omega arith) in
    let low = value_of (c % 16) (omega arith) in
    omega (arith, high, low)

piece_of : (c : ℕ) → scalar c ≡ true → IriPiece (iri_char c) c
piece_of c ok =
    elim (bool_cases (is_iri_char c)) [
      | inl plain ↦ inl (rw plain refl, ok, plain)
      | inr bad ↦ inr (
          let small = excluded_small c bad in
          (117, 48 ∷ 48 ∷ upper_hex (c / 16) ∷ upper_hex (c % 16) ∷ [], rw bad refl, inl (refl, refl), (refl, (refl, (is_digit_of (c / 16) (omega arith), (is_digit_of (c % 16) (omega arith), tt)))), sym (number_of c small), ok))
    ]

pub pieces_of : (cs : List ℕ) → scalars cs ≡ true → Many IriPiece (flat_map iri_char cs) cs
pieces_of [] ok = refl
pieces_of (c ∷ cs) ok =
    let both = and_both (scalar c) (scalars cs) ok in
    (iri_char c, flat_map iri_char cs, flat_map-cons iri_char c cs, piece_of c both.0, pieces_of cs both.1)

-- The bytes of names: ASCII, a letter first, and no blank among them.
use Rattle.std.proofs.Common.{◌≡◌, ℕ, zero, suc, ◌<◌, Bool, true, false, List, [], ◌∷◌, length, refl, sym, arith, true≢false}
use Rattle.std.specs.Prelude.{◌&&◌, not, ◌==◌, slice_index, IsUtf8}
use Rattle.std.specs.List.{list_all}
use Rattle.std.proofs.lemmas.Bool.Decides.{nat_tests}
use Rattle.std.proofs.lemmas.Str.{IsUtf8-from_ascii}
use Rattle.graph_spec.specs.Words.{is_blank, is_letter, is_name_byte, is_name}
use Rattle.path_query.specs.Labels.{IsPlainLabel}

pub both : (x y : Bool) → (x && y) ≡ true → (x ≡ true) × (y ≡ true)
both true true h = (refl, refl)
both true false h = absurd (true≢false (sym h))
both false y h = absurd (true≢false (sym h))

name_byte_small : (b : ℕ) → is_name_byte b ≡ true → b < 128
name_byte_small b h = grind (arith, nat_tests)

letter_small : (b : ℕ) → is_letter b ≡ true → b < 128
letter_small b h = grind (arith, nat_tests)

letter_in_name : (b : ℕ) → is_letter b ≡ true → is_name_byte b ≡ true
letter_in_name b h = grind (arith, nat_tests)

-- the first byte is a letter, and the others are name bytes
pub record IsNamed (first : ℕ) (others : List ℕ) : Type 0 where
  pub letter : is_letter first ≡ true
  pub name_bytes : list_all is_name_byte others ≡ true

pub named : (first : ℕ) (others : List ℕ) → is_name (first ∷ others) ≡ true → IsNamed first others
named x xs h =
    let a = both (not (length (x ∷ xs) == 0) && is_letter x) (list_all is_name_byte xs) h in
    record { letter = (both (not (length (x ∷ xs) == 0)) (is_letter x) a.0).1; name_bytes = a.1 }

small_at : (xs : List ℕ) → list_all is_name_byte xs ≡ true → (i : ℕ) → slice_index xs i < 128
small_at [] h i = omega arith
small_at (x ∷ xs) h zero = name_byte_small x (both (is_name_byte x) (list_all is_name_byte xs) h).0
small_at (x ∷ xs) h (suc i) = small_at xs (both (is_name_byte x) (list_all is_name_byte xs) h).1 i

name_small : (w : List ℕ) → is_name w ≡ true → (i : ℕ) → slice_index w i < 128
name_small [] h i = omega arith
name_small (x ∷ xs) h zero = letter_small x (named x xs h).letter
name_small (x ∷ xs) h (suc i) = small_at xs (named x xs h).name_bytes i

pub letter_is_no_blank : (b : ℕ) → is_letter b ≡ true → is_blank b ≡ false
letter_is_no_blank b h = grind (arith, nat_tests)

pub blank_ends_name : (b : ℕ) → is_blank b ≡ true → is_name_byte b ≡ false
blank_ends_name b h = grind (arith, nat_tests)

pub plain_utf8 : (w : List ℕ) → IsPlainLabel w → IsUtf8 w
plain_utf8 w h = IsUtf8-from_ascii w (name_small w h.0)

pub name_bytes : (w : List ℕ) → is_name w ≡ true → list_all is_name_byte w ≡ true
name_bytes [] h = refl
name_bytes (x ∷ xs) h = let n = named x xs h in rw (letter_in_name x n.letter, n.name_bytes) refl

-- Laws of hexadecimal digits.
use Rattle.std.proofs.Common.{◌≡◌, ◌<◌, ◌≤◌, ◌^◌, ◌-◌, ◌+◌, ◌*◌, ℕ, suc, List, ◌∷◌, true, false, refl, sym, ◌∙◌, ap, arith, None, length, drop, get_or, drop-cons, add-one}
use Rattle.std.proofs.Math.ListN.{drop_of_length-le}
use Rattle.std.proofs.Math.Nat.{pow-succ'}
use Rattle.std.proofs.lemmas.Bool.{ltb-true}
use Rattle.std.specs.Char.{digit_value}
use Rattle.triples_read.specs.Characters.{is_hex}
use Rattle.triples_read.specs.ByteReaders.{hex_at}

-- what is left gives the whole
pub record HexSoFar (count done n : ℕ) (whole rest : List ℕ) : Type 0 where
  pub same : hex_at (count - done) n rest ≡ hex_at count 0 whole
  pub bound : n < 16 ^ done

pub hex_step : (k n b : ℕ) (after : List ℕ) → is_hex b ≡ true → hex_at (suc k) n (b ∷ after) ≡ hex_at k (16 * n + digit_value b) after
hex_step k n b after e = rw e refl

pub hex_stop : (k n b : ℕ) (after : List ℕ) → is_hex b ≡ false → hex_at (suc k) n (b ∷ after) ≡ None
hex_stop k n b after e = rw e refl

pub left_suc : (count i : ℕ) → i < count → count - i ≡ suc (count - (i + 1))
left_suc count i lt = omega arith

pub hex-out : (count i n : ℕ) (whole : List ℕ) → i < count → length whole ≤ i → HexSoFar count i n whole (drop i whole) → None ≡ hex_at count 0 whole
hex-out count i n whole more short h =
    rw (sym h.same, drop_of_length-le whole short, left_suc count i more) refl

pub hex-bad : (count i n b : ℕ) (whole : List ℕ) → i < count → i < length whole → b ≡ get_or whole i b → is_hex b ≡ false → HexSoFar count i n whole (drop i whole) → None ≡ hex_at count 0 whole
hex-bad count i n b whole more inside is bad h =
    let at : drop i whole ≡ b ∷ drop (suc i) whole = drop-cons whole i b inside ∙ ap (λ (z : ℕ). z ∷ drop (suc i) whole) (sym is) in
    rw (sym h.same, at, left_suc count i more, hex_stop (count - (i + 1)) n b (drop (suc i) whole) bad) refl

pub hex-good : (count i n b : ℕ) (whole : List ℕ) → i < count → i < length whole → b ≡ get_or whole i b → is_hex b ≡ true → HexSoFar count i n whole (drop i whole) → HexSoFar count (i + 1) (16 * n + digit_value b) whole (drop (i + 1) whole)
hex-good count i n b whole more inside is good h =
    let at : drop i whole ≡ b ∷ drop (i + 1) whole = drop-cons whole i b inside ∙ rw (add-one i) (ap (λ (z : ℕ). z ∷ drop (suc i) whole) (sym is)) in
    let small : digit_value b < 16 = ltb-true (digit_value b) 16 good in
    let power : 16 ^ (i + 1) ≡ 16 * 16 ^ i = rw (add-one i) (pow-succ' 16 i) in
    record {
      same = sym (hex_step (count - (i + 1)) n b (drop (i + 1) whole) good) ∙ ap (λ (k : ℕ). hex_at k n (b ∷ drop (i + 1) whole)) (sym (left_suc count i more)) ∙ ap (hex_at (count - i) n) (sym at) ∙ h.same;
      bound = omega (arith, h.bound, small, power);
    }

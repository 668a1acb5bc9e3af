-- There is one longest length, and the greatest of three is one.
use Rattle.std.proofs.Common.{◌≡◌, ℕ, ◌+◌, ◌≤◌, length, refl, ap, arith, max, Option, None, Some}
use Rattle.path_spec.specs.Matches.{Word}
use Rattle.path_spec.specs.Longest.{IsLongest, greater}

-- where some length is the greatest, no words are as long as one likes
bounded_or_not : (P : Word → Type 0) (n : ℕ) → IsLongest P None → IsLongest P (Some n) → ⊥
bounded_or_not P n any is =
    let w = any (n + 1) in
    let more : n + 1 ≤ length w.0 = w.2 in
    let most : length w.0 ≤ n = is.1 w.0 w.1 in
    absurd (omega (arith, more, most))

pub one_longest : (P : Word → Type 0) (o p : Option ℕ) → IsLongest P o → IsLongest P p → o ≡ p
one_longest P None None h k = refl
one_longest P None (Some n) h k = absurd (bounded_or_not P n h k)
one_longest P (Some m) None h k = absurd (bounded_or_not P m k h)
one_longest P (Some m) (Some n) h k =
    let v = h.0 in
    let w = k.0 in
    let one : length v.0 ≡ m = v.2 in
    let other : length w.0 ≡ n = w.2 in
    let low : length v.0 ≤ n = k.1 v.0 v.1 in
    let high : length w.0 ≤ m = h.1 w.0 w.1 in
    let same : m ≡ n = omega (arith, one, other, low, high) in
    ap Some same

pub greater_assoc : (a b c : Option ℕ) → greater a (greater b c) ≡ greater (greater a b) c
greater_assoc None b c = refl
greater_assoc (Some m) None c = refl
greater_assoc (Some m) (Some n) None = refl
greater_assoc (Some m) (Some n) (Some k) = let e : max m (max n k) ≡ max (max m n) k = omega arith in ap Some e

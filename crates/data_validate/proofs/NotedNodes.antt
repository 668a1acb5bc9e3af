-- How noting goes on.
use Rattle.std.proofs.Common.{◌≡◌, ℕ, zero, suc, ◌+◌, ◌<◌, Bool, true, false, List, [], ◌∷◌, length, take, get_or, refl, sym, ap, ◌∙◌, subst, arith, eqb, eq-eqb}
use Rattle.std.specs.Prelude.{◌&&◌, ◌||◌, not, nat_eq}
use Rattle.std.proofs.lemmas.List.Folds.{list_any_at}
use Rattle.graph_spec.specs.Members.{has}
use Rattle.data_validate.specs.Ancestors.{IsNoted}

meets_as : (m p q r : Bool) → r ≡ (q || p) → ((m || p) || q) ≡ (m || r)
meets_as true p q r e = refl
meets_as false true true r e = sym e
meets_as false true false r e = sym e
meets_as false false true r e = sym e
meets_as false false false r e = sym e

finds_as : (f m p q r : Bool) → r ≡ (q || p) → ((f || (p && not m)) || (q && not (m || p))) ≡ (f || (r && not m))
finds_as true m p q r e = refl
finds_as false true true true r e = sym (ap (λ b. b && false) e)
finds_as false true true false r e = sym (ap (λ b. b && false) e)
finds_as false true false true r e = sym (ap (λ b. b && false) e)
finds_as false true false false r e = sym (ap (λ b. b && false) e)
finds_as false false true true r e = sym (ap (λ b. b && true) e)
finds_as false false true false r e = sym (ap (λ b. b && true) e)
finds_as false false false true r e = sym (ap (λ b. b && true) e)
finds_as false false false false r e = sym (ap (λ b. b && true) e)

-- some more are noted
pub noted_then : (P Q R : ℕ → Bool) (m f m2 f2 m3 f3 : List ℕ) → ((c : ℕ) → R c ≡ (Q c || P c)) → IsNoted P m f m2 f2 → IsNoted Q m2 f2 m3 f3 → IsNoted R m f m3 f3
noted_then P Q R m f m2 f2 m3 f3 all a b = record {
  meets = λ c. b.meets c ∙ ap (λ x. x || Q c) (a.meets c) ∙ meets_as (has m c) (P c) (Q c) (R c) (all c);
  finds = λ c.
      b.finds c ∙ ap (λ x. x || (Q c && not (has m2 c))) (a.finds c) ∙ ap (λ x. (has f c || (P c && not (has m c))) || (Q c && not x)) (a.meets c)
      ∙ finds_as (has f c) (has m c) (P c) (Q c) (R c) (all c);
}

or_step : (a b c : Bool) → (a || (b || c)) ≡ (b || (a || c))
or_step true true c = refl
or_step true false c = refl
or_step false b c = refl

-- a number that stands there is in the list
pub has_there : (xs : List ℕ) (i : ℕ) → i < length xs → has xs (get_or xs i 0) ≡ true
has_there xs i h = list_any_at (eqb (get_or xs i 0)) xs i 0 h (eq-eqb (get_or xs i 0) (get_or xs i 0) refl)

-- of one more
pub has_more : (xs : List ℕ) (i : ℕ) → i < length xs → (c : ℕ) → has (take (i + 1) xs) c ≡ (nat_eq c (get_or xs i 0) || has (take i xs) c)
has_more xs i h c = subst (λ n. has (take n xs) c ≡ (nat_eq c (get_or xs i 0) || has (take i xs) c)) (one_more i) (by xs i h)
  where
    one_more : (i : ℕ) → suc i ≡ i + 1
    one_more i = omega arith

    by : (xs : List ℕ) (i : ℕ) → i < length xs → has (take (suc i) xs) c ≡ (nat_eq c (get_or xs i 0) || has (take i xs) c)
    by [] i h = absurd (omega arith)
    by (x ∷ xs) zero h = refl
    by (x ∷ xs) (suc i) h = ap (λ b. nat_eq c x || b) (by xs i (omega arith)) ∙ or_step (nat_eq c x) (nat_eq c (get_or xs i 0)) (has (take i xs) c)

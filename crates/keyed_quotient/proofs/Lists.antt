-- Lists that grow at their ends.
use Rattle.std.proofs.Common.{◌≡◌, ℕ, zero, suc, ◌+◌, ◌<◌, ◌≤◌, List, [], ◌∷◌, ◌++◌, length, Some, is_some, true≢false, slice_get, refl, sym, ◌∙◌, ap, arith, inl, inr}
use Rattle.std.proofs.lemmas.Bool.{cases_lt}

pub get_push : {X : Type 0} (xs : List X) (x : X) (j : ℕ) (y : X) → slice_get xs j ≡ Some y → slice_get (xs ++ x ∷ []) j ≡ Some y
get_push [] x j y e = absurd (true≢false (sym (ap is_some e)))
get_push (z ∷ xs) x zero y e = e
get_push (z ∷ xs) x (suc j) y e = get_push xs x j y e

pub get_last : {X : Type 0} (xs : List X) (x : X) → slice_get (xs ++ x ∷ []) (length xs) ≡ Some x
get_last [] x = refl
get_last (z ∷ xs) x = get_last xs x

-- the list has the numbers below its length
pub record CountsTo (n : ℕ) (xs : List ℕ) : Type 0 where
  pub count : length xs ≡ n
  pub same : (i : ℕ) → i < n → slice_get xs i ≡ Some i

pub counts_next : (n : ℕ) (xs ys : List ℕ) → CountsTo n xs → ys ≡ xs ++ n ∷ [] → length ys ≡ length xs + 1 → CountsTo (n + 1) ys
counts_next n xs ys w e len =
    let count = w.count in
    record {
      count = omega (arith, count, len);
      same = λ i h. elim (cases_lt i n) [
        | inl before ↦ ap (λ zs. slice_get zs i) e ∙ get_push xs n i i (w.same i before)
        | inr past ↦
            (let at_n : i ≡ n = omega (arith, h, past) in
            ap (λ zs. slice_get zs i) e ∙ ap (slice_get (xs ++ n ∷ [])) (at_n ∙ sym count) ∙ get_last xs n ∙ ap Some (sym at_n))
      ];
    }

-- a list as it grows
pub record Lengthens (from : List ℕ) (n : ℕ) (xs : List ℕ) : Type 0 where
  pub longer : length from ≤ length xs
  pub reaches : n ≤ length xs
  pub same : (i v : ℕ) → slice_get from i ≡ Some v → slice_get xs i ≡ Some v

pub lengthens_none : (xs : List ℕ) → Lengthens xs (length xs) xs
lengthens_none xs = record { longer = omega arith; reaches = omega arith; same = λ i v e. e }

pub lengthens_next : (from : List ℕ) (n v : ℕ) (xs ys : List ℕ) → Lengthens from n xs → ys ≡ xs ++ v ∷ [] → length ys ≡ length xs + 1 → Lengthens from (n + 1) ys
lengthens_next from n v xs ys w e len =
    let a = w.longer in
    let b = w.reaches in
    record {
      longer = omega (arith, a, len);
      reaches = omega (arith, b, len);
      same = λ i u h. ap (λ zs. slice_get zs i) e ∙ get_push xs v i u (w.same i u h);
    }

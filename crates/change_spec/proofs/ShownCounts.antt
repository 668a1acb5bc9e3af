-- How many neighbours are lost, and how many come.
use Rattle.std.proofs.Common.{◌≡◌, ℕ, zero, suc, ◌+◌, ◌-◌, ◌<◌, ◌≤◌, Bool, true, false, List, [], ◌∷◌, length, refl, sym, ap, ◌∙◌, arith, nat_eq, inl, inr}
use Rattle.std.specs.Prelude.{◌&&◌, ◌||◌, not}
use Rattle.std.specs.List.{IsDistinct, AllByRecursion}
use Rattle.std.proofs.Math.Bool.{and-true, or-false, or-true}
use Rattle.std.proofs.lemmas.Bool.Decides.{eqb_tells}
use Rattle.std.proofs.lemmas.Map.Keys.{IsDistinct-head, IsDistinct-tail}
use Rattle.graph_spec.specs.Members.{has, Lists}
use Rattle.bisim_spec.specs.Below.{count_below}
use Rattle.bisim_spec.proofs.BelowLaws.{bit_of, count_same}
use Rattle.change_spec.specs.Counts.{tally}

none_there : (u : ℕ) (cs : List ℕ) → AllByRecursion (λ y. nat_eq u y ≡ false) cs → has cs u ≡ false
none_there u [] h = refl
none_there u (c ∷ cs) h = rw h.0 (none_there u cs h.1)

-- one number more
count_one : (n x : ℕ) (p : ℕ → Bool) (b : Bool) → p x ≡ false → x < n → count_below n (λ k. (nat_eq k x && b) || p k) ≡ bit_of b + count_below n p
count_one zero x p b off h = absurd (omega (arith, h))
count_one (suc n) x p b off h = elim (eqb_tells n x) [
  | inl e ↦ (
      let here : bit_of ((nat_eq n x && b) || p n) ≡ bit_of b = rw (e.0, ap p e.1 ∙ off) (ap bit_of (or-false b)) in
      let none : bit_of (p n) ≡ 0 = ap bit_of (ap p e.1 ∙ off) in
      let rest = past n x p b (let f = e.1 in omega (arith, f)) in
      omega (arith, here, none, rest))
  | inr d ↦ (
      let here : bit_of ((nat_eq n x && b) || p n) ≡ bit_of (p n) = rw d.0 refl in
      let rest = count_one n x p b off (let f = d.1 in omega (arith, h, f)) in
      omega (arith, here, rest))
]
  where
    past : (n x : ℕ) (p : ℕ → Bool) (b : Bool) → n ≤ x → count_below n (λ k. (nat_eq k x && b) || p k) ≡ count_below n p
    past n x p b h = count_same n (λ k. (nat_eq k x && b) || p k) p (λ k l. elim (eqb_tells k x) [
      | inl e ↦ absurd (let f = e.1 in omega (arith, h, l, f))
      | inr d ↦ ap (λ z. (z && b) || p k) d.0
    ])

-- how many of a list pass, counted over all numbers
pub tally_below : (n : ℕ) (q : ℕ → Bool) (xs : List ℕ) → IsDistinct nat_eq xs → ((k : ℕ) → has xs k ≡ true → k < n) → tally q xs ≡ count_below n (λ k. has xs k && q k)
tally_below n q [] d h = sym (none n)
  where
    none : (n : ℕ) → count_below n (λ k. false) ≡ 0
    none zero = refl
    none (suc n) = (let r = none n in omega (arith, r))
tally_below n q (x ∷ xs) d h =
    let rest = tally_below n q xs (IsDistinct-tail nat_eq x xs d) (λ k e. h k (ap (λ b. nat_eq k x || b) e ∙ or-true (nat_eq k x))) in
    let off : (has xs x && q x) ≡ false = ap (λ b. b && q x) (none_there x xs (IsDistinct-head nat_eq x xs d)) in
    let in_range : x < n = h x (self x) in
    let one = count_one n x (λ k. has xs k && q k) (q x) off in_range in
    let same = count_same n (λ k. has (x ∷ xs) k && q k) (λ k. (nat_eq k x && q x) || (has xs k && q k)) (λ k l. elim (eqb_tells k x) [
      | inl e ↦ (let t : q k ≡ q x = ap q e.1 in rw (e.0, t) (both (has xs k) (q x)))
      | inr a ↦ rw a.0 refl
    ]) in
    omega (arith, rest, one, same)
  where
    self : (x : ℕ) → (nat_eq x x || has xs x) ≡ true
    self x = elim (eqb_tells x x) [ inl q ↦ ap (λ b. b || has xs x) q.0 | inr q ↦ absurd (q.1 refl) ]

    both : (a b : Bool) → ((true || a) && b) ≡ ((true && b) || (a && b))
    both true true = refl
    both true false = refl
    both false true = refl
    both false false = refl

pub tally_all : (xs : List ℕ) → tally (λ k. true) xs ≡ length xs
tally_all [] = refl
tally_all (x ∷ xs) = (let r = tally_all xs in omega (arith, r))

-- the length of a list of numbers, counted over all numbers
pub length_below : (n : ℕ) (p : ℕ → Bool) (xs : List ℕ) → Lists p xs → ((k : ℕ) → p k ≡ true → k < n) → length xs ≡ count_below n p
length_below n p xs l h =
    sym (tally_all xs) ∙ tally_below n (λ k. true) xs l.once (λ k e. h k (sym (l.members k) ∙ e))
    ∙ count_same n (λ k. has xs k && true) p (λ k i. and-true (has xs k) ∙ l.members k)

-- two tests that share some numbers
pub exchanged : (n : ℕ) (a b : ℕ → Bool) → count_below n a + count_below n (λ k. b k && not (a k)) ≡ count_below n b + count_below n (λ k. a k && not (b k))
exchanged zero a b = refl
exchanged (suc n) a b = (let r = exchanged n a b in let e = bits (a n) (b n) in omega (arith, r, e))
  where
    bits : (x y : Bool) → bit_of x + bit_of (y && not x) ≡ bit_of y + bit_of (x && not y)
    bits true true = refl
    bits true false = refl
    bits false true = refl
    bits false false = refl

-- The neighbours before are a, those after are b, and those that come with links are among b. What was there and isn't is lost; what is there and wasn't
-- are those that come and weren't there.
pub shown_cost : (n : ℕ) (a b new : ℕ → Bool) (before after come : List ℕ) → Lists a before → Lists b after → Lists new come
    → ((k : ℕ) → a k ≡ true → k < n) → ((k : ℕ) → b k ≡ true → k < n) → ((k : ℕ) → new k ≡ true → k < n)
    → ((k : ℕ) → (new k && not (a k)) ≡ (b k && not (a k)))
    → length before + tally (λ k. not (a k)) come ≡ length after + count_below n (λ k. a k && not (b k))
shown_cost n a b new before after come la lb lc ha hb hc same =
    let x = length_below n a before la ha in
    let y = length_below n b after lb hb in
    let t = tally_below n (λ k. not (a k)) come lc.once (λ k e. hc k (sym (lc.members k) ∙ e)) in
    let s = count_same n (λ k. has come k && not (a k)) (λ k. b k && not (a k)) (λ k i. ap (λ c. c && not (a k)) (lc.members k) ∙ same k) in
    let e = exchanged n a b in
    omega (arith, x, y, t, s, e)

-- As many of some distinct nodes as a block has members are all its members.
use Rattle.std.proofs.Common.{◌≡◌, ◌≢◌, ℕ, zero, suc, ◌+◌, ◌<◌, ◌≤◌, List, [], ◌∷◌, length, Option, Some, refl, sym, ◌∙◌, ap, arith, inl, inr, true, false, Bool, count_by}
use Rattle.quotient_draft.specs.MoveTables.{counted}
use Rattle.std.specs.Prelude.{nat_eq, ◌&&◌, not, IsTrue, IsFalse}
use Rattle.std.specs.List.{IsDistinct}
use Rattle.std.proofs.lemmas.Bool.{cases_Bool, cases_lt, and_parts, and_from, both_ways, or_cases, not_from_false, false_from_ne_true}
use Rattle.std.proofs.lemmas.Bool.Decides.{Decides-eqb}
use Rattle.std.proofs.lemmas.List.Sums.{sum_by-cons}
use Rattle.std.proofs.lemmas.Map.Keys.{IsDistinct-tail}
use Rattle.graph_spec.specs.Members.{at, has, is_this}
use Rattle.bisim_spec.specs.Below.{any_below, count_below}
use Rattle.bisim_spec.proofs.BelowLaws.{bit_of, any_get, none_get, count_mono, count_strict}
use Rattle.bisim_spec.proofs.Bisimilar.{is_some_at}
use Rattle.bisim_spec.proofs.Moves.{block_get, block_from}
use Rattle.bisim_spec.proofs.Together.{block_below}
use Rattle.one_spec.proofs.Sums.{but, sum_without, count_sum, first_has, rest_has, rest_apart}
use Rattle.one_split.specs.Counted.{is_in, AreCounted}

-- one number more: what a list counts
count_one_more : (q : ℕ → Bool) (x : ℕ) (xs : List ℕ) → count_by q (x ∷ xs) ≡ bit_of (q x) + count_by q xs
count_one_more q x xs = sum_by-cons (λ (n : ℕ). bit_of (q n)) x xs

-- numbers below a bound, counted from the first on
count_shift : (n : ℕ) (q : ℕ → Bool) → count_below (suc n) q ≡ bit_of (q 0) + count_below n (λ k. q (suc k))
count_shift zero q = refl
count_shift (suc n) q = (let r = count_shift n q in omega (arith, r))

-- the members of a block are counted along the list
pub count_members : (p : List (Option ℕ)) (b : ℕ) → count_by (is_this b) p ≡ count_below (length p) (is_in p b)
count_members [] b = refl
count_members (x ∷ xs) b =
    let first : count_by (is_this b) (x ∷ xs) ≡ bit_of (is_this b x) + count_by (is_this b) xs = sum_by-cons (λ (o : Option ℕ). bit_of (is_this b o)) x xs in
    let rest = count_members xs b in
    let shift : count_below (suc (length xs)) (is_in (x ∷ xs) b) ≡ bit_of (is_this b x) + count_below (length xs) (is_in xs b) = count_shift (length xs) (is_in (x ∷ xs) b) in
    omega (arith, first, rest, shift)

-- distinct numbers that pass are no more than there are among them
count_inside : (size : ℕ) (q : ℕ → Bool) (xs : List ℕ) → IsDistinct nat_eq xs → ((n : ℕ) → q n ≡ true → n < size)
    → count_by q xs ≤ count_below size (λ n. has xs n && q n)
count_inside size q [] d below = omega arith
count_inside size q (x ∷ xs) d below =
    let first = count_one_more q x xs in
    let rest = count_inside size q xs (IsDistinct-tail nat_eq x xs d) below in
    elim (cases_Bool (q x)) [
      | inl on ↦ (
          let bit : bit_of (q x) ≡ 1 = ap bit_of on in
          let less = count_strict size (λ n. has xs n && q n) (λ n. has (x ∷ xs) n && q n) (λ k l e. wider k e) x (below x on) absent
          (and_from (has (x ∷ xs) x) (q x) (first_has x xs) on) in
          omega (arith, first, rest, bit, less))
      | inr off ↦ (
          let bit : bit_of (q x) ≡ 0 = ap bit_of off in
          let more = count_mono size (λ n. has xs n && q n) (λ n. has (x ∷ xs) n && q n) (λ k l e. wider k e) in
          omega (arith, first, rest, bit, more))
    ]
  where
    wider : (k : ℕ) → (has xs k && q k) ≡ true → (has (x ∷ xs) k && q k) ≡ true
    wider k e = (let f = and_parts (has xs k) (q k) e in and_from (has (x ∷ xs) k) (q k) (rest_has x k xs f.0) f.1)

    absent : (has xs x && q x) ≡ false
    absent = false_from_ne_true (has xs x && q x) (λ e. rest_apart x x xs d (and_parts (has xs x) (q x) e).0 refl)

none_below : (n : ℕ) (q : ℕ → Bool) → ((k : ℕ) → k < n → q k ≡ true → ⊥) → count_below n q ≡ 0
none_below zero q h = refl
none_below (suc n) q h =
    let here : bit_of (q n) ≡ 0 = ap bit_of (false_from_ne_true (q n) (h n (omega arith))) in
    let rest = none_below n q (λ k l. h k (omega (arith, l))) in
    omega (arith, here, rest)

fewer_by : (q r : ℕ → Bool) (xs : List ℕ) → ((n : ℕ) → q n ≡ true → r n ≡ true) → count_by q xs ≤ count_by r xs
fewer_by q r [] h = omega arith
fewer_by q r (x ∷ xs) h =
    let a = count_one_more q x xs in
    let b = count_one_more r x xs in
    let rest = fewer_by q r xs h in
    elim (cases_Bool (q x)) [
      | inl on ↦ (
          let here : bit_of (q x) ≡ 1 = ap bit_of on in
          let there : bit_of (r x) ≡ 1 = ap bit_of (h x on) in
          omega (arith, a, b, rest, here, there))
      | inr off ↦ (let here : bit_of (q x) ≡ 0 = ap bit_of off in omega (arith, a, b, rest, here))
    ]

-- without one number at most one fewer is counted
drop_one : (size : ℕ) (q : ℕ → Bool) (x : ℕ) → count_below size q ≤ bit_of (q x) + count_below size (but q x)
drop_one size q x = elim (cases_lt x size) [
  | inl below ↦ elim (cases_Bool (q x)) [
    | inl on ↦ (
        let out = sum_without size q (λ k. 1) x below on in
        let a = count_sum size q in
        let b = count_sum size (but q x) in
        let bit : bit_of (q x) ≡ 1 = ap bit_of on in
        omega (arith, out, a, b, bit))
    | inr off ↦ (let m = count_mono size q (but q x) (λ k l e. other k e (λ s. both_ways (q x) off (ap q (sym s) ∙ e))) in omega (arith, m))
  ]
  | inr past ↦ (let m = count_mono size q (but q x) (λ k l e. other k e (λ s. absurd (omega (arith, s, l, past)))) in omega (arith, m))
]
  where
    other : (k : ℕ) → q k ≡ true → (k ≡ x → ⊥) → but q x k ≡ true
    other k e ne = and_from (q k) (not (nat_eq k x)) e (not_from_false (nat_eq k x) (false_from_ne_true (nat_eq k x) (λ t. ne ((Decides-eqb k x).0 t))))

-- where the list has all numbers that pass, it has no fewer of them
count_cover : (size : ℕ) (q : ℕ → Bool) (xs : List ℕ) → ((n : ℕ) → n < size → q n ≡ true → has xs n ≡ true) → count_below size q ≤ count_by q xs
count_cover size q [] h = (let z = none_below size q (λ k l e. (let f = h k l e in absurd (cc))) in omega (arith, z))
count_cover size q (x ∷ xs) h =
    let less = drop_one size q x in
    let rest = count_cover size (but q x) xs (λ n l e.
    let f = and_parts (q n) (not (nat_eq n x)) e in
    elim (or_cases (nat_eq n x) (has xs n) (h n l f.0)) [
      | inl s ↦ absurd (clash (nat_eq n x) s f.1)
      | inr there ↦ there
    ]) in
    let most = fewer_by (but q x) q xs (λ n e. (and_parts (q n) (not (nat_eq n x)) e).0) in
    let first = count_one_more q x xs in
    omega (arith, less, rest, most, first)
  where
    clash : (t : Bool) → t ≡ true → not t ≡ true → ⊥
    clash true e f = absurd (cc)
    clash false e f = absurd (cc)

-- as many distinct nodes of a block as it has members are all of them
pub all_members : (p : List (Option ℕ)) (xs : List ℕ) (b : ℕ) → IsDistinct nat_eq xs → count_by (is_in p b) xs ≡ count_by (is_this b) p
    → (n : ℕ) → at p n ≡ Some b → IsTrue (has xs n)
all_members p xs b once same n e = elim (cases_Bool (has xs n)) [
  | inl on ↦ on
  | inr off ↦ absurd (
      let here : is_in p b n ≡ true = block_from b (at p n) e in
      let inside = count_inside (length p) (is_in p b) xs once below in
      let less = count_strict (length p) (λ k. has xs k && is_in p b k) (is_in p b) (λ k l t. (and_parts (has xs k) (is_in p b k) t).1) n (below n here)
      (false_from_ne_true (has xs n && is_in p b n) (λ t. both_ways (has xs n) off (and_parts (has xs n) (is_in p b n) t).0)) here in
      let members = count_members p b in
      omega (arith, inside, less, members, same))
]
  where
    below : (k : ℕ) → is_in p b k ≡ true → k < length p
    below k t = block_below p k (is_some_at (at p k) b (block_get b (at p k) t))

abbrev is_missing : List (Option ℕ) → List ℕ → ℕ → ℕ → Bool
is_missing p xs b n = is_in p b n && not (has xs n)

-- where there are fewer, a member is missing
pub one_missing : (p : List (Option ℕ)) (xs : List ℕ) (b : ℕ) → IsDistinct nat_eq xs → count_by (is_in p b) xs ≢ count_by (is_this b) p
    → (n : ℕ) × (at p n ≡ Some b) × IsFalse (has xs n)
one_missing p xs b once apart = elim (cases_Bool (any_below (length p) (is_missing p xs b))) [
  | inl on ↦ (
      let n = any_get (length p) (is_missing p xs b) on in
      let f = and_parts (is_in p b n.0) (not (has xs n.0)) n.2 in
      (n.0, block_get b (at p n.0) f.0, not_true (has xs n.0) f.1))
  | inr off ↦ absurd (
      let inside = count_inside (length p) (is_in p b) xs once below in
      let most = count_mono (length p) (λ k. has xs k && is_in p b k) (is_in p b) (λ k l t. (and_parts (has xs k) (is_in p b k) t).1) in
      let cover = count_cover (length p) (is_in p b) xs (λ k l t. listed k t (none_get (length p) (is_missing p xs b) off k l)) in
      let members = count_members p b in
      apart (omega (arith, inside, most, cover, members)))
]
  where
    below : (k : ℕ) → is_in p b k ≡ true → k < length p
    below k t = block_below p k (is_some_at (at p k) b (block_get b (at p k) t))

    not_true : (t : Bool) → not t ≡ true → t ≡ false
    not_true true e = absurd (cc)
    not_true false e = refl

    listed : (k : ℕ) → is_in p b k ≡ true → is_missing p xs b k ≡ false → has xs k ≡ true
    listed k t none = elim (cases_Bool (has xs k)) [
      | inl on ↦ on
      | inr off ↦ absurd (both_ways (is_missing p xs b k) none (and_from (is_in p b k) (not (has xs k)) t (not_from_false (has xs k) off)))
    ]

-- the same by the table
pub whole_counted : (p : List (Option ℕ)) (looked : List ℕ) (counts : List (ℕ × ℕ)) (own : ℕ) → AreCounted p looked counts → counted counts own ≡ count_by (is_this own) p
    → (n : ℕ) → at p n ≡ Some own → IsTrue (has looked n)
whole_counted p looked counts own c same = all_members p looked own c.once (sym (c.each own) ∙ same)

pub part_counted : (p : List (Option ℕ)) (looked : List ℕ) (counts : List (ℕ × ℕ)) (own : ℕ) → AreCounted p looked counts → counted counts own ≢ count_by (is_this own) p
    → (n : ℕ) × (at p n ≡ Some own) × IsFalse (has looked n)
part_counted p looked counts own c apart = one_missing p looked own c.once (λ e. apart (c.each own ∙ e))

one_number : (b : ℕ) → IsDistinct nat_eq (b ∷ [])
unfolding IsDistinct
one_number b = (tt, tt)

-- a node whose block has one member
pub only_member : (p : List (Option ℕ)) (t own : ℕ) → at p t ≡ Some own → count_by (is_this own) p ≡ 1 → (n : ℕ) → at p n ≡ Some own → IsTrue (has (t ∷ []) n)
only_member p t own found one =
    let here : bit_of (is_in p own t) ≡ 1 = ap bit_of (block_from own (at p t) found) in
    let first = count_one_more (is_in p own) t [] in
    all_members p (t ∷ []) own (one_number t) (omega (arith, here, first, one))

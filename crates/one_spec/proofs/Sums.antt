-- Sums over lists of distinct numbers, and over all numbers below a bound that pass a test.
use Rattle.std.proofs.Common.{◌≡◌, ◌≢◌, ℕ, zero, suc, ◌+◌, ◌*◌, ◌<◌, ◌≤◌, List, [], ◌∷◌, Option, Some, length, refl, sym, ◌∙◌, ap, arith, inl, inr, true, false, Bool, cond, take, get_or}
use Rattle.std.specs.Prelude.{nat_eq, not, ◌&&◌}
use Rattle.std.specs.List.{sum_by, IsDistinct, AllByRecursion}
use Rattle.std.proofs.lemmas.Bool.{cases_lt, and_parts, and_from, both_ways, not_from_false, or_left, or_right, false_from_ne_true}
use Rattle.std.proofs.lemmas.Bool.Decides.{eqb_tells, Decides-eqb}
use Rattle.std.proofs.lemmas.List.{take_more}
use Rattle.std.proofs.lemmas.List.Sums.{sum_by-cons, sum_by_push, sum_by-take-le}
use Rattle.std.proofs.lemmas.Map.Keys.{IsDistinct-head, IsDistinct-tail}
use Rattle.graph_spec.specs.Members.{has, Lists, at, is_this}
use Rattle.bisim_spec.specs.Below.{count_below}
use Rattle.bisim_spec.proofs.BelowLaws.{count_strict, bit_of}
use Rattle.bisim_spec.proofs.Moves.{block_get, block_from}
use Rattle.bisim_spec.specs.Below.{sum_below}

-- the value where the number passes
abbrev pub where_in : (ℕ → Bool) → (ℕ → ℕ) → ℕ → ℕ
where_in p f n = cond (p n) (f n) 0

abbrev pub but : (ℕ → Bool) → ℕ → ℕ → Bool
but p x n = p n && not (nat_eq n x)

and_one : (a : Bool) → (a && true) ≡ a
and_one true = refl
and_one false = refl

and_none : (a : Bool) → (a && false) ≡ false
and_none true = refl
and_none false = refl

but_other : (p : ℕ → Bool) (x n : ℕ) → n ≢ x → but p x n ≡ p n
but_other p x n other = elim (eqb_tells n x) [
  | inl same ↦ absurd (other same.1)
  | inr apart ↦ ap (λ b. p n && not b) apart.0 ∙ and_one (p n)
]

but_same : (p : ℕ → Bool) (x n : ℕ) → n ≡ x → but p x n ≡ false
but_same p x n e = elim (eqb_tells n x) [
  | inl same ↦ ap (λ b. p n && not b) same.0 ∙ and_none (p n)
  | inr apart ↦ absurd (apart.1 e)
]

sum_alike : (n : ℕ) (f g : ℕ → ℕ) → ((k : ℕ) → k < n → f k ≡ g k) → sum_below n f ≡ sum_below n g
sum_alike zero f g h = refl
sum_alike (suc n) f g h =
    let a = h n (omega arith) in
    let b = sum_alike n f g (λ k l. h k (omega (arith, l))) in
    omega (arith, a, b)

-- a number that passes gives its value once
pub sum_without : (n : ℕ) (p : ℕ → Bool) (f : ℕ → ℕ) (x : ℕ) → x < n → p x ≡ true
    → sum_below n (where_in p f) ≡ f x + sum_below n (where_in (but p x) f)
sum_without zero p f x l h = absurd (omega (arith, l))
sum_without (suc n) p f x l h = elim (cases_lt x n) [
  | inl below ↦ (
      let rest = sum_without n p f x below h in
      let here : where_in (but p x) f n ≡ where_in p f n = ap (λ b. cond b (f n) 0) (but_other p x n (λ e. absurd (omega (arith, e, below)))) in
      omega (arith, rest, here))
  | inr past ↦ (
      let e : n ≡ x = omega (arith, l, past) in
      let gone : where_in (but p x) f n ≡ 0 = ap (λ b. cond b (f n) 0) (but_same p x n e) in
      let here : where_in p f n ≡ f x = ap (λ b. cond b (f n) 0) (ap p e ∙ h) ∙ ap f e in
      let rest = sum_alike n (where_in p f) (where_in (but p x) f) (λ k u. ap (λ b. cond b (f k) 0) (sym (but_other p x k (λ d. absurd (omega (arith, d, u, e)))))) in
      omega (arith, gone, here, rest))
]

absent : (x : ℕ) (xs : List ℕ) → AllByRecursion (λ y. nat_eq x y ≡ false) xs → has xs x ≡ false
absent x [] h = refl
absent x (y ∷ ys) h = rw h.0 (absent x ys h.1)

-- one of the rest is another than the first
pub rest_apart : (x n : ℕ) (xs : List ℕ) → IsDistinct nat_eq (x ∷ xs) → has xs n ≡ true → n ≢ x
rest_apart x n xs d h e = both_ways (has xs x) (absent x xs (IsDistinct-head nat_eq x xs d)) (ap (has xs) (sym e) ∙ h)

pub first_has : (x : ℕ) (xs : List ℕ) → has (x ∷ xs) x ≡ true
first_has x xs = or_left (nat_eq x x) (has xs x) ((Decides-eqb x x).1 refl)

pub rest_has : (x n : ℕ) (xs : List ℕ) → has xs n ≡ true → has (x ∷ xs) n ≡ true
rest_has x n xs h = or_right (nat_eq n x) (has xs n) h

-- over distinct numbers that pass
pub sum_listed : (size : ℕ) (p : ℕ → Bool) (f : ℕ → ℕ) (xs : List ℕ) → IsDistinct nat_eq xs
    → ((n : ℕ) → has xs n ≡ true → (n < size) × (p n ≡ true)) → sum_by f xs ≤ sum_below size (where_in p f)
sum_listed size p f [] d h = omega arith
sum_listed size p f (x ∷ xs) d h =
    let here = h x (first_has x xs) in
    let out = sum_without size p f x here.0 here.1 in
    let rest = sum_listed size (but p x) f xs (IsDistinct-tail nat_eq x xs d) (λ n k.
    let m = h n (rest_has x n xs k) in
    (m.0, but_other p x n (rest_apart x n xs d k) ∙ m.1)) in
    let parts = sum_by-cons f x xs in
    omega (arith, out, rest, parts)

ones : (xs : List ℕ) → sum_by (λ n. 1) xs ≡ length xs
ones [] = refl
ones (x ∷ xs) = (let r = ones xs in let p = sum_by-cons (λ (n : ℕ). 1) x xs in omega (arith, r, p))

pub count_sum : (n : ℕ) (p : ℕ → Bool) → count_below n p ≡ sum_below n (where_in p (λ k. 1))
count_sum zero p = refl
count_sum (suc n) p = (let r = count_sum n p in omega (arith, r))

-- a list of distinct numbers that pass is no longer than there are such
pub few_listed : (size : ℕ) (p : ℕ → Bool) (xs : List ℕ) → IsDistinct nat_eq xs → ((n : ℕ) → has xs n ≡ true → (n < size) × (p n ≡ true))
    → length xs ≤ count_below size p
few_listed size p xs d h =
    let a = sum_listed size p (λ n. 1) xs d h in
    let b = ones xs in
    let c = count_sum size p in
    omega (arith, a, b, c)

pub few_lists : (size : ℕ) (p : ℕ → Bool) (xs : List ℕ) → Lists p xs → ((n : ℕ) → p n ≡ true → n < size) → length xs ≤ count_below size p
few_lists size p xs l below = few_listed size p xs l.once (λ n h. let e = sym (l.members n) ∙ h in (below n e, e))

-- distinct blocks, each with a member that passes, are no more than there are such nodes
pub blocks_few : (size : ℕ) (block : List (Option ℕ)) (new_blocks : List ℕ) (p : ℕ → Bool) → IsDistinct nat_eq new_blocks
    → ((b : ℕ) → has new_blocks b ≡ true → (n : ℕ) × (n < size) × (p n ≡ true) × (at block n ≡ Some b)) → length new_blocks ≤ count_below size p
blocks_few size block [] p d h = omega arith
blocks_few size block (b ∷ bs) p d h =
    let x = h b (first_has b bs) in
    let q : ℕ → Bool = λ n. p n && not (is_this b (at block n)) in
    let rest = blocks_few size block bs q (IsDistinct-tail nat_eq b bs d) (λ c k.
    let y = h c (rest_has b c bs k) in
    let other = rest_apart b c bs d k in (
      y.0,
      y.1,
      and_from (p y.0) (not (is_this b (at block y.0))) y.2
          (not_from_false (is_this b (at block y.0)) (false_from_ne_true (is_this b (at block y.0)) (λ t.
          let f = block_get b (at block y.0) t in let g = y.3 in other (let z : c ≡ b = cc in z)))),
      y.3,
    )) in
    let off : q x.0 ≡ false = ap (λ t. p x.0 && not t) (block_from b (at block x.0) x.3) ∙ and_none (p x.0) in
    let less = count_strict size q p (λ k l e. (and_parts (p k) (not (is_this b (at block k))) e).0) x.0 x.1 off x.2 in
    omega (arith, rest, less)

-- each of two sums is added up
pub sum_plus : (n : ℕ) (f g : ℕ → ℕ) → sum_below n (λ k. f k + g k) ≡ sum_below n f + sum_below n g
sum_plus zero f g = refl
sum_plus (suc n) f g = (let r = sum_plus n f g in omega (arith, r))

pub sum_most : (n : ℕ) (f g : ℕ → ℕ) → ((k : ℕ) → k < n → f k ≤ g k) → sum_below n f ≤ sum_below n g
sum_most zero f g h = omega arith
sum_most (suc n) f g h =
    let a = h n (omega arith) in
    let b = sum_most n f g (λ k l. h k (omega (arith, l))) in
    omega (arith, a, b)

-- a number is met once
once_before : (n v : ℕ) → n ≤ v → sum_below n (λ k. cond (nat_eq k v) 1 0) ≡ 0
once_before zero v h = refl
once_before (suc n) v h = elim (eqb_tells n v) [
  | inl s ↦ absurd (let e = s.1 in omega (arith, h, e))
  | inr d ↦ (
      let rest = once_before n v (omega (arith, h)) in
      let here : bit_of (nat_eq n v) ≡ 0 = ap bit_of d.0 in
      omega (arith, rest, here))
]

pub once_most : (n v : ℕ) → sum_below n (λ k. cond (nat_eq k v) 1 0) ≤ 1
once_most zero v = omega arith
once_most (suc n) v = elim (eqb_tells n v) [
  | inl s ↦ (
      let e = s.1 in
      let rest = once_before n v (omega (arith, e)) in
      let here : bit_of (nat_eq n v) ≡ 1 = ap bit_of s.0 in
      omega (arith, rest, here))
  | inr d ↦ (
      let rest = once_most n v in
      let here : bit_of (nat_eq n v) ≡ 0 = ap bit_of d.0 in
      omega (arith, rest, here))
]

pub zeros : (n : ℕ) → sum_below n (λ k. 0) ≡ 0
zeros zero = refl
zeros (suc n) = (let r = zeros n in omega (arith, r))

-- three times one sum, and two others
pub sum_three : (n : ℕ) (f g h i : ℕ → ℕ) → ((k : ℕ) → f k ≤ 3 * g k + 2 * h k + i k) → sum_below n f ≤ 3 * sum_below n g + 2 * sum_below n h + sum_below n i
sum_three zero f g h i e = omega arith
sum_three (suc n) f g h i e = (let a = e n in let r = sum_three n f g h i e in omega (arith, a, r))

-- one more element of a list
pub sum_next : (f : ℕ → ℕ) (xs : List ℕ) (i d : ℕ) → i < length xs → sum_by f (take (i + 1) xs) ≡ sum_by f (take i xs) + f (get_or xs i d)
sum_next f xs i d h = ap (sum_by f) (take_more xs i d h) ∙ sum_by_push f (take i xs) (get_or xs i d)

-- the first elements are at most all
pub sum_first : (f : ℕ → ℕ) (xs : List ℕ) (i d : ℕ) → i < length xs → sum_by f (take i xs) + f (get_or xs i d) ≤ sum_by f xs
sum_first f xs i d h =
    let a = sum_next f xs i d h in
    let b = sum_by-take-le f xs (i + 1) in
    omega (arith, a, b)

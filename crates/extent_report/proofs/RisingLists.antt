-- Lists that rise, and what is written for their numbers.
use Rattle.std.proofs.Common.{◌≡◌, ℕ, ◌+◌, ◌<◌, ◌≤◌, ◌⊎◌, List, [], ◌∷◌, ◌++◌, length, take, get_or, refl, sym, ◌∙◌, ap, subst, arith, inl, inr, true, false, Bool, ◌||◌, true≢false, append-nil, append_assoc}
use Rattle.std.specs.Prelude.{nat_eq}
use Rattle.std.specs.Ordering.{nat_cmp}
use Rattle.std.specs.Cmp.{ranked}
use Rattle.std.specs.List.{flat_map, AllByRecursion}
use Rattle.std.specs.List.Sorted.{IsStrictlySortedBy, IsStrictlyIncreasing}
use Rattle.std.specs.declared.cmp.Ordering.TheVariants.{Less}
use Rattle.std.proofs.lemmas.Bool.{or_cases, or_left, or_right, cases_Bool}
use Rattle.std.proofs.lemmas.Bool.Decides.{Decides-eqb}
use Rattle.std.proofs.lemmas.List.{take_more}
use Rattle.std.proofs.lemmas.Grind.{flat_map-append}
use Rattle.std.proofs.lemmas.Map.Keys.{sorted_from_strictly_increasing}
use Rattle.graph_spec.specs.Members.{has}
use Rattle.graph_spec.proofs.MemberLaws.{or_false, has_cases, has_head, has_tail}
use Rattle.bisim_spec.proofs.RisingLists.{below_rest}
use Rattle.bisim_spec.specs.Below.{count_below}
use Rattle.bisim_spec.proofs.BelowLaws.{bit_of}
use Rattle.extent_report.specs.ListedBlocks.{texts_below}
use Rattle.extent_report.proofs.NumberedTexts.{texts_past, texts_more, count_past, count_more}

-- a number that goes from one list to another
pub moved_over : (e r s t : Bool) → ((e || r) || s) ≡ t → (r || (s || e)) ≡ t
moved_over true true s t h = h
moved_over true false true t h = h
moved_over true false false t h = h
moved_over false true s t h = h
moved_over false false s t h = or_false s ∙ h

-- no number of the list is below its first
none_below : (x : ℕ) (xs : List ℕ) (k : ℕ) → AllByRecursion (λ y. nat_cmp x y ≡ Less) xs → k < x → has (x ∷ xs) k ≡ false
none_below x xs k a l = elim (cases_Bool (has (x ∷ xs) k)) [
  | inl on ↦ elim (has_cases x xs k on) [
    | inl same ↦ absurd (omega (arith, l, same))
    | inr later ↦ absurd (let above = below_rest x xs k a later in omega (arith, l, above))
  ]
  | inr off ↦ off
]

pub none_before : (x : ℕ) (xs : List ℕ) (k : ℕ) → IsStrictlyIncreasing (x ∷ xs) → k < x → has (x ∷ xs) k ≡ false
unfolding IsStrictlySortedBy
none_before x xs k r l = none_below x xs k (sorted_from_strictly_increasing (x ∷ xs) r).0 l

not_head : (x : ℕ) (xs : List ℕ) (k : ℕ) → x < k → has xs k ≡ false → has (x ∷ xs) k ≡ false
not_head x xs k l off = elim (cases_Bool (has (x ∷ xs) k)) [
  | inl on ↦ elim (has_cases x xs k on) [
    | inl same ↦ absurd (omega (arith, l, same))
    | inr later ↦ absurd (true≢false (sym later ∙ off))
  ]
  | inr none ↦ none
]

-- what is written for the numbers from one on, if nothing is for those that aren't in the list
texts_on : (f : ℕ → List ℕ) (n : ℕ) (xs : List ℕ) (from : ℕ) → IsStrictlySortedBy nat_cmp xs → from ≤ n → ((k : ℕ) → has xs k ≡ true → (from ≤ k) × (k < n))
    → ((k : ℕ) → from ≤ k → has xs k ≡ false → f k ≡ []) → texts_below n f ≡ texts_below from f ++ flat_map f xs
unfolding IsStrictlySortedBy
texts_on f n [] from r l within none = texts_past from n f l (λ k a b. none k a refl) ∙ sym (append-nil (texts_below from f))
texts_on f n (x ∷ xs) from r l within none =
    let here = within x (has_head x xs) in
    let low = here.0 in
    let high = here.1 in
    let rest = texts_on f n xs (x + 1) r.1 (omega (arith, high))
    (λ k h. ((let above = below_rest x xs k r.0 h in omega (arith, above)), (within k (has_tail x xs k h)).1))
    (λ k a off. none k (omega (arith, a, low)) (not_head x xs k (omega (arith, a)) off)) in
    let before = texts_past from x f low (λ k a b. none k a (none_below x xs k r.0 b)) in
    rest
    ∙ ap (λ t. t ++ flat_map f xs) (texts_more x f ∙ ap (λ t. t ++ f x) before)
    ∙ append_assoc (texts_below from f) (f x) (flat_map f xs)

pub texts_listed : (f : ℕ → List ℕ) (n : ℕ) (xs : List ℕ) → IsStrictlyIncreasing xs → ((k : ℕ) → has xs k ≡ true → k < n) → ((k : ℕ) → has xs k ≡ false → f k ≡ [])
    → texts_below n f ≡ flat_map f xs
texts_listed f n xs r within none = texts_on f n xs 0 (sorted_from_strictly_increasing xs r) (omega arith) (λ k h. (omega arith, within k h)) (λ k a off. none k off)

-- the same of counts
count_on : (p : ℕ → Bool) (n : ℕ) (xs : List ℕ) (from : ℕ) → IsStrictlySortedBy nat_cmp xs → from ≤ n → ((k : ℕ) → has xs k ≡ true → (from ≤ k) × (k < n))
    → ((k : ℕ) → from ≤ k → has xs k ≡ p k) → count_below n p ≡ count_below from p + length xs
unfolding IsStrictlySortedBy
count_on p n [] from r l within same = let e = count_past from n p l (λ k a b. sym (same k a)) in omega (arith, e)
count_on p n (x ∷ xs) from r l within same =
    let here = within x (has_head x xs) in
    let low = here.0 in
    let high = here.1 in
    let rest = count_on p n xs (x + 1) r.1 (omega (arith, high))
    (λ k h. ((let above = below_rest x xs k r.0 h in omega (arith, above)), (within k (has_tail x xs k h)).1))
    (λ k a. sym (ap (λ b. b || has xs k) (apart k a)) ∙ same k (omega (arith, a, low))) in
    let before = count_past from x p low (λ k a b. sym (same k a) ∙ none_below x xs k r.0 b) in
    let one : bit_of (p x) ≡ 1 = ap bit_of (sym (same x low) ∙ has_head x xs) in
    let more = count_more x p in
    omega (arith, rest, before, one, more)
  where
    apart : (k : ℕ) → x + 1 ≤ k → nat_eq k x ≡ false
    apart k a = elim (cases_Bool (nat_eq k x)) [
      | inl on ↦ absurd (let e = (Decides-eqb k x).0 on in omega (arith, a, e))
      | inr off ↦ off
    ]

pub count_listed : (p : ℕ → Bool) (n : ℕ) (xs : List ℕ) → IsStrictlyIncreasing xs → ((k : ℕ) → has xs k ≡ true → k < n) → ((k : ℕ) → has xs k ≡ p k) → count_below n p ≡ length xs
count_listed p n xs r within same =
    let e : count_below n p ≡ count_below 0 p + length xs = count_on p n xs 0 (sorted_from_strictly_increasing xs r) (omega arith) (λ k h. (omega arith, within k h)) (λ k a. same k) in
    omega (arith, e)

-- two texts of each number of a list
pub flat_same : (f g : ℕ → List ℕ) (xs : List ℕ) → ((k : ℕ) → has xs k ≡ true → f k ≡ g k) → flat_map f xs ≡ flat_map g xs
flat_same f g [] h = refl
flat_same f g (x ∷ xs) h = ap (λ t. t ++ flat_map f xs) (h x (has_head x xs)) ∙ ap (λ t. g x ++ t) (flat_same f g xs (λ k m. h k (has_tail x xs k m)))

-- one more number's text
pub flat_more : (f : ℕ → List ℕ) (xs text before now : List ℕ) (i d : ℕ) → i < length xs → before ≡ text ++ flat_map f (take i xs) → now ≡ before ++ f (get_or xs i d)
    → now ≡ text ++ flat_map f (take (i + 1) xs)
flat_more f xs text before now i d within e added =
    let more : flat_map f (take (i + 1) xs) ≡ flat_map f (take i xs) ++ f (get_or xs i d) =
    ap (flat_map f) (take_more xs i d within) ∙ flat_map-append f (take i xs) (get_or xs i d ∷ [])
    ∙ ap (λ t. flat_map f (take i xs) ++ t) (append-nil (f (get_or xs i d)))
    in
    added ∙ ap (λ t. t ++ f (get_or xs i d)) e ∙ append_assoc text (flat_map f (take i xs)) (f (get_or xs i d)) ∙ ap (λ t. text ++ t) (sym more)

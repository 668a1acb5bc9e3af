-- A block of one member.
use Rattle.std.proofs.Common.{◌≡◌, ℕ, zero, suc, ◌+◌, ◌≤◌, List, [], ◌∷◌, Option, Some, None, refl, sym, ◌∙◌, ap, arith, inl, inr, true, false, Bool, cond, count_by, true≢false}
use Rattle.std.specs.Prelude.{◌||◌, ◌&&◌, nat_eq}
use Rattle.std.proofs.lemmas.Bool.Decides.{eqb_tells, Decides-eqb}
use Rattle.std.proofs.lemmas.List.Sums.{sum_by-cons}
use Rattle.block_partition.specs.LabelledPartitions.{Partition, member_count}
use Rattle.graph_spec.specs.Members.{at, is_this}
use Rattle.coarsest_partition.specs.SingletonBlocks.{has_one, is_alone}
use Rattle.coarsest_partition.proofs.RoundLaws.{AreAlone}

abbrev bit : Bool → ℕ
bit b = cond b 1 0

count_cons : (p : Option ℕ → Bool) (x : Option ℕ) (xs : List (Option ℕ)) → count_by p (x ∷ xs) ≡ bit (p x) + count_by p xs
count_cons p x xs = sum_by-cons (λ (o : Option ℕ). cond (p o) 1 0) x xs

count_one : (p : Option ℕ → Bool) (xs : List (Option ℕ)) (i : ℕ) → p None ≡ false → p (at xs i) ≡ true → 1 ≤ count_by p xs
count_one p [] i none h = absurd (true≢false (sym h ∙ none))
count_one p (x ∷ xs) zero none h = let c = count_cons p x xs in let b : bit (p x) ≡ 1 = ap bit h in omega (arith, c, b)
count_one p (x ∷ xs) (suc i) none h = let c = count_cons p x xs in let r = count_one p xs i none h in omega (arith, c, r)

count_two : (p : Option ℕ → Bool) (xs : List (Option ℕ)) (i j : ℕ) → p None ≡ false → (i ≡ j → ⊥) → p (at xs i) ≡ true → p (at xs j) ≡ true → 2 ≤ count_by p xs
count_two p [] i j none apart h k = absurd (true≢false (sym h ∙ none))
count_two p (x ∷ xs) zero zero none apart h k = absurd (apart refl)
count_two p (x ∷ xs) zero (suc j) none apart h k =
    let c = count_cons p x xs in
    let b : bit (p x) ≡ 1 = ap bit h in
    let r = count_one p xs j none k in
    omega (arith, c, b, r)
count_two p (x ∷ xs) (suc i) zero none apart h k =
    let c = count_cons p x xs in
    let b : bit (p x) ≡ 1 = ap bit k in
    let r = count_one p xs i none h in
    omega (arith, c, b, r)
count_two p (x ∷ xs) (suc i) (suc j) none apart h k =
    let c = count_cons p x xs in
    let r = count_two p xs i j none (λ e. apart (ap suc e)) h k in
    omega (arith, c, r)

this_here : (b : ℕ) → is_this b (Some b) ≡ true
this_here b = elim (eqb_tells b b) [ inl s ↦ s.0 | inr d ↦ absurd (d.1 refl) ]

pub alone_are : (p : Partition) → AreAlone p.block_of (is_alone p)
alone_are p = record {
  each = λ n v h t. elim (eqb_tells n v) [
    | inl s ↦ s.1
    | inr d ↦ absurd (
        let one : nat_eq (member_count p t.0) 1 ≡ true = ap (has_one p) (sym t.1) ∙ h in
        let count = (Decides-eqb (member_count p t.0) 1).0 one in
        let more = count_two (is_this t.0) p.block_of n v refl d.1 (ap (is_this t.0) t.1 ∙ this_here t.0) (ap (is_this t.0) t.2 ∙ this_here t.0) in
        omega (arith, count, more))
  ];
}

-- one more list of nodes becomes active
pub activates_more : (a x n p : Bool) → ((a || (x && n)) || (p && n)) ≡ (a || ((x || p) && n))
activates_more true x n p = refl
activates_more false true true p = refl
activates_more false true false true = refl
activates_more false true false false = refl
activates_more false false n p = refl

pub activates_step : (a x n p next mid y : Bool) → next ≡ (mid || (p && n)) → mid ≡ (a || (x && n)) → y ≡ (x || p) → next ≡ (a || (y && n))
activates_step a x n p next mid y e f h = e ∙ ap (λ b. b || (p && n)) f ∙ activates_more a x n p ∙ ap (λ b. a || (b && n)) (sym h)

-- The children of nodes that were met are met.
use Rattle.std.proofs.Common.{◌≡◌, ℕ, zero, suc, ◌+◌, ◌<◌, ◌≤◌, List, [], ◌∷◌, ◌++◌, length, refl, sym, ◌∙◌, ap, subst, arith, inl, inr, true, false, Bool, ◌||◌, true≢false, cond, append_assoc, append-nil, take}
use Rattle.std.specs.Prelude.{nat_eq, slice_index}
use Rattle.std.specs.Cmp.{both_ways}
use Rattle.std.proofs.lemmas.Bool.{or_cases, or_left, or_right, cases_lt}
use Rattle.std.proofs.lemmas.Bool.Decides.{eqb_tells}
use Rattle.std.proofs.lemmas.List.{get_or_append_left, length-append, take-append-le, take_all}
use Rattle.graph_spec.specs.Members.{has}
use Rattle.graph_spec.specs.Shapes.{Shape, IsShape}
use Rattle.bisim_spec.specs.Reach.{within_distance}
use Rattle.bisim_spec.proofs.Reached.{within_next, within_step, within_cases}
use Rattle.affected_nodes.specs.AffectedSearches.{IsSpread}

-- one more number, if it isn't there yet
pub prefix_if : (keys new : List ℕ) (n : ℕ) (b : Bool) → new ≡ cond b keys (keys ++ n ∷ []) → (rest : List ℕ) × (new ≡ keys ++ rest)
prefix_if keys new n true e = ([], e ∙ sym (append-nil keys))
prefix_if keys new n false e = (n ∷ [], e)

pub prefix_more : (keys mid new : List ℕ) → (rest : List ℕ) × (mid ≡ keys ++ rest) → (rest : List ℕ) × (new ≡ mid ++ rest) → (rest : List ℕ) × (new ≡ keys ++ rest)
prefix_more keys mid new a b = (a.0 ++ b.0, b.1 ∙ ap (λ ys. ys ++ b.0) a.1 ∙ append_assoc keys a.0 b.0)

-- what stood in a list stands there when more is put behind it
pub has_prefix : (xs ys : List ℕ) (n : ℕ) → has xs n ≡ true → has (xs ++ ys) n ≡ true
has_prefix [] ys n h = absurd (true≢false (sym h))
has_prefix (x ∷ xs) ys n h = elim (or_cases (nat_eq n x) (has xs n) h) [
  | inl e ↦ or_left (nat_eq n x) (has (xs ++ ys) n) e
  | inr r ↦ or_right (nat_eq n x) (has (xs ++ ys) n) (has_prefix xs ys n r)
]

-- what stands in a list has a place
pub place_in : (xs : List ℕ) (n : ℕ) → has xs n ≡ true → (j : ℕ) × (j < length xs) × (slice_index xs j ≡ n)
place_in [] n h = absurd (true≢false (sym h))
place_in (x ∷ xs) n h = elim (eqb_tells n x) [
  | inl s ↦ (0, omega arith, sym s.1)
  | inr d ↦ (
      let there : has xs n ≡ true = rw d.0 at h in
      let r = place_in xs n there in
      (suc r.0, (let l = r.1 in omega arith), r.2))
]

pub has_place : (xs : List ℕ) (i : ℕ) → i < length xs → has xs (slice_index xs i) ≡ true
has_place [] i h = absurd (omega (arith, h))
has_place (x ∷ xs) zero h = elim (eqb_tells x x) [ inl s ↦ rw s.0 refl | inr d ↦ absurd (d.1 refl) ]
has_place (x ∷ xs) (suc i) h = or_right (nat_eq (slice_index xs i) x) (has xs (slice_index xs i)) (has_place xs i (omega (arith, h)))

-- what is met among children, and then among parents
pub met_both : (before mid now : Bool) (a b : Bool) → mid ≡ (before || a) → now ≡ (mid || b) → now ≡ (before || (a || b))
met_both before mid now a b first second = second ∙ ap (λ t. t || b) first ∙ three before a b
  where
    three : (x y z : Bool) → ((x || y) || z) ≡ (x || (y || z))
    three true y z = refl
    three false y z = refl

-- the children of one more node
pub spread_more : (s : Shape) (nodes met met2 : List ℕ) (i x : ℕ) → IsSpread s nodes i met → slice_index nodes i ≡ x → (rest : List ℕ) × (met2 ≡ met ++ rest)
    → ((c : ℕ) → has met2 c ≡ (has met c || s.edge x c)) → IsSpread s nodes (i + 1) met2
spread_more s nodes met met2 i x p is more there = record {
  prefix = (p.prefix.0 ++ more.0, more.1 ∙ ap (λ ys. ys ++ more.0) p.prefix.1 ∙ append_assoc nodes p.prefix.0 more.0);
  into = λ j n l e. elim (cases_lt j i) [
    | inl below ↦ there n ∙ or_left (has met n) (s.edge x n) (p.into j n below e)
    | inr past ↦ (
        let same : j ≡ i = omega (arith, l, past) in
        let e2 : s.edge x n ≡ true = subst (λ m. s.edge m n ≡ true) (ap (slice_index nodes) same ∙ is) e in
        there n ∙ or_right (has met n) (s.edge x n) e2)
  ];
  only = λ n h. elim (or_cases (has met n) (s.edge x n) (sym (there n) ∙ h)) [
    | inl before ↦ elim (p.only n before) [
      | inl first ↦ inl first
      | inr (j, l, e) ↦ inr (j, omega (arith, l), e)
    ]
    | inr e ↦ inr (i, omega arith, subst (λ m. s.edge m n ≡ true) (sym is) e)
  ];
}

-- the number that stands at a place stays there when more is put behind
pub stays_at : (nodes met : List ℕ) (j : ℕ) → (rest : List ℕ) × (met ≡ nodes ++ rest) → j < length nodes → slice_index met j ≡ slice_index nodes j
stays_at nodes met j prefix l = ap (λ xs. slice_index xs j) prefix.1 ∙ get_or_append_left nodes prefix.0 0 j l

-- what was spread is where the next round begins
pub spread_on : (s : Shape) (nodes met : List ℕ) → IsSpread s nodes (length nodes) met → IsSpread s met (length nodes) met
spread_on s nodes met p = record {
  prefix = ([], sym (append-nil met));
  into = λ j n l e. p.into j n l (subst (λ m. s.edge m n ≡ true) (stays_at nodes met j p.prefix l) e);
  only = λ n h. inl h;
}

-- nodes within a distance, with their children, are those within one edge more
pub spread_within : (s : Shape) (from : ℕ → Bool) (i : ℕ) (nodes met : List ℕ) → IsShape s → ((n : ℕ) → has nodes n ≡ within_distance s from i n) → IsSpread s nodes (length nodes) met
    → (n : ℕ) → has met n ≡ within_distance s from (suc i) n
spread_within s from i nodes met shape is p n =
    both_ways (has met n) (within_distance s from (suc i) n)
    (λ h. elim (p.only n h) [
      | inl first ↦ within_next s from i n (sym (is n) ∙ first)
      | inr (j, l, e) ↦ within_step s shape from i (slice_index nodes j) n (sym (is (slice_index nodes j)) ∙ has_place nodes j l) e
    ])
    (λ h. elim (within_cases s from i n h) [
      | inl before ↦ subst (λ xs. has xs n ≡ true) (sym p.prefix.1) (has_prefix nodes p.prefix.0 n (is n ∙ before))
      | inr (q, within_q, e) ↦ (
          let j = place_in nodes q (is q ∙ within_q) in
          p.into j.0 n j.1 (subst (λ m. s.edge m n ≡ true) (sym j.2) e))
    ])

pub spread_longer : (s : Shape) (nodes met : List ℕ) (i : ℕ) → IsSpread s nodes i met → length nodes ≤ length met
spread_longer s nodes met i p =
    let same = ap length p.prefix.1 in
    let parts = length-append nodes p.prefix.0 in
    omega (arith, same, parts)

-- the nodes that were met before are the first
pub first_again : (nodes met : List ℕ) (end : ℕ) → (rest : List ℕ) × (met ≡ nodes ++ rest) → end ≡ length nodes → take end met ≡ nodes
first_again nodes met end prefix e =
    ap (λ m. take m met) e ∙ ap (take (length nodes)) prefix.1 ∙ take-append-le (length nodes) nodes prefix.0 (omega arith) ∙ take_all (length nodes) nodes (omega arith)

-- Sets of edges: what a test keeps of them, and how many there are.
use Rattle.std.proofs.Common.{◌≡◌, ℕ, zero, suc, ◌+◌, ◌-◌, ◌<◌, ◌≤◌, List, [], ◌∷◌, refl, sym, ◌∙◌, ap, arith, inl, inr, true, false, Bool, cond, ◌&&◌, count_by}
use Rattle.std.specs.Prelude.{nat_eq, ◌||◌, not}
use Rattle.std.specs.List.{IsDistinct, AllByRecursion, list_any}
use Rattle.std.specs.Ordering.{eq_by_cmp}
use Rattle.std.specs.Cmp.{eq_by_cmp_equiv}
use Rattle.std.specs.FinSet as set
use Rattle.std.proofs.Math.Bool.{and-false, or-true}
use Rattle.std.proofs.lemmas.Bool.{cases_Bool, and_parts, and_from}
use Rattle.std.proofs.lemmas.Bool.Decides.{eqb_tells, Decides-eqb}
use Rattle.std.proofs.lemmas.List.Sums.{sum_by-cons}
use Rattle.std.proofs.lemmas.Map.Keys.{IsDistinct-head, IsDistinct-tail}
use Rattle.graph_spec.specs.Graphs.{Edges, edge_cmp}
use Rattle.graph_spec.proofs.EdgeOrder.{edge_cmp_total, edge_cmp-IsAntisymmetric, eq_pair}
use Rattle.bisim_spec.proofs.BelowLaws.{bit_of}

abbrev pub eq : ℕ × ℕ → ℕ × ℕ → Bool
eq = eq_by_cmp edge_cmp

pub eq_is : (x y : ℕ × ℕ) → eq x y ≡ true → x ≡ y
eq_is (u, v) (a, b) h =
    let both = and_parts (nat_eq u a) (nat_eq v b) (sym (eq_pair u v a b) ∙ h) in
    λ i. ((Decides-eqb u a).0 both.0 i, (Decides-eqb v b).0 both.1 i)

pub eq_self : (x : ℕ × ℕ) → eq x x ≡ true
eq_self x = (eq_by_cmp_equiv edge_cmp_total).refl x

-- the members that a test keeps
pub kept : (s : Edges) (p : ℕ × ℕ → Bool) (k : ℕ × ℕ) → set.contains (set.retain s p) k ≡ (set.contains s k && p k)
kept s p k = set.contains-retain s p k (λ x e. ap p (sym (edge_cmp-IsAntisymmetric k x e)))

-- sets with the same members are as long
pub same_len : (s t : Edges) → ((k : ℕ × ℕ) → set.contains s k ≡ set.contains t k) → set.len s ≡ set.len t
same_len s t e = ap set.len (set.same_set edge_cmp_total edge_cmp-IsAntisymmetric s t e)

-- a set with a member isn't empty
pub some_len : (s : Edges) (k : ℕ × ℕ) → set.contains s k ≡ true → 0 < set.len s
some_len s k e = elim (eqb_tells (set.len s) 0) [
  | inl z ↦ absurd (let none = ap (λ (t : Edges). set.contains t k) (set.empty_of_len s z.1) ∙ set.contains-empty edge_cmp k in cc)
  | inr d ↦ (let some = d.1 in omega (arith, some))
]

member_among : (s : Edges) (ks : List (ℕ × ℕ)) → set.items s ≡ ks → 0 < set.len s → (k : ℕ × ℕ) × (set.contains s k ≡ true)
member_among s [] e h = absurd (
    let none = same_len s set.empty (λ k. set.contains-items s k ∙ ap (list_any (eq k)) e ∙ sym (set.contains-empty edge_cmp k)) in
    let zero_len = set.len-empty edge_cmp in
    omega (arith, none, zero_len, h))
member_among s (k ∷ ks) e h = (k, set.contains-items s k ∙ ap (list_any (eq k)) e ∙ ap (λ b. b || list_any (eq k) ks) (eq_self k))

-- a member of a set that isn't empty
pub member_of : (s : Edges) → 0 < set.len s → (k : ℕ × ℕ) × (set.contains s k ≡ true)
member_of s h = member_among s (set.items s) refl h

removed_len : (s : Edges) (k : ℕ × ℕ) → set.contains s k ≡ true → set.len (set.remove s k) ≡ set.len s - 1
removed_len s k e = set.len-remove edge_cmp_total s k ∙ ap (λ b. cond b (set.len s - 1) (set.len s)) e

-- a set within another one isn't longer
subset_len : (n : ℕ) (s t : Edges) → set.len t ≡ n → ((k : ℕ × ℕ) → set.contains t k ≡ true → set.contains s k ≡ true) → set.len t ≤ set.len s
subset_len zero s t e h = omega (arith, e)
subset_len (suc n) s t e h =
    let k = member_of t (omega (arith, e)) in
    let there = h k.0 k.1 in
    let some = some_len s k.0 there in
    let fewer = removed_len t k.0 k.1 in
    let less = removed_len s k.0 there in
    let rest = subset_len n (set.remove s k.0) (set.remove t k.0) (omega (arith, e, fewer)) (λ q m.
    let both = and_parts (not (eq q k.0)) (set.contains t q) (sym (set.contains-remove edge_cmp_total t k.0 q) ∙ m) in
    set.contains-remove edge_cmp_total s k.0 q ∙ and_from (not (eq q k.0)) (set.contains s q) both.0 (h q both.1)) in
    omega (arith, e, some, fewer, less, rest)

-- a test keeps no more than there is
pub kept_len : (s : Edges) (p : ℕ × ℕ → Bool) → set.len (set.retain s p) ≤ set.len s
kept_len s p = subset_len (set.len (set.retain s p)) s (set.retain s p) refl (λ k m. (and_parts (set.contains s k) (p k) (sym (kept s p k) ∙ m)).0)

not_found : (k : ℕ × ℕ) (zs : List (ℕ × ℕ)) → AllByRecursion (λ y. eq k y ≡ false) zs → list_any (eq k) zs ≡ false
not_found k [] h = refl
not_found k (z ∷ zs) h = rw h.0 (not_found k zs h.1)

pub count_cons : (q : ℕ × ℕ → Bool) (z : ℕ × ℕ) (zs : List (ℕ × ℕ)) → count_by q (z ∷ zs) ≡ cond (q z) 1 0 + count_by q zs
count_cons q z zs = sum_by-cons (λ (e : ℕ × ℕ). cond (q e) 1 0) z zs

-- A set that has further members, those of a list that pass: it is longer by the number of these.
pub len_more : (q : ℕ × ℕ → Bool) (s : Edges) (zs : List (ℕ × ℕ)) → IsDistinct eq zs
    → ((k : ℕ × ℕ) → list_any (eq k) zs ≡ true → q k ≡ true → set.contains s k ≡ false)
    → (t : Edges) → ((k : ℕ × ℕ) → set.contains t k ≡ ((list_any (eq k) zs && q k) || set.contains s k)) → set.len t ≡ set.len s + count_by q zs
len_more q s [] d out t e = let alike = same_len t s e in omega (arith, alike)
len_more q s (z ∷ zs) d out t e = elim (cases_Bool (q z)) [
  | inl on ↦ (
      let there : set.contains t z ≡ true = e z ∙ rw (first, on) refl in
      let some = some_len t z there in
      let fewer = removed_len t z there in
      let one : bit_of (q z) ≡ 1 = ap bit_of on in
      let rest = len_more q s zs (IsDistinct-tail eq z zs d) (λ k h. out k (later k h)) (set.remove t z) (inner on) in
      omega (arith, rest, some, fewer, more, one))
  | inr off ↦ (
      let none : bit_of (q z) ≡ 0 = ap bit_of off in
      let rest = len_more q s zs (IsDistinct-tail eq z zs d) (λ k h. out k (later k h)) t (skipped off) in
      omega (arith, rest, more, none))
]
  where
    once : list_any (eq z) zs ≡ false
    once = not_found z zs (IsDistinct-head eq z zs d)

    first : list_any (eq z) (z ∷ zs) ≡ true
    first = ap (λ b. b || list_any (eq z) zs) (eq_self z)

    later : (k : ℕ × ℕ) → list_any (eq k) zs ≡ true → list_any (eq k) (z ∷ zs) ≡ true
    later k h = ap (λ b. eq k z || b) h ∙ or-true (eq k z)

    more : count_by q (z ∷ zs) ≡ cond (q z) 1 0 + count_by q zs
    more = count_cons q z zs

    inner : q z ≡ true → (k : ℕ × ℕ) → set.contains (set.remove t z) k ≡ ((list_any (eq k) zs && q k) || set.contains s k)
    inner on k = set.contains-remove edge_cmp_total t z k ∙ elim (cases_Bool (eq k z)) [
      | inl h ↦ (
          let k_is = eq_is k z h in
          let absent : list_any (eq k) zs ≡ false = ap (λ x. list_any (eq x) zs) k_is ∙ once in
          let outside : set.contains s k ≡ false = ap (set.contains s) k_is ∙ out z first on in
          rw (h, absent, outside) refl)
      | inr h ↦ rw (h, e k, h) refl
    ]

    skipped : q z ≡ false → (k : ℕ × ℕ) → set.contains t k ≡ ((list_any (eq k) zs && q k) || set.contains s k)
    skipped off k = e k ∙ elim (cases_Bool (eq k z)) [
      | inl h ↦ (
          let none : q k ≡ false = ap q (eq_is k z h) ∙ off in
          rw (none, and-false (list_any (eq k) (z ∷ zs)), and-false (list_any (eq k) zs)) refl)
      | inr h ↦ ap (λ b. ((b || list_any (eq k) zs) && q k) || set.contains s k) h
    ]

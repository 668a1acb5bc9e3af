-- Edges that go of which the ends keep a parent in the same block, and what it costs to find them.
use Rattle.std.proofs.Common.{◌≡◌, ℕ, ◌+◌, ◌*◌, ◌<◌, ◌≤◌, zero, suc, ◌⊎◌, List, [], ◌∷◌, ◌++◌, length, take, get_or, Option, IsTrue, refl, sym, ◌∙◌, ap, subst, arith, inl, inr, true, false, Bool, cond, true≢false}
use Rattle.std.specs.Prelude.{nat_eq, ◌||◌, sum_by}
use Rattle.std.specs.List.{IsDistinct}
use Rattle.std.proofs.lemmas.Bool.{or_cases, or_left, or_right, and_parts, and_from}
use Rattle.std.proofs.lemmas.Bool.Decides.{Decides-eqb}
use Rattle.std.proofs.lemmas.Cmp.{nat_eq_equiv}
use Rattle.std.proofs.lemmas.List.Folds.{list_any-append, list_any_more}
use Rattle.std.proofs.lemmas.List.Sums.{sum_by-cons, sum_by_push}
use Rattle.std.proofs.lemmas.Map.Keys.{IsDistinct-push}
use Rattle.graph_spec.specs.Graphs.{Graph, is_live}
use Rattle.graph_spec.specs.Members.{has}
use Rattle.graph_spec.proofs.MemberLaws.{has_push, or_false}
use Rattle.change_spec.specs.Altered.{targets}
use Rattle.change_spec.specs.Bounds.{parents_cost}
use Rattle.graph_effects.specs.Effects.{EffectLists, AreEffects, has_pair, same_pair}
use Rattle.graph_effects.proofs.GoneNodes.{no_numbers}
use Rattle.graph_update.specs.PendingChanges.{Pending, graph_after}
use Rattle.quotient.specs.Quotients.{Quotient}
use Rattle.one_split.specs.SplitCosts.{round_cost}
use Rattle.one_split.proofs.Bounds.{sound_of, round_most}
use Rattle.one_update.specs.OneDrafts.{IsBefore, reached, rounds_cost}
use Rattle.one_update.specs.UnsteadyNodes.{AreUnkept, KeepsParentBlock, HaveRead, HasRead, ReadsOne, none, one}
use Rattle.one_update.proofs.PhaseLaws.{once_within, targets_reached}

pair_more : (xs : List (ℕ × ℕ)) (i : ℕ) (d : ℕ × ℕ) (u v : ℕ) → i < length xs → has_pair (take (i + 1) xs) u v ≡ (has_pair (take i xs) u v || same_pair (u, v) (get_or xs i d))
pair_more xs i d u v h = list_any_more (same_pair (u, v)) xs i d h

pair_push : (xs : List (ℕ × ℕ)) (x : ℕ × ℕ) (u v : ℕ) → has_pair (xs ++ x ∷ []) u v ≡ (has_pair xs u v || same_pair (u, v) x)
pair_push xs x u v = list_any-append (same_pair (u, v)) xs (x ∷ []) ∙ ap (λ b. has_pair xs u v || b) (or_false (same_pair (u, v) x))

pub unkept_none : (g2 : Graph) (p : List (Option ℕ)) (left : List (ℕ × ℕ)) → left ≡ [] → AreUnkept g2 p [] left
unkept_none g2 p left e = record { among = λ u v h. sym (ap (λ xs. has_pair xs u v) e) ∙ h; others = λ u v h live. absurd (true≢false (sym h)) }

-- one more edge that goes
pub unkept_more : (g2 : Graph) (p : List (Option ℕ)) (lost left left2 : List (ℕ × ℕ)) (i : ℕ) (d : ℕ × ℕ) (kept : Bool) → i < length lost → AreUnkept g2 p (take i lost) left
    → (kept ≡ true → KeepsParentBlock g2 p (get_or lost i d).0 (get_or lost i d).1) → left2 ≡ cond kept left (left ++ get_or lost i d ∷ []) → AreUnkept g2 p (take (i + 1) lost) left2
unkept_more g2 p lost left left2 i d true within are keeps is = record {
  among = λ u v h. pair_more lost i d u v within ∙ or_left (has_pair (take i lost) u v) (same_pair (u, v) (get_or lost i d)) (are.among u v (sym (ap (λ xs. has_pair xs u v) is) ∙ h));
  others = λ u v h live. elim (or_cases (has_pair (take i lost) u v) (same_pair (u, v) (get_or lost i d)) (sym (pair_more lost i d u v within) ∙ h)) [
    | inl before ↦ elim (are.others u v before live) [ inl there ↦ inl (ap (λ xs. has_pair xs u v) is ∙ there) | inr k ↦ inr k ]
    | inr here ↦ inr (
        let both = and_parts (nat_eq u (get_or lost i d).0) (nat_eq v (get_or lost i d).1) here in
        let k = keeps refl in
        subst (λ n. KeepsParentBlock g2 p n v) (sym ((Decides-eqb u (get_or lost i d).0).0 both.0))
        (subst (λ n. KeepsParentBlock g2 p (get_or lost i d).0 n) (sym ((Decides-eqb v (get_or lost i d).1).0 both.1)) k))
  ];
}
unkept_more g2 p lost left left2 i d false within are keeps is = record {
  among = λ u v h. pair_more lost i d u v within ∙ elim (or_cases (has_pair left u v) (same_pair (u, v) (get_or lost i d)) (sym (ap (λ xs. has_pair xs u v) is ∙ pair_push left (get_or lost i d) u v) ∙ h)) [
    | inl before ↦ or_left (has_pair (take i lost) u v) (same_pair (u, v) (get_or lost i d)) (are.among u v before)
    | inr here ↦ or_right (has_pair (take i lost) u v) (same_pair (u, v) (get_or lost i d)) here
  ];
  others = λ u v h live. elim (or_cases (has_pair (take i lost) u v) (same_pair (u, v) (get_or lost i d)) (sym (pair_more lost i d u v within) ∙ h)) [
    | inl before ↦ elim (are.others u v before live) [
      | inl there ↦ inl (ap (λ xs. has_pair xs u v) is ∙ pair_push left (get_or lost i d) u v ∙ or_left (has_pair left u v) (same_pair (u, v) (get_or lost i d)) there)
      | inr k ↦ inr k
    ]
    | inr here ↦ inl (ap (λ xs. has_pair xs u v) is ∙ pair_push left (get_or lost i d) u v ∙ or_right (has_pair left u v) (same_pair (u, v) (get_or lost i d)) here)
  ];
}

-- ---- what was read

pub read_none : (a : Pending) (lost : List (ℕ × ℕ)) (read : List ℕ) (steps : ℕ) → read ≡ [] → HaveRead a lost read steps steps
read_none a lost read steps e = record {
  once = subst (IsDistinct nat_eq) (sym e) no_numbers;
  live = λ n h. absurd (true≢false (sym h ∙ ap (λ xs. has xs n) e));
  ends = λ n h. absurd (true≢false (sym h ∙ ap (λ xs. has xs n) e));
  cost = omega arith;
}

-- for one more edge
pub read_more : (a : Pending) (lost : List (ℕ × ℕ)) (read read2 : List ℕ) (i : ℕ) (d : ℕ × ℕ) (steps0 steps steps2 : ℕ) → i < length lost → HaveRead a (take i lost) read steps0 steps
    → ReadsOne a (get_or lost i d).1 read read2 steps steps2 → HaveRead a (take (i + 1) lost) read2 steps0 steps2
read_more a lost read read2 i d steps0 steps steps2 within are (none same took) = record {
  once = subst (IsDistinct nat_eq) (sym same) are.once;
  live = λ n h. are.live n (sym (ap (λ xs. has xs n) same) ∙ h);
  ends = λ n h. (
      let r = are.ends n (sym (ap (λ xs. has xs n) same) ∙ h) in
      (r.0, pair_more lost i d r.0 n within ∙ or_left (has_pair (take i lost) r.0 n) (same_pair (r.0, n) (get_or lost i d)) r.1));
  cost = (let k = are.cost in let e = ap (sum_by (parents_cost a.before (graph_after a))) same in omega (arith, k, e, took));
}
read_more a lost read read2 i d steps0 steps steps2 within are (one live off more took) = record {
  once = subst (IsDistinct nat_eq) (sym more) (IsDistinct-push nat_eq_equiv read v are.once off);
  live = λ n h. elim (parts n h) [ inl before ↦ are.live n before | inr e ↦ subst (λ m. IsTrue (is_live (graph_after a) m)) (sym e) live ];
  ends = λ n h. elim (parts n h) [
    | inl before ↦ (
        let r = are.ends n before in
        (r.0, pair_more lost i d r.0 n within ∙ or_left (has_pair (take i lost) r.0 n) (same_pair (r.0, n) (get_or lost i d)) r.1))
    | inr e ↦ (
      (get_or lost i d).0,
      (pair_more lost i d (get_or lost i d).0 n within ∙ or_right (has_pair (take i lost) (get_or lost i d).0 n) (same_pair ((get_or lost i d).0, n) (get_or lost i d))
          (and_from (nat_eq (get_or lost i d).0 (get_or lost i d).0) (nat_eq n v) ((Decides-eqb (get_or lost i d).0 (get_or lost i d).0).1 refl) ((Decides-eqb n v).1 e))),
    )
  ];
  cost = (
      let k = are.cost in
      let f = parents_cost a.before (graph_after a) in
      let e : sum_by f read2 ≡ sum_by f read + f (get_or lost i d).1 = ap (sum_by f) more ∙ sum_by_push f read (get_or lost i d).1 in
      omega (arith, k, e, took));
}
  where
    v : ℕ
    v = (get_or lost i d).1

    parts : (n : ℕ) → has read2 n ≡ true → (has read n ≡ true) ⊎ (n ≡ v)
    parts n h = elim (or_cases (has read n) (nat_eq n v) (sym (ap (λ xs. has xs n) more ∙ has_push read v n) ∙ h)) [ inl before ↦ inl before | inr same ↦ inr ((Decides-eqb n v).0 same) ]

-- what was read for the first edges was read for ends of them all
pub read_all : (a : Pending) (lost : List (ℕ × ℕ)) (read : List ℕ) (i steps steps2 : ℕ) → HaveRead a (take i lost) read steps steps2 → HasRead a lost steps steps2
read_all a lost read i steps steps2 are = (
  read,
  record {
    once = are.once;
    live = are.live;
    ends = λ n h. (let r = are.ends n h in (r.0, taken lost i r.0 n r.1));
    cost = are.cost;
  },
)
  where
    taken : (xs : List (ℕ × ℕ)) (k u n : ℕ) → has_pair (take k xs) u n ≡ true → has_pair xs u n ≡ true
    taken [] zero u n h = h
    taken [] (suc k) u n h = h
    taken (x ∷ xs) zero u n h = absurd (true≢false (sym h))
    taken (x ∷ xs) (suc k) u n h = elim (or_cases (same_pair (u, n) x) (has_pair (take k xs) u n) h) [
      | inl here ↦ or_left (same_pair (u, n) x) (has_pair xs u n) here
      | inr there ↦ or_right (same_pair (u, n) x) (has_pair xs u n) (taken xs k u n there)
    ]

twice : (f h : ℕ → ℕ) (xs : List ℕ) → ((n : ℕ) → 2 * f n ≤ h n) → 2 * sum_by f xs ≤ sum_by h xs
twice f h [] less = omega arith
twice f h (x ∷ xs) less =
    let rest = twice f h xs less in
    let here = less x in
    let first = sum_by-cons f x xs in
    let second = sum_by-cons h x xs in
    omega (arith, rest, here, first, second)

-- Reading the parents of targets once costs no more than rounds may twice.
pub reads_light : (a : Pending) (q : Quotient) (e : EffectLists) (steps steps2 : ℕ) → IsBefore a q → AreEffects a.before (graph_after a) e
    → ((n : ℕ) → IsTrue (has e.targets n) → IsTrue (targets a.change a.before n)) → HasRead a e.lost steps steps2 → steps2 ≤ steps + 2 * rounds_cost a.before a.change
reads_light a q e steps steps2 before w among (read, are) =
    let target : (n : ℕ) → IsTrue (has read n) → IsTrue (targets a.change a.before n) =
    λ n h. (let r = are.ends n h in among n (w.target_lost r.0 n r.1 (are.live n h))) in
    let round = round_most a (reached a.before a.change) read (sound_of a before.new before.graph before.graph_after)
    (record { once = are.once; live = are.live; within = targets_reached a.before a.change read target }) in
    let half = twice (parents_cost a.before (graph_after a)) (round_cost a) read (λ n. omega arith) in
    let most = once_within a.before a.change in
    let cost = are.cost in
    omega (arith, round, half, most, cost)

-- The search for all that is reached, one round after the other.
use Rattle.std.proofs.Common.{◌≡◌, ℕ, zero, suc, ◌*◌, ◌<◌, ◌≤◌, List, [], length, sym, ◌∙◌, subst, arith, inl, inr, true, Bool, append-nil, take}
use Rattle.std.specs.Prelude.{nat_eq, slice_index}
use Rattle.std.specs.List.{IsDistinct, sum_by}
use Rattle.std.proofs.lemmas.List.Sums.{sum_by-take-le}
use Rattle.graph_spec.specs.Members.{has, Lists}
use Rattle.graph_spec.specs.Shapes.{Shape, IsShape, shape_of}
use Rattle.bisim_spec.specs.Reach.{within_distance, reach}
use Rattle.bisim_spec.proofs.BelowLaws.{count_few}
use Rattle.bisim_spec.proofs.Reached.{within_cases, reach_start, reach_step}
use Rattle.change_spec.specs.Costs.{cost}
use Rattle.graph_update.specs.PendingChanges.{Pending, graph_after}
use Rattle.one_spec.proofs.Sums.{few_listed}
use Rattle.bisim_spec.specs.declared.sides.Sides.TheVariants as sides
use Rattle.affected_nodes.specs.ReadCosts.{spread_cost}
use Rattle.affected_nodes.specs.AffectedSearches.{IsSpread}
use Rattle.affected_nodes.proofs.SearchCosts.{within_below, StartsAt, read_most}
use Rattle.std.specs.Cmp.{both_ways}
use Rattle.affected_nodes.proofs.MetChildren.{has_prefix, has_place, place_in, spread_on, spread_longer}

-- The targets are met, and only what is reached. The children of those before the place are met.
pub record IsReaching (s : Shape) (from : ℕ → Bool) (place : ℕ) (met : List ℕ) : Type 0 where
  pub start : (n : ℕ) → from n ≡ true → has met n ≡ true
  pub only : (n : ℕ) → has met n ≡ true → reach s from n ≡ true
  pub read : IsSpread s met place met
  pub past : place ≤ length met

-- the targets alone
pub reaching_first : (s : Shape) (targets met : List ℕ) → ((n : ℕ) → has met n ≡ has targets n) → IsReaching s (has targets) 0 met
reaching_first s targets met is = record {
  start = λ n h. is n ∙ h;
  only = λ n h. reach_start s (has targets) n (sym (is n) ∙ h);
  read = record { prefix = ([], sym (append-nil met)); into = λ j n l h. absurd (omega (arith, l)); only = λ n h. inl h };
  past = omega arith;
}

-- the nodes that are one edge further
pub reaching_next : (s : Shape) (from : ℕ → Bool) (place : ℕ) (met met2 : List ℕ) → IsShape s → IsReaching s from place met → IsSpread s met (length met) met2
    → IsReaching s from (length met) met2
reaching_next s from place met met2 shape p spread = record {
  start = λ n h. subst (λ xs. has xs n ≡ true) (sym spread.prefix.1) (has_prefix met spread.prefix.0 n (p.start n h));
  only = λ n h. elim (spread.only n h) [
    | inl first ↦ p.only n first
    | inr (j, l, e) ↦ reach_step s shape from (slice_index met j) n (p.only (slice_index met j) (has_place met j l)) e
  ];
  read = spread_on s met met2 spread;
  past = spread_longer s met met2 (length met) spread;
}

-- what is within reach is met, once the children of all that is met are
within_met : (s : Shape) (from : ℕ → Bool) (place : ℕ) (met : List ℕ) → IsReaching s from place met → length met ≤ place → (i n : ℕ) → within_distance s from i n ≡ true → has met n ≡ true
within_met s from place met p all zero n h = p.start n h
within_met s from place met p all (suc i) n h = elim (within_cases s from i n h) [
  | inl before ↦ within_met s from place met p all i n before
  | inr (q, within_q, e) ↦ (
      let j = place_in met q (within_met s from place met p all i q within_q) in
      let l = j.1 in
      p.read.into j.0 n (omega (arith, l, all)) (subst (λ m. s.edge m n ≡ true) (sym j.2) e))
]

pub reaching_all : (s : Shape) (from : ℕ → Bool) (place : ℕ) (met : List ℕ) → IsDistinct nat_eq met → IsReaching s from place met → length met ≤ place → Lists (reach s from) met
reaching_all s from place met once p all = record {
  once = once;
  members = λ n. both_ways (has met n) (reach s from n) (p.only n) (within_met s from place met p all s.size n);
}

-- what is met is below the size
met_below : (s : Shape) (from : ℕ → Bool) (place : ℕ) (met : List ℕ) → IsShape s → ((t : ℕ) → from t ≡ true → t < s.size) → IsReaching s from place met
    → (n : ℕ) → has met n ≡ true → n < s.size
met_below s from place met shape allocated p n h = within_below sides.Parents s from shape allocated s.size n (p.only n h)

-- and so it is no more than there are numbers
pub reaching_few : (s : Shape) (from : ℕ → Bool) (place : ℕ) (met : List ℕ) → IsDistinct nat_eq met → IsShape s → ((t : ℕ) → from t ≡ true → t < s.size) → IsReaching s from place met
    → length met ≤ s.size
reaching_few s from place met once shape allocated p =
    let few = few_listed s.size (reach s from) met once (λ n h. (met_below s from place met shape allocated p n h, p.only n h)) in
    let most = count_few s.size (reach s from) in
    omega (arith, few, most)

-- the children of all that was met
pub reaching_most : (a : Pending) (from : ℕ → Bool) (place : ℕ) (met : List ℕ) → IsDistinct nat_eq met → StartsAt a from → IsReaching (shape_of (graph_after a)) from place met
    → sum_by (spread_cost sides.Parents a) met ≤ cost a.change a.before (reach (shape_of (graph_after a)) from)
reaching_most a from place met once w p =
    let most = read_most sides.Parents a from (shape_of (graph_after a)).size met w once p.only in
    let once_read : sum_by (spread_cost sides.Parents a) met ≤ 1 * cost a.change a.before (reach (shape_of (graph_after a)) from) = most in
    omega (arith, once_read)

-- and of the first of it
pub reaching_part : (a : Pending) (from : ℕ → Bool) (place : ℕ) (met : List ℕ) → IsDistinct nat_eq met → StartsAt a from → IsReaching (shape_of (graph_after a)) from place met
    → sum_by (spread_cost sides.Parents a) (take place met) ≤ cost a.change a.before (reach (shape_of (graph_after a)) from)
reaching_part a from place met once w p =
    let all = reaching_most a from place met once w p in
    let part = sum_by-take-le (spread_cost sides.Parents a) met place in
    omega (arith, all, part)

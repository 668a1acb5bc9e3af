-- What the rounds cost in all.
use Rattle.std.proofs.Common.{◌≡◌, ℕ, ◌*◌, ◌≤◌, List, arith, inl, inr, true, Bool}
use Rattle.std.specs.Prelude.{nat_eq, ◌&&◌}
use Rattle.std.specs.List.{sum_by, IsDistinct}
use Rattle.std.proofs.lemmas.Bool.{cases_Bool, and_parts, and_from}
use Rattle.graph_spec.specs.Graphs.{IsGraph, is_live}
use Rattle.graph_spec.specs.Members.{has}
use Rattle.graph_spec.specs.Shapes.{IsNode, shape_of}
use Rattle.graph_spec.proofs.GraphLaws.{is_shape}
use Rattle.bisim_spec.specs.Weights.{weight_at, weight}
use Rattle.change_spec.specs.Places.{CanMakeAll}
use Rattle.change_spec.specs.Costs.{cost}
use Rattle.change_spec.proofs.Accepted.{applied_can, accepted_all}
use Rattle.change_spec.proofs.RoundBounds as bounds
use Rattle.graph_steps.specs.NewChanges.{IsNew}
use Rattle.graph_update.specs.PendingChanges.{Pending, graph_after}
use Rattle.one_spec.proofs.Sums.{where_in, sum_listed, sum_most}
use Rattle.one_split.specs.SplitCosts.{move_cost, round_cost}

-- the graph after is that of a change that can be made
pub record IsSound (a : Pending) : Type 0 where
  pub graph : IsGraph a.before
  pub graph_after : IsGraph (graph_after a)
  pub can : CanMakeAll a.change a.before

pub sound_of : (a : Pending) → IsNew a.change a.before → IsGraph a.before → IsGraph (graph_after a) → IsSound a
sound_of a new graph graph2 = record {
  graph = graph;
  graph_after = graph2;
  can = applied_can a.change a.before (graph_after a) new.limits (accepted_all a.change a.before (graph_after a) new.limits new.accepted).1;
}

-- the nodes of a set
abbrev live_in : Pending → (ℕ → Bool) → ℕ → Bool
live_in a inside n = inside n && is_live (graph_after a) n

-- the nodes of a set weigh no more than the set
live_less : (a : Pending) (inside : ℕ → Bool) → cost a.change a.before (live_in a inside) ≤ cost a.change a.before inside
live_less a inside =
    let s = shape_of (graph_after a) in
    let less : weight s (live_in a inside) ≤ weight s inside =
    sum_most s.size (where_in (live_in a inside) (weight_at s)) (where_in inside (weight_at s)) (λ k l. elim (cases_Bool (live_in a inside k)) [
      | inl on ↦ (let e = (and_parts (inside k) (is_live (graph_after a) k) on).0 in rw (on, e) (omega arith))
      | inr off ↦ rw off (omega arith)
    ]) in
    omega (arith, less)

-- distinct nodes inside
pub record AreNodesIn (a : Pending) (inside : ℕ → Bool) (nodes : List ℕ) : Type 0 where
  pub once : IsDistinct nat_eq nodes
  pub live : (n : ℕ) → has nodes n ≡ true → IsNode (shape_of (graph_after a)) n
  pub within : (n : ℕ) → has nodes n ≡ true → inside n ≡ true

-- where nothing costs more than a round at the same node
costs_most : (a : Pending) (inside : ℕ → Bool) (f : ℕ → ℕ) (nodes : List ℕ) → IsSound a → AreNodesIn a inside nodes → ((n : ℕ) → f n ≤ round_cost a n)
    → sum_by f nodes ≤ 3 * cost a.change a.before inside
costs_most a inside f nodes sound are light =
    let g2 = graph_after a in
    let s = shape_of g2 in
    let set = live_in a inside in
    let listed = sum_listed s.size set f nodes are.once (λ n h.
    let node = are.live n h in
    ((is_shape g2 sound.graph_after).below n node, and_from (inside n) (is_live g2 n) (are.within n h) node)) in
    let most = sum_most s.size (where_in set f) (where_in set (round_cost a)) (λ k l. elim (cases_Bool (set k)) [
      | inl on ↦ (let e = light k in rw on e)
      | inr off ↦ rw off (omega arith)
    ]) in
    let round = bounds.round_most a.change a.before set sound.graph sound.can (λ n h. (and_parts (inside n) (is_live g2 n) h).1) in
    let less = live_less a inside in
    omega (arith, listed, most, round, less)

-- a round over distinct nodes inside
pub round_most : (a : Pending) (inside : ℕ → Bool) (nodes : List ℕ) → IsSound a → AreNodesIn a inside nodes → sum_by (round_cost a) nodes ≤ 3 * cost a.change a.before inside
round_most a inside nodes sound are = costs_most a inside (round_cost a) nodes sound are (λ n. omega arith)

-- moving distinct nodes inside
pub moves_most : (a : Pending) (inside : ℕ → Bool) (nodes : List ℕ) → IsSound a → AreNodesIn a inside nodes → sum_by (move_cost a) nodes ≤ 3 * cost a.change a.before inside
moves_most a inside nodes sound are = costs_most a inside (move_cost a) nodes sound are (λ n. omega arith)

-- What placing the affected nodes costs.
use Rattle.std.proofs.Common.{◌≡◌, ℕ, zero, suc, ◌+◌, ◌*◌, ◌≤◌, Bool, List, cond, true, length, sym, ◌∙◌, subst, arith, inl, inr}
use Rattle.std.specs.Prelude.{nat_eq}
use Rattle.std.specs.List.{IsDistinct, sum_by}
use Rattle.std.proofs.Math.Nat.{mul-le-mul_left}
use Rattle.std.proofs.lemmas.Bool.{cases_Bool}
use Rattle.graph_spec.specs.Graphs.{IsGraph, is_live}
use Rattle.graph_spec.specs.Members.{has, Lists}
use Rattle.graph_spec.specs.Shapes.{shape_of}
use Rattle.graph_spec.proofs.GraphLaws.{is_shape}
use Rattle.bisim_spec.specs.Below.{sum_below}
use Rattle.bisim_spec.specs.declared.sides.Sides.{Sides}
use Rattle.bisim_spec.specs.declared.sides.Sides.TheVariants as sides
use Rattle.bisim_spec.specs.SidedLevels.{affected}
use Rattle.change_spec.specs.Bounds.{round_cost}
use Rattle.change_spec.specs.Costs.{cost}
use Rattle.change_spec.specs.Places.{CanMakeAll}
use Rattle.change_spec.proofs.RoundBounds.{round_most}
use Rattle.graph_update.specs.PendingChanges.{Pending, graph_after}
use Rattle.quotient_moves.specs.NeighbourCosts.{parents_cost, children_cost}
use Rattle.affected_nodes.specs.ReadCosts.{side_count}
use Rattle.affected_nodes.proofs.SearchCosts.{StartsAt, below, within_below, within_live}
use Rattle.level_spec.proofs.AffectedWeights.{affected_weight}
use Rattle.one_spec.proofs.Sums.{sum_listed}
use Rattle.level_update.specs.LevelCosts.{move_cost, place_cost, affected_cost, most_move_steps}

-- a node is placed for no more than a round there, for each side that counts
place_round : (which : Sides) (a : Pending) (n : ℕ) → place_cost which a n ≤ side_count which * round_cost a.before (graph_after a) n
place_round sides.Parents a n = (let e : parents_cost a n + (parents_cost a n + children_cost a n) ≤ 1 * (2 * parents_cost a n + children_cost a n) = omega arith in e)
place_round sides.Both a n =
    let e : parents_cost a n + children_cost a n + (parents_cost a n + children_cost a n) ≤ 2 * (2 * parents_cost a n + children_cost a n) = omega arith in e

-- and moved for no more than that
move_round : (a : Pending) (n : ℕ) → move_cost a n ≤ 1 * round_cost a.before (graph_after a) n
move_round a n = (let e : parents_cost a n + children_cost a n ≤ 1 * (2 * parents_cost a n + children_cost a n) = omega arith in e)

scaled_sums : (m n : ℕ) (f g : ℕ → ℕ) → ((i : ℕ) → f i ≤ m * g i) → sum_below n f ≤ m * sum_below n g
scaled_sums m zero f g e = omega arith
scaled_sums m (suc n) f g e = (let a = e n in let r = scaled_sums m n f g e in omega (arith, a, r))

within_set : (b : Bool) (m x y : ℕ) → x ≤ m * y → cond b x 0 ≤ m * cond b y 0
within_set b m x y h = elim (cases_Bool b) [ inl on ↦ (rw on h) | inr off ↦ (rw off (omega arith)) ]

-- what costs so many rounds at each node of a set
rounds_most : (m : ℕ) (each : ℕ → ℕ) (a : Pending) (inside : ℕ → Bool) → ((n : ℕ) → each n ≤ m * round_cost a.before (graph_after a) n) → IsGraph a.before
    → CanMakeAll a.change a.before → ((n : ℕ) → inside n ≡ true → is_live (graph_after a) n ≡ true)
    → sum_below (length (graph_after a).allocated) (λ n. cond (inside n) (each n) 0) ≤ m * (3 * cost a.change a.before inside)
rounds_most m each a inside few graph can live =
    let round : ℕ → ℕ = λ n. cond (inside n) (round_cost a.before (graph_after a) n) 0 in
    let size = length (graph_after a).allocated in
    let rounds = scaled_sums m size (λ n. cond (inside n) (each n) 0) round (λ n. within_set (inside n) m (each n) (round_cost a.before (graph_after a) n) (few n)) in
    let most : sum_below size round ≤ 3 * cost a.change a.before inside = round_most a.change a.before inside graph can live in
    let all = mul-le-mul_left m most in
    omega (arith, rounds, all)

-- what costs so many rounds at each of these nodes, which are within i edges, over those within k edges
nodes_most : (which : Sides) (m : ℕ) (each : ℕ → ℕ) (a : Pending) (ends : List ℕ) (i k : ℕ) (nodes : List ℕ) → ((n : ℕ) → each n ≤ m * round_cost a.before (graph_after a) n)
    → StartsAt a (has ends) → Lists (affected which (shape_of (graph_after a)) (has ends) i) nodes → i ≤ k
    → sum_by each nodes ≤ m * (3 * cost a.change a.before (affected which (shape_of (graph_after a)) (has ends) k))
nodes_most which m each a ends i k nodes few w l within =
    let s = shape_of (graph_after a) in
    let listed = sum_listed s.size (affected which s (has ends) i) each nodes l.once (λ n h.
    let on = sym (l.members n) ∙ h in
    (within_below which s (has ends) (is_shape (graph_after a) w.left) (below a (has ends) w) i n on, on)) in
    let most = rounds_most m each a (affected which s (has ends) i) few w.before w.can (λ n h. within_live which a (has ends) i n w h) in
    let more = affected_weight which s (has ends) i k within in
    let wider : 3 * cost a.change a.before (affected which s (has ends) i) ≤ 3 * cost a.change a.before (affected which s (has ends) k) = omega (arith, more) in
    let all = mul-le-mul_left m wider in
    omega (arith, listed, most, all)

-- the nodes within i edges, of those within k edges
pub level_most : (which : Sides) (a : Pending) (ends : List ℕ) (i k : ℕ) (nodes : List ℕ) → StartsAt a (has ends)
    → Lists (affected which (shape_of (graph_after a)) (has ends) i) nodes → i ≤ k → sum_by (place_cost which a) nodes ≤ 3 * affected_cost which a (has ends) k
level_most which a ends i k nodes w l within =
    let most = nodes_most which (side_count which) (place_cost which a) a ends i k nodes (place_round which a) w l within in
    omega (arith, most)

-- a cost is no more than it is for each side
pub once_counted : (which : Sides) (x : ℕ) → x ≤ side_count which * x
once_counted sides.Parents x = (let e : x ≤ 1 * x = omega arith in e)
once_counted sides.Both x = (let e : x ≤ 2 * x = omega arith in e)

-- some of the ends are moved
pub ends_most : (which : Sides) (a : Pending) (ends : List ℕ) (k : ℕ) (nodes : List ℕ) → StartsAt a (has ends) → IsDistinct nat_eq nodes
    → ((n : ℕ) → has nodes n ≡ true → has ends n ≡ true) → sum_by (move_cost a) nodes ≤ 3 * affected_cost which a (has ends) k
ends_most which a ends k nodes w once among =
    let s = shape_of (graph_after a) in
    let listed = sum_listed s.size (affected which s (has ends) 0) (move_cost a) nodes once (λ n h.
    (within_below which s (has ends) (is_shape (graph_after a) w.left) (below a (has ends) w) 0 n (among n h), among n h)) in
    let most = rounds_most 1 (move_cost a) a (affected which s (has ends) 0) (move_round a) w.before w.can (λ n h. within_live which a (has ends) 0 n w h) in
    let more = affected_weight which s (has ends) 0 k (omega arith) in
    let each = once_counted which (cost a.change a.before (affected which s (has ends) k)) in
    omega (arith, listed, most, more, each)

mul-le : (a b c : ℕ) → a ≤ b → a * c ≤ b * c
mul-le a b c h = (let k = mul-le-mul_left c h in omega (arith, k))

-- A search and some levels, of which each costs three times as much, are no more than a search and all levels.
total_most : (w k i before now : ℕ) → i ≤ k → now ≤ before + w + i * (3 * w) → now ≤ before + (3 * k + 1) * w
total_most w k i before now within cost = (let all = mul-le i k (3 * w) within in omega (arith, cost, all))

-- what is spent is within the bound of all levels
pub spent_most : (which : Sides) (a : Pending) (ends : List ℕ) (k i before now : ℕ) → i ≤ k
    → now ≤ before + affected_cost which a (has ends) k + i * (3 * affected_cost which a (has ends) k)
    → (len m : ℕ) → len ≡ k + 1 → len ≡ m + 1 → now ≤ before + most_move_steps which a (has ends) m
spent_most which a ends k i before now within cost len m count e =
    let same : k ≡ m = omega (arith, count, e) in
    subst (λ m. now ≤ before + most_move_steps which a (has ends) m) same (total_most (affected_cost which a (has ends) k) k i before now within cost)

-- within fewer edges of the ends there is no more to pay
pub near_most : (which : Sides) (a : Pending) (ends : ℕ → Bool) (j k : ℕ) → j ≤ k → affected_cost which a ends j ≤ affected_cost which a ends k
near_most which a ends j k within =
    let s = shape_of (graph_after a) in
    let more = affected_weight which s ends j k within in
    let wider : cost a.change a.before (affected which s ends j) ≤ cost a.change a.before (affected which s ends k) = omega (arith, more) in
    mul-le-mul_left (side_count which) wider

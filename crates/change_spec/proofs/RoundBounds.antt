-- What is read at nodes that are live after a change: a search that reads their children no more than their cost, and a round
-- over them no more than three times that.
use Rattle.std.proofs.Common.{◌≡◌, ℕ, zero, suc, ◌+◌, ◌-◌, ◌*◌, ◌≤◌, Bool, true, false, cond, List, [], ◌∷◌, length, refl, ap, ◌∙◌, arith, inl, inr}
use Rattle.std.specs.Prelude.{◌&&◌, not, if◌then◌else◌}
use Rattle.std.proofs.lemmas.Bool.{cases_Bool}
use Rattle.graph_spec.specs.Graphs.{Graph, IsGraph, is_live, has_edge}
use Rattle.graph_spec.specs.Shapes.{shape_of}
use Rattle.bisim_spec.specs.Below.{count_below, sum_below}
use Rattle.bisim_spec.specs.Weights.{weight_at}
use Rattle.bisim_spec.proofs.BelowLaws.{bit_of}
use Rattle.change_spec.specs.Steps.{Step, made, after}
use Rattle.change_spec.specs.Places.{CanMakeAll}
use Rattle.change_spec.specs.Costs.{cost}
use Rattle.change_spec.specs.Lost.{is_lost, lost_onto, lost_from}
use Rattle.change_spec.specs.Bounds.{children_cost, round_cost}
use Rattle.change_spec.proofs.StepPlaces.{given_made, live_given}
use Rattle.change_spec.proofs.LostEdges.{lost_onto_few, lost_from_few}

given_all : (c : List Step) (g : Graph) → length g.allocated ≤ length (after c g).allocated
given_all [] g = omega arith
given_all (s ∷ ss) g = (let a = given_made s g in let b = given_all ss (made s g) in omega (arith, a, b))

-- numbers past the end count for nothing
sum_past : (k n : ℕ) (f : ℕ → ℕ) → ((i : ℕ) → n ≤ i → f i ≡ 0) → sum_below (n + k) f ≡ sum_below n f
sum_past zero n f h = (let e : n + 0 ≡ n = omega arith in ap (λ m. sum_below m f) e)
sum_past (suc k) n f h =
    let e : n + suc k ≡ suc (n + k) = omega arith in
    let r = sum_past k n f h in
    let z = h (n + k) (omega arith) in
    ap (λ m. sum_below m f) e ∙ (let s : f (n + k) + sum_below (n + k) f ≡ sum_below n f = omega (arith, r, z) in s)

sum_wider : (n m : ℕ) (f : ℕ → ℕ) → n ≤ m → ((i : ℕ) → n ≤ i → f i ≡ 0) → sum_below m f ≡ sum_below n f
sum_wider n m f l h =
    let e : m ≡ n + (m - n) = omega (arith, l) in
    ap (λ k. sum_below k f) e ∙ sum_past (m - n) n f h

no_count : (n : ℕ) (p : ℕ → Bool) → ((k : ℕ) → p k ≡ false) → count_below n p ≡ 0
no_count zero p h = refl
no_count (suc n) p h = (let r = no_count n p h in let e = ap bit_of (h n) in omega (arith, r, e))

no_edge_onto : (g : Graph) (p n : ℕ) → IsGraph g → length g.allocated ≤ n → has_edge g p n ≡ false
no_edge_onto g p n graph past = elim (cases_Bool (has_edge g p n)) [
  | inr off ↦ off
  | inl on ↦ absurd (let l = live_given g n (graph.onto p n on) in omega (arith, l, past))
]

no_edge_from : (g : Graph) (n c : ℕ) → IsGraph g → length g.allocated ≤ n → has_edge g n c ≡ false
no_edge_from g n c graph past = elim (cases_Bool (has_edge g n c)) [
  | inr off ↦ off
  | inl on ↦ absurd (let l = live_given g n (graph.from n c on) in omega (arith, l, past))
]

lost_none_onto : (g g2 : Graph) (n : ℕ) → IsGraph g → length g.allocated ≤ n → lost_onto g g2 n ≡ 0
lost_none_onto g g2 n graph past = no_count (length g.allocated) (λ p. is_lost g g2 p n) (λ p. ap (λ b. b && not (has_edge g2 p n)) (no_edge_onto g p n graph past))

lost_none_from : (g g2 : Graph) (n : ℕ) → IsGraph g → length g.allocated ≤ n → lost_from g g2 n ≡ 0
lost_none_from g g2 n graph past = no_count (length g.allocated) (λ c. is_lost g g2 n c) (λ c. ap (λ b. b && not (has_edge g2 n c)) (no_edge_from g n c graph past))

no_cond : (b : Bool) (x : ℕ) → x ≡ 0 → cond b x 0 ≡ 0
no_cond true x h = h
no_cond false x h = refl

-- two of three sums
three_sums : (n : ℕ) (f g h k : ℕ → ℕ) → ((i : ℕ) → f i ≤ 3 * g i + 2 * h i + k i) → sum_below n f ≤ 3 * sum_below n g + 2 * sum_below n h + sum_below n k
three_sums zero f g h k e = omega arith
three_sums (suc n) f g h k e = (let a = e n in let r = three_sums n f g h k e in omega (arith, a, r))

-- the sum of two
two_sums : (n : ℕ) (f g h : ℕ → ℕ) → ((i : ℕ) → f i ≤ g i + h i) → sum_below n f ≤ sum_below n g + sum_below n h
two_sums zero f g h e = omega arith
two_sums (suc n) f g h e = (let a = e n in let r = two_sums n f g h e in omega (arith, a, r))

pub search_most : (c : List Step) (g : Graph) (inside : ℕ → Bool) → IsGraph g → CanMakeAll c g → ((n : ℕ) → inside n ≡ true → is_live (after c g) n ≡ true)
    → sum_below (length (after c g).allocated) (λ n. cond (inside n) (children_cost g (after c g) n) 0) ≤ cost c g inside
search_most c g inside graph can live =
    let g2 = after c g in
    let size = length g2.allocated in
    let from : ℕ → ℕ = λ n. cond (is_live g2 n) (lost_from g g2 n) 0 in
    let parts = two_sums size (λ n. cond (inside n) (children_cost g g2 n) 0) (λ n. if inside n then weight_at (shape_of g2) n else 0) from (λ n. elim (cases_Bool (inside n)) [
      | inr off ↦ rw off (omega arith)
      | inl on ↦ (let l = live n on in rw (on, l) (omega arith))
    ]) in
    let b = sum_wider (length g.allocated) size from (given_all c g) (λ i past. no_cond (is_live g2 i) (lost_from g g2 i) (lost_none_from g g2 i graph past)) in
    let y = lost_from_few c g graph can in
    omega (arith, parts, b, y)

pub round_most : (c : List Step) (g : Graph) (inside : ℕ → Bool) → IsGraph g → CanMakeAll c g → ((n : ℕ) → inside n ≡ true → is_live (after c g) n ≡ true)
    → sum_below (length (after c g).allocated) (λ n. cond (inside n) (round_cost g (after c g) n) 0) ≤ 3 * cost c g inside
round_most c g inside graph can live =
    let g2 = after c g in
    let size = length g2.allocated in
    let onto : ℕ → ℕ = λ n. cond (is_live g2 n) (lost_onto g g2 n) 0 in
    let from : ℕ → ℕ = λ n. cond (is_live g2 n) (lost_from g g2 n) 0 in
    let parts = three_sums size (λ n. cond (inside n) (round_cost g g2 n) 0) (λ n. if inside n then weight_at (shape_of g2) n else 0) onto from (λ n. elim (cases_Bool (inside n)) [
      | inr off ↦ rw off (omega arith)
      | inl on ↦ (let l = live n on in rw (on, l) (omega arith))
    ]) in
    let wide = given_all c g in
    let a = sum_wider (length g.allocated) size onto wide (λ i past. no_cond (is_live g2 i) (lost_onto g g2 i) (lost_none_onto g g2 i graph past)) in
    let b = sum_wider (length g.allocated) size from wide (λ i past. no_cond (is_live g2 i) (lost_from g g2 i) (lost_none_from g g2 i graph past)) in
    let x = lost_onto_few c g graph can in
    let y = lost_from_few c g graph can in
    omega (arith, parts, a, b, x, y)

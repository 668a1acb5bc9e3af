-- What a change takes away from the nodes that stay: an edge goes by an unlink, or with a node at its other end. So there is no more than
-- a step for each of the first, and the weight of the node for the others.
use Rattle.std.proofs.Common.{◌≡◌, ◌⊎◌, ℕ, zero, suc, ◌+◌, ◌<◌, ◌≤◌, Bool, true, false, cond, List, [], ◌∷◌, length, refl, sym, ap, ◌∙◌, subst, arith, nat_eq, inl, inr, true≢false}
use Rattle.std.specs.Prelude.{◌&&◌, ◌||◌, not, if◌then◌else◌}
use Rattle.std.specs.List.{list_any}
use Rattle.std.proofs.Math.Bool.{and-false, and-true, or-true}
use Rattle.std.proofs.lemmas.Bool.{cases_Bool, and_parts, and_from, or_cases, or_parts}
use Rattle.std.proofs.lemmas.Bool.Decides.{eqb_tells}
use Rattle.graph_spec.specs.Graphs.{Graph, IsGraph, is_live, has_edge}
use Rattle.graph_spec.specs.Shapes.{shape_of}
use Rattle.graph_spec.proofs.GraphLaws.{edge_with, edge_without}
use Rattle.bisim_spec.specs.Below.{count_below, sum_below}
use Rattle.bisim_spec.specs.Weights.{child_count, parent_count, weight_at, weight}
use Rattle.bisim_spec.proofs.BelowLaws.{bit_of}
use Rattle.change_spec.specs.Steps.{Step, node, link, unlink, drop, relabel, made, after}
use Rattle.change_spec.specs.Places.{CanMake, CanMakeAll}
use Rattle.change_spec.specs.Costs.{is_gone}
use Rattle.change_spec.specs.Lost.{is_lost, lost_onto, lost_from}
use Rattle.change_spec.proofs.StepGraphs.{edge_dropped}
use Rattle.change_spec.proofs.StepPlaces.{dropped_gone}

-- the step takes the edge away by itself
abbrev pub cuts : ℕ → ℕ → Step → Bool
cuts p n (node t) = false
cuts p n (link u v) = false
cuts p n (unlink u v) = nat_eq p u && nat_eq n v
cuts p n (drop u) = false
cuts p n (relabel u t) = false

-- the step takes one of its ends away
abbrev pub drops : ℕ → Step → Bool
drops n (node t) = false
drops n (link u v) = false
drops n (unlink u v) = false
drops n (drop u) = nat_eq n u
drops n (relabel u t) = false

-- an edge stays where no step takes it or one of its ends away
step_keeps : (s : Step) (g : Graph) (p n : ℕ) → has_edge g p n ≡ true → cuts p n s ≡ false → drops p s ≡ false → drops n s ≡ false → has_edge (made s g) p n ≡ true
step_keeps (node t) g p n h c dp dn = h
step_keeps (link u v) g p n h c dp dn = edge_with g u v p n ∙ ap (λ b. (nat_eq p u && nat_eq n v) || b) h ∙ or-true (nat_eq p u && nat_eq n v)
step_keeps (unlink u v) g p n h c dp dn = edge_without g u v p n ∙ ap (λ b. not b && has_edge g p n) c ∙ h
step_keeps (drop u) g p n h c dp dn = edge_dropped g u p n ∙ rw (h, dp, dn) refl
step_keeps (relabel u t) g p n h c dp dn = h

all_keep : (c : List Step) (g : Graph) (p n : ℕ) → has_edge g p n ≡ true → list_any (cuts p n) c ≡ false → list_any (drops p) c ≡ false → list_any (drops n) c ≡ false → has_edge (after c g) p n ≡ true
all_keep [] g p n h c dp dn = h
all_keep (s ∷ ss) g p n h c dp dn =
    let a = or_parts (cuts p n s) (list_any (cuts p n) ss) c in
    let b = or_parts (drops p s) (list_any (drops p) ss) dp in
    let d = or_parts (drops n s) (list_any (drops n) ss) dn in
    all_keep ss (made s g) p n (step_keeps s g p n h a.0 b.0 d.0) a.1 b.1 d.1

drop_of : (s : Step) (n : ℕ) → drops n s ≡ true → s ≡ drop n
drop_of (node t) n h = absurd (true≢false (sym h))
drop_of (link u v) n h = absurd (true≢false (sym h))
drop_of (unlink u v) n h = absurd (true≢false (sym h))
drop_of (drop u) n h = elim (eqb_tells n u) [ inl e ↦ ap drop (sym e.1) | inr d ↦ absurd (true≢false (sym h ∙ d.0)) ]
drop_of (relabel u t) n h = absurd (true≢false (sym h))

-- what a step drops isn't live in the end
pub dropped : (c : List Step) (g : Graph) (n : ℕ) → CanMakeAll c g → list_any (drops n) c ≡ true → is_live (after c g) n ≡ false
dropped [] g n can h = absurd (true≢false (sym h))
dropped (s ∷ ss) g n can h = elim (cases_Bool (drops n s)) [
  | inl on ↦ (
      let is = drop_of s n on in
      subst (λ r. is_live (after ss (made r g)) n ≡ false) (sym is) (dropped_gone ss g n (subst (λ r. CanMake r g) is can.0) (subst (λ r. CanMakeAll ss (made r g)) is can.1)))
  | inr off ↦ dropped ss (made s g) n can.1 (sym (ap (λ b. b || list_any (drops n) ss) off) ∙ h)
]

-- An edge that is lost at a node which stays: an unlink takes it away, or the node at the other end goes.
pub lost_onto_why : (c : List Step) (g : Graph) (p n : ℕ) → IsGraph g → CanMakeAll c g → is_live (after c g) n ≡ true → is_lost g (after c g) p n ≡ true
    → (list_any (cuts p n) c ≡ true) ⊎ ((has_edge g p n && is_gone g (after c g) p) ≡ true)
lost_onto_why c g p n graph can live h =
    let both = and_parts (has_edge g p n) (not (has_edge (after c g) p n)) h in
    elim (cases_Bool (list_any (cuts p n) c)) [
      | inl on ↦ inl on
      | inr off ↦ inr (and_from (has_edge g p n) (is_gone g (after c g) p) both.0 (and_from (is_live g p) (not (is_live (after c g) p)) (graph.from p n both.0) (gone both.0 both.1 off)))
    ]
  where
    gone : has_edge g p n ≡ true → not (has_edge (after c g) p n) ≡ true → list_any (cuts p n) c ≡ false → not (is_live (after c g) p) ≡ true
    gone e none off = elim (cases_Bool (list_any (drops p) c)) [
      | inl on ↦ ap not (dropped c g p can on)
      | inr keep ↦ elim (cases_Bool (list_any (drops n) c)) [
        | inl on ↦ absurd (true≢false (sym live ∙ dropped c g n can on))
        | inr keep2 ↦ absurd (true≢false (sym none ∙ ap not (all_keep c g p n e off keep keep2)))
      ]
    ]

pub lost_from_why : (c : List Step) (g : Graph) (n m : ℕ) → IsGraph g → CanMakeAll c g → is_live (after c g) n ≡ true → is_lost g (after c g) n m ≡ true
    → (list_any (cuts n m) c ≡ true) ⊎ ((has_edge g n m && is_gone g (after c g) m) ≡ true)
lost_from_why c g n m graph can live h =
    let both = and_parts (has_edge g n m) (not (has_edge (after c g) n m)) h in
    elim (cases_Bool (list_any (cuts n m) c)) [
      | inl on ↦ inl on
      | inr off ↦ inr (and_from (has_edge g n m) (is_gone g (after c g) m) both.0 (and_from (is_live g m) (not (is_live (after c g) m)) (graph.onto n m both.0) (gone both.0 both.1 off)))
    ]
  where
    gone : has_edge g n m ≡ true → not (has_edge (after c g) n m) ≡ true → list_any (cuts n m) c ≡ false → not (is_live (after c g) m) ≡ true
    gone e none off = elim (cases_Bool (list_any (drops m) c)) [
      | inl on ↦ ap not (dropped c g m can on)
      | inr keep ↦ elim (cases_Bool (list_any (drops n) c)) [
        | inl on ↦ absurd (true≢false (sym live ∙ dropped c g n can on))
        | inr keep2 ↦ absurd (true≢false (sym none ∙ ap not (all_keep c g n m e off keep2 keep)))
      ]
    ]

-- ---- sums over pairs

abbrev pub pairs : ℕ → (ℕ → ℕ → Bool) → ℕ
pairs size f = sum_below size (λ n. count_below size (λ p. f p n))

plus_swap : (a b c d : ℕ) → (a + b) + (c + d) ≡ (a + c) + (b + d)
plus_swap a b c d = omega arith

sum_more : (n : ℕ) (f g : ℕ → ℕ) → sum_below n (λ k. f k + g k) ≡ sum_below n f + sum_below n g
sum_more zero f g = refl
sum_more (suc n) f g = (let r = sum_more n f g in omega (arith, r))

sum_zero : (n : ℕ) → sum_below n (λ k. 0) ≡ 0
sum_zero zero = refl
sum_zero (suc n) = (let r = sum_zero n in omega (arith, r))

sum_least : (n : ℕ) (f g : ℕ → ℕ) → ((k : ℕ) → k < n → f k ≤ g k) → sum_below n f ≤ sum_below n g
sum_least zero f g h = omega arith
sum_least (suc n) f g h =
    let a = h n (omega arith) in
    let r = sum_least n f g (λ k l. h k (omega (arith, l))) in
    omega (arith, a, r)

count_as : (n : ℕ) (p : ℕ → Bool) → count_below n p ≡ sum_below n (λ k. bit_of (p k))
count_as zero p = refl
count_as (suc n) p = (let r = count_as n p in omega (arith, r))

-- rows, or columns
swapped : (n m : ℕ) (f : ℕ → ℕ → ℕ) → sum_below n (λ i. sum_below m (f i)) ≡ sum_below m (λ j. sum_below n (λ i. f i j))
swapped zero m f = sym (sum_zero m)
swapped (suc n) m f =
    let r = swapped n m f in
    let a = sum_more m (f n) (λ j. sum_below n (λ i. f i j)) in
    omega (arith, r, a)

count_least : (n : ℕ) (p q r : ℕ → Bool) → ((k : ℕ) → k < n → p k ≡ true → (q k ≡ true) ⊎ (r k ≡ true)) → count_below n p ≤ count_below n q + count_below n r
count_least zero p q r h = omega arith
count_least (suc n) p q r h =
    let rest = count_least n p q r (λ k l. h k (omega (arith, l))) in
    elim (cases_Bool (p n)) [
      | inr off ↦ (let z : bit_of (p n) ≡ 0 = ap bit_of off in omega (arith, rest, z))
      | inl on ↦ elim (h n (omega arith) on) [
        | inl e ↦ (let z : bit_of (p n) ≡ 1 = ap bit_of on in let y : bit_of (q n) ≡ 1 = ap bit_of e in omega (arith, rest, z, y))
        | inr e ↦ (let z : bit_of (p n) ≡ 1 = ap bit_of on in let y : bit_of (r n) ≡ 1 = ap bit_of e in omega (arith, rest, z, y))
      ]
    ]

-- ---- unlinks take away an edge each

count_one : (n u : ℕ) (b : Bool) → count_below n (λ p. nat_eq p u && b) ≤ bit_of b
count_one n u false = (let e = none n in omega (arith, e))
  where
    none : (n : ℕ) → count_below n (λ p. nat_eq p u && false) ≡ 0
    none zero = refl
    none (suc n) = (let r = none n in let z : bit_of (nat_eq n u && false) ≡ 0 = ap bit_of (and-false (nat_eq n u)) in omega (arith, r, z))
count_one n u true = (let e = few n in e)
  where
    later : (n : ℕ) → n ≤ u → count_below n (λ p. nat_eq p u && true) ≡ 0
    later zero h = refl
    later (suc n) h =
        let r = later n (omega (arith, h)) in
        let off : nat_eq n u ≡ false = elim (eqb_tells n u) [ inl e ↦ absurd (let f = e.1 in omega (arith, f, h)) | inr d ↦ d.0 ] in
        let z : bit_of (nat_eq n u && true) ≡ 0 = ap (λ b. bit_of (b && true)) off in
        omega (arith, r, z)

    few : (n : ℕ) → count_below n (λ p. nat_eq p u && true) ≤ 1
    few zero = omega arith
    few (suc n) = elim (eqb_tells n u) [
      | inl e ↦ (
          let r = later n (let f = e.1 in omega (arith, f)) in
          let z : bit_of (nat_eq n u && true) ≡ 1 = ap (λ b. bit_of (b && true)) e.0 in
          omega (arith, r, z))
      | inr d ↦ (
          let r = few n in
          let z : bit_of (nat_eq n u && true) ≡ 0 = ap (λ b. bit_of (b && true)) d.0 in
          omega (arith, r, z))
    ]

ones : (n v : ℕ) → sum_below n (λ k. bit_of (nat_eq k v)) ≤ 1
ones n v =
    let a = count_one n v true in
    let b = count_as n (λ p. nat_eq p v && true) in
    let c = sum_least n (λ k. bit_of (nat_eq k v)) (λ k. bit_of (nat_eq k v && true)) (λ k l. let e = ap bit_of (and-true (nat_eq k v)) in omega (arith, e)) in
    omega (arith, a, b, c)

none_counted : (n : ℕ) → count_below n (λ p. false) ≡ 0
none_counted zero = refl
none_counted (suc n) = (let r = none_counted n in omega (arith, r))

none_cut : (size : ℕ) → pairs size (λ p n. false) ≤ 1
none_cut size =
    let a = sum_least size (λ n. count_below size (λ p. false)) (λ n. 0) (λ n l. let e = none_counted size in omega (arith, e)) in
    let b = sum_zero size in
    omega (arith, a, b)

-- one step
cut_one : (size : ℕ) (s : Step) → pairs size (λ p n. cuts p n s) ≤ 1
cut_one size (unlink u v) =
    let a = sum_least size (λ n. count_below size (λ p. nat_eq p u && nat_eq n v)) (λ n. bit_of (nat_eq n v)) (λ n l. count_one size u (nat_eq n v)) in
    let b = ones size v in
    omega (arith, a, b)
cut_one size (node t) = none_cut size
cut_one size (link u v) = none_cut size
cut_one size (drop u) = none_cut size
cut_one size (relabel u t) = none_cut size

-- all steps
pub cut_all : (size : ℕ) (c : List Step) → pairs size (λ p n. list_any (cuts p n) c) ≤ length c
cut_all size [] = (
    let a = sum_least size (λ n. count_below size (λ p. false)) (λ n. 0) (λ n l. let e = none_counted size in omega (arith, e)) in
    let b = sum_zero size in
    omega (arith, a, b))
cut_all size (s ∷ ss) =
    let first = cut_one size s in
    let rest = cut_all size ss in
    let parts = sum_least size (λ n. count_below size (λ p. cuts p n s || list_any (cuts p n) ss)) (λ n. count_below size (λ p. cuts p n s) + count_below size (λ p. list_any (cuts p n) ss))
    (λ n l. count_least size (λ p. cuts p n s || list_any (cuts p n) ss) (λ p. cuts p n s) (λ p. list_any (cuts p n) ss) (λ p k h. or_cases (cuts p n s) (list_any (cuts p n) ss) h)) in
    let both = sum_more size (λ n. count_below size (λ p. cuts p n s)) (λ n. count_below size (λ p. list_any (cuts p n) ss)) in
    omega (arith, first, rest, parts, both)

-- ---- nodes that go take their edges along

count_where : (n : ℕ) (p : ℕ → Bool) (b : Bool) → count_below n (λ k. p k && b) ≡ cond b (count_below n p) 0
count_where n p true = same n
  where
    same : (n : ℕ) → count_below n (λ k. p k && true) ≡ count_below n p
    same zero = refl
    same (suc n) = (let r = same n in let e = ap bit_of (and-true (p n)) in omega (arith, r, e))
count_where n p false = same n
  where
    same : (n : ℕ) → count_below n (λ k. p k && false) ≡ 0
    same zero = refl
    same (suc n) = (let r = same n in let e = ap bit_of (and-false (p n)) in omega (arith, r, e))

-- over all edges that begin at nodes of a set
from_set : (g : Graph) (set : ℕ → Bool) → pairs (length g.allocated) (λ p n. has_edge g p n && set p) ≤ sum_below (length g.allocated) (λ p. cond (set p) (child_count (shape_of g) p) 0)
from_set g set =
    let size = length g.allocated in
    let a = sum_least size (λ n. count_below size (λ p. has_edge g p n && set p)) (λ n. sum_below size (λ p. bit_of (has_edge g p n && set p)))
    (λ n l. let e = count_as size (λ p. has_edge g p n && set p) in omega (arith, e)) in
    let b = swapped size size (λ n p. bit_of (has_edge g p n && set p)) in
    let c = sum_least size (λ p. sum_below size (λ n. bit_of (has_edge g p n && set p))) (λ p. cond (set p) (child_count (shape_of g) p) 0)
    (λ p l. let e = count_as size (λ n. has_edge g p n && set p) in let f = count_where size (has_edge g p) (set p) in omega (arith, e, f)) in
    omega (arith, a, b, c)

-- and that end there
onto_set : (g : Graph) (set : ℕ → Bool) → pairs (length g.allocated) (λ c n. has_edge g n c && set c) ≤ sum_below (length g.allocated) (λ c. cond (set c) (parent_count (shape_of g) c) 0)
onto_set g set =
    let size = length g.allocated in
    let a = sum_least size (λ n. count_below size (λ c. has_edge g n c && set c)) (λ n. sum_below size (λ c. bit_of (has_edge g n c && set c)))
    (λ n l. let e = count_as size (λ c. has_edge g n c && set c) in omega (arith, e)) in
    let b = swapped size size (λ n c. bit_of (has_edge g n c && set c)) in
    let k = sum_least size (λ c. sum_below size (λ n. bit_of (has_edge g n c && set c))) (λ c. cond (set c) (parent_count (shape_of g) c) 0)
    (λ c l. let e = count_as size (λ n. has_edge g n c && set c) in let f = count_where size (λ n. has_edge g n c) (set c) in omega (arith, e, f)) in
    omega (arith, a, b, k)

weight_least : (g : Graph) (set : ℕ → Bool) (f : ℕ → ℕ) → ((k : ℕ) → f k ≤ weight_at (shape_of g) k) → sum_below (length g.allocated) (λ k. cond (set k) (f k) 0) ≤ weight (shape_of g) set
weight_least g set f h = sum_least (length g.allocated) (λ k. cond (set k) (f k) 0) (λ k. if set k then weight_at (shape_of g) k else 0) (λ k l. elim (cases_Bool (set k)) [
  | inl on ↦ (let e = h k in rw on e)
  | inr off ↦ rw off (omega arith)
])

-- ---- in all

-- The edges to nodes that stay which a change takes away: no more than there are steps, and what the nodes that go weigh.
pub lost_onto_few : (c : List Step) (g : Graph) → IsGraph g → CanMakeAll c g
    → sum_below (length g.allocated) (λ n. cond (is_live (after c g) n) (lost_onto g (after c g) n) 0) ≤ length c + weight (shape_of g) (is_gone g (after c g))
lost_onto_few c g graph can =
    let size = length g.allocated in
    let g2 = after c g in
    let parts = sum_least size (λ n. cond (is_live g2 n) (lost_onto g g2 n) 0) (λ n. count_below size (λ p. list_any (cuts p n) c) + count_below size (λ p. has_edge g p n && is_gone g g2 p))
    (λ n l. elim (cases_Bool (is_live g2 n)) [
      | inl on ↦ (let k = count_least size (λ p. is_lost g g2 p n) (λ p. list_any (cuts p n) c) (λ p. has_edge g p n && is_gone g g2 p) (λ p m h. lost_onto_why c g p n graph can on h) in rw on k)
      | inr off ↦ rw off (omega arith)
    ]) in
    let both = sum_more size (λ n. count_below size (λ p. list_any (cuts p n) c)) (λ n. count_below size (λ p. has_edge g p n && is_gone g g2 p)) in
    let first = cut_all size c in
    let second = from_set g (is_gone g g2) in
    let third = weight_least g (is_gone g g2) (child_count (shape_of g)) (λ k. omega arith) in
    omega (arith, parts, both, first, second, third)

-- the same for the edges from them
pub lost_from_few : (c : List Step) (g : Graph) → IsGraph g → CanMakeAll c g
    → sum_below (length g.allocated) (λ n. cond (is_live (after c g) n) (lost_from g (after c g) n) 0) ≤ length c + weight (shape_of g) (is_gone g (after c g))
lost_from_few c g graph can =
    let size = length g.allocated in
    let g2 = after c g in
    let parts = sum_least size (λ n. cond (is_live g2 n) (lost_from g g2 n) 0) (λ n. count_below size (λ m. list_any (cuts n m) c) + count_below size (λ m. has_edge g n m && is_gone g g2 m))
    (λ n l. elim (cases_Bool (is_live g2 n)) [
      | inl on ↦ (let k = count_least size (λ m. is_lost g g2 n m) (λ m. list_any (cuts n m) c) (λ m. has_edge g n m && is_gone g g2 m) (λ m j h. lost_from_why c g n m graph can on h) in rw on k)
      | inr off ↦ rw off (omega arith)
    ]) in
    let both = sum_more size (λ n. count_below size (λ m. list_any (cuts n m) c)) (λ n. count_below size (λ m. has_edge g n m && is_gone g g2 m)) in
    let turn = swapped size size (λ n m. bit_of (list_any (cuts n m) c)) in
    let rows = sum_least size (λ n. count_below size (λ m. list_any (cuts n m) c)) (λ n. sum_below size (λ m. bit_of (list_any (cuts n m) c))) (λ n l. let e = count_as size (λ m. list_any (cuts n m) c) in omega (arith, e)) in
    let columns = sum_least size (λ m. sum_below size (λ n. bit_of (list_any (cuts n m) c))) (λ m. count_below size (λ n. list_any (cuts n m) c)) (λ m l. let e = count_as size (λ n. list_any (cuts n m) c) in omega (arith, e)) in
    let first = cut_all size c in
    let second = onto_set g (is_gone g g2) in
    let third = weight_least g (is_gone g g2) (parent_count (shape_of g)) (λ k. omega arith) in
    omega (arith, parts, both, turn, rows, columns, first, second, third)

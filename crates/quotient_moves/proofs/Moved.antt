-- Edges at a node that moves.
use Rattle.std.proofs.Common.{◌≡◌, ◌≢◌, ℕ, ◌+◌, ◌<◌, ◌≤◌, ◌^◌, List, [], ◌∷◌, Option, Some, None, refl, ◌∙◌, ap, subst, arith, inl, inr, true, false, Bool, cond, not, length, take, get_or, count_by, slice_set}
use Rattle.std.specs.Prelude.{nat_eq}
use Rattle.std.specs.FinSet as set
use Rattle.std.specs.List.{sum_by}
use Rattle.std.proofs.lemmas.Bool.{and_from}
use Rattle.std.proofs.lemmas.Bool.Decides.{eqb_tells, Decides-eqb}
use Rattle.std.proofs.lemmas.List.{get_or-set_other, get_or-set_same, take_all}
use Rattle.std.proofs.lemmas.List.Sums.{sum_by-cons}
use Rattle.graph_spec.specs.Graphs.{Edges}
use Rattle.graph_spec.specs.Members.{Lists, at, is_this}
use Rattle.bisim_spec.specs.Supports.{joins, edges_between}
use Rattle.bisim_spec.specs.NodeEdges.{edges_onto, edges_from, joins_off, touching_count}
use Rattle.bisim_spec.specs.SideEdges.{edge_with}
use Rattle.bisim_spec.specs.declared.sides.Side.{Side}
use Rattle.bisim_spec.specs.declared.sides.Side.TheVariants.{Parents, Children}
use Rattle.bisim_spec.proofs.Bisimilar.{is_some_at}
use Rattle.bisim_spec.proofs.Moves.{block_from, between_most, between_moved, touching_most}
use Rattle.bisim_spec.proofs.Together.{block_below}
use Rattle.one_spec.proofs.Sums.{sum_next, sum_first}
use Rattle.quotient.specs.QuotientNeighbours.{one_if}
use Rattle.quotient_moves.specs.Shifts.{leads, lead_count, MovesNode}

-- there is a partition that differs so
pub moved_set : (n own b : ℕ) (p : List (Option ℕ)) → at p n ≡ Some own → MovesNode n own b p (slice_set p n (Some b))
moved_set n own b p e =
    let l = block_below p n (is_some_at (at p n) own e) in
    record {
      before = e;
      after = get_or-set_same p n (Some b) None l;
      others = λ m ne. get_or-set_other p n m (Some b) None ne;
    }

pub moved_same : (n own b : ℕ) (p q p2 : List (Option ℕ)) → q ≡ p → MovesNode n own b q p2 → MovesNode n own b p p2
moved_same n own b p q p2 e d = subst (λ x. MovesNode n own b x p2) e d

-- where the edge leads once the node has gone
pub leads_there : (side : Side) (n own b a m : ℕ) (p p2 : List (Option ℕ)) → MovesNode n own b p p2 → m ≢ n → at p m ≡ Some a
    → leads side p2 n (edge_with side a b).0 (edge_with side a b).1 m ≡ true
leads_there Parents n own b a m p p2 d ne e =
    and_from (is_this a (at p2 m)) (is_this b (at p2 n)) (block_from a (at p2 m) (d.others m ne ∙ e)) (block_from b (at p2 n) d.after)
leads_there Children n own b a m p p2 d ne e =
    and_from (joins p2 b a (n, m)) (not (nat_eq m n))
    (and_from (is_this b (at p2 n)) (is_this a (at p2 m)) (block_from b (at p2 n) d.after) (block_from a (at p2 m) (d.others m ne ∙ e)))
    (elim (eqb_tells m n) [ inl s ↦ absurd (ne s.1) | inr k ↦ ap not k.0 ])

pub loop_leads : (n own b m : ℕ) (p p2 : List (Option ℕ)) → MovesNode n own b p p2 → m ≡ n → leads Parents p2 n b b m ≡ true
loop_leads n own b m p p2 d e =
    and_from (is_this b (at p2 m)) (is_this b (at p2 n)) (block_from b (at p2 m) (ap (at p2) e ∙ d.after)) (block_from b (at p2 n) d.after)

one_is : (t : Bool) → t ≡ true → one_if t ≡ 1
one_is t e = ap one_if e

-- in mid-loop: an edge that is still to be shifted has support, and where it is shifted to it can be counted
pub still_some : (f f2 : ℕ → Bool) (xs : List ℕ) (i now init : ℕ) → i < length xs → f (get_or xs i 0) ≡ true
    → now + sum_by (λ q. one_if (f q)) (take i xs) ≡ init + sum_by (λ q. one_if (f2 q)) (take i xs) → sum_by (λ q. one_if (f q)) xs ≤ init → 0 < now
still_some f f2 xs i now init l e h most =
    let first = sum_first (λ q. one_if (f q)) xs i 0 l in
    let one = one_is (f (get_or xs i 0)) e in
    omega (arith, first, one, h, most)

pub still_few : (f f2 : ℕ → Bool) (xs : List ℕ) (i now init top : ℕ) → i < length xs → f2 (get_or xs i 0) ≡ true
    → now + sum_by (λ q. one_if (f q)) (take i xs) ≡ init + sum_by (λ q. one_if (f2 q)) (take i xs) → init + sum_by (λ q. one_if (f2 q)) xs ≤ top → now < top
still_few f f2 xs i now init top l e h most =
    let first = sum_first (λ q. one_if (f2 q)) xs i 0 l in
    let one = one_is (f2 (get_or xs i 0)) e in
    omega (arith, first, one, h, most)

-- one edge more is shifted
pub shifted_next : (f f2 : ℕ → Bool) (xs : List ℕ) (i now now2 init : ℕ) → i < length xs
    → now + sum_by (λ q. one_if (f q)) (take i xs) ≡ init + sum_by (λ q. one_if (f2 q)) (take i xs) → now2 + one_if (f (get_or xs i 0)) ≡ now + one_if (f2 (get_or xs i 0))
    → now2 + sum_by (λ q. one_if (f q)) (take (i + 1) xs) ≡ init + sum_by (λ q. one_if (f2 q)) (take (i + 1) xs)
shifted_next f f2 xs i now now2 init l h step =
    let a = sum_next (λ q. one_if (f q)) xs i 0 l in
    let b = sum_next (λ q. one_if (f2 q)) xs i 0 l in
    omega (arith, a, b, h, step)

-- the counts along lists of edges

count_cons : (q : ℕ × ℕ → Bool) (z : ℕ × ℕ) (zs : List (ℕ × ℕ)) → count_by q (z ∷ zs) ≡ one_if (q z) + count_by q zs
count_cons q z zs = sum_by-cons (λ (e : ℕ × ℕ). cond (q e) 1 0) z zs

count_onto : (q : ℕ × ℕ → Bool) (n : ℕ) (xs : List ℕ) → count_by q (edges_onto n xs) ≡ sum_by (λ p. one_if (q (p, n))) xs
count_onto q n [] = refl
count_onto q n (x ∷ xs) =
    let rest = count_onto q n xs in
    let a = count_cons q (x, n) (edges_onto n xs) in
    let b = sum_by-cons (λ (p : ℕ). one_if (q (p, n))) x xs in
    omega (arith, rest, a, b)

count_out : (q : ℕ × ℕ → Bool) (n : ℕ) (xs : List ℕ) → count_by q (edges_from n xs) ≡ sum_by (λ c. one_if (q (n, c))) xs
count_out q n [] = refl
count_out q n (x ∷ xs) =
    let rest = count_out q n xs in
    let a = count_cons q (n, x) (edges_from n xs) in
    let b = sum_by-cons (λ (c : ℕ). one_if (q (n, c))) x xs in
    omega (arith, rest, a, b)

pub touching_parts : (p : List (Option ℕ)) (n x y : ℕ) (parents children : List ℕ)
    → touching_count n parents children p x y ≡ lead_count Parents p n x y parents + lead_count Children p n x y children
touching_parts p n x y parents children =
    let a = count_onto (joins p x y) n parents in
    let b = count_out (joins_off n p x y) n children in
    omega (arith, a, b)

module _ (edges : Edges) (n : ℕ) (parents children : List ℕ) (lp : Lists (λ p. set.contains edges (p, n)) parents) (lc : Lists (λ c. set.contains edges (n, c)) children) where
  -- the edges at the node are among all
  pub parts_most : (p : List (Option ℕ)) (x y : ℕ) → lead_count Parents p n x y parents + lead_count Children p n x y children ≤ edges_between edges p x y
  parts_most p x y =
      let a = touching_most edges n parents children p x y lp lc in
      let b = touching_parts p n x y parents children in
      omega (arith, a, b)

  -- supports once all edges at the node are shifted
  pub shifted_all : (own b : ℕ) (p p2 : List (Option ℕ)) (x y s1 s2 : ℕ) → MovesNode n own b p p2
      → s1 + lead_count Parents p n x y parents ≡ edges_between edges p x y + lead_count Parents p2 n x y parents
      → s2 + lead_count Children p n x y children ≡ s1 + lead_count Children p2 n x y children → s2 ≡ edges_between edges p2 x y
  shifted_all own b p p2 x y s1 s2 d first second =
      let moved = between_moved edges n parents children p p2 x y (record { others = d.others }) lp lc in
      let was = touching_parts p n x y parents children in
      let now = touching_parts p2 n x y parents children in
      omega (arith, first, second, moved, was, now)

  -- both can be counted
  pub capacity_for : (p p2 : List (Option ℕ)) (x y : ℕ) → set.len edges ≤ 2 ^ 30
      → edges_between edges p x y + (lead_count Parents p2 n x y parents + lead_count Children p2 n x y children) ≤ 2 ^ 31
  capacity_for p p2 x y few =
      let a = between_most edges p x y in
      let b = between_most edges p2 x y in
      let c = parts_most p2 x y in
      omega (arith, a, b, c, few)

-- all elements are taken
pub all_taken : (xs : List ℕ) (i : ℕ) → length xs ≤ i → take i xs ≡ xs
all_taken xs i h = take_all i xs h

other_than : (m n : ℕ) → m ≢ n → nat_eq m n ≡ false
other_than m n ne = elim (eqb_tells m n) [ inl s ↦ absurd (ne s.1) | inr k ↦ k.0 ]

pub moved_at : (n own b : ℕ) (p q p2 : List (Option ℕ)) → at p n ≡ Some own → q ≡ p → ((m : ℕ) → at p2 m ≡ cond (nat_eq m n) (Some b) (at q m)) → MovesNode n own b p p2
moved_at n own b p q p2 first same moved = record {
  before = first;
  after = moved n ∙ ap (λ t. cond t (Some b) (at q n)) ((Decides-eqb n n).1 refl);
  others = λ m ne. moved m ∙ ap (λ t. cond t (Some b) (at q m)) (other_than m n ne) ∙ ap (λ (xs : List (Option ℕ)). at xs m) same;
}

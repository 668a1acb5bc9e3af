-- The edges of nodes that go, each once.
use Rattle.std.proofs.Common.{◌≡◌, ℕ, zero, suc, ◌+◌, ◌*◌, ◌<◌, ◌≤◌, Bool, true, false, List, [], ◌∷◌, ◌++◌, length, refl, sym, ap, ◌∙◌, subst, arith, inl, inr, true≢false, take, get_or}
use Rattle.std.specs.Prelude.{nat_eq, ◌&&◌, ◌||◌, not}
use Rattle.std.specs.List.{list_any, IsDistinct, AllByRecursion}
use Rattle.std.proofs.Math.Bool.{or-false, or-true, and-false, and-true}
use Rattle.std.proofs.lemmas.Bool.{cases_Bool, and_parts, or_left, or_right, false_from_ne_true}
use Rattle.std.proofs.lemmas.Bool.Decides.{eqb_tells, Decides-eqb}
use Rattle.std.proofs.lemmas.List.{append_assoc, append-nil, take_more}
use Rattle.std.proofs.lemmas.List.Folds.{list_any-append}
use Rattle.std.proofs.lemmas.Map.Keys.{IsDistinct-head, IsDistinct-tail, IsDistinct-cons}
use Rattle.graph_spec.specs.Graphs.{Graph, IsGraph, is_live, has_edge}
use Rattle.graph_spec.specs.Members.{has, Lists}
use Rattle.graph_spec.proofs.MemberLaws.{has_more, has_at}
use Rattle.graph_spec.specs.Shapes.{shape_of}
use Rattle.bisim_spec.specs.NodeEdges.{edges_from}
use Rattle.bisim_spec.specs.Weights.{weight_at}
use Rattle.one_spec.proofs.Sums.{few_lists}
use Rattle.change_spec.proofs.StepPlaces.{live_given}
use Rattle.graph_effects.specs.Effects.{same_pair, has_pair, ListsPairs, is_new_node, is_new_edge}
use Rattle.graph_effects.specs.StepEffects.{pair_if, is_cut, edges_from_live, goes_with, is_lost_with}
use Rattle.graph_effects.proofs.GoneNodes.{none_in}
use Rattle.graph_effects.proofs.NamedPairs.{if_has_pair, no_pairs, pair_self, pairs_same}

-- ---- lists of pairs behind one another

both_none : (e : ℕ × ℕ) (xs ys : List (ℕ × ℕ)) → AllByRecursion (λ y. same_pair e y ≡ false) xs → AllByRecursion (λ y. same_pair e y ≡ false) ys → AllByRecursion (λ y. same_pair e y ≡ false) (xs ++ ys)
both_none e [] ys h k = k
both_none e (x ∷ xs) ys h k = (h.0, both_none e xs ys h.1 k)

joined_once : (xs ys : List (ℕ × ℕ)) → IsDistinct same_pair xs → IsDistinct same_pair ys → ((e : ℕ × ℕ) → list_any (same_pair e) xs ≡ true → list_any (same_pair e) ys ≡ false)
    → IsDistinct same_pair (xs ++ ys)
joined_once [] ys d k apart = k
joined_once (x ∷ xs) ys d k apart =
    IsDistinct-cons same_pair x (xs ++ ys)
    (both_none x xs ys (IsDistinct-head same_pair x xs d) (none_in same_pair x ys (apart x (or_left (same_pair x x) (list_any (same_pair x) xs) (pair_self x)))))
    (joined_once xs ys (IsDistinct-tail same_pair x xs d) k (λ e h. apart e (or_right (same_pair e x) (list_any (same_pair e) xs) h)))

pairs_joined : (p q : ℕ → ℕ → Bool) (xs ys : List (ℕ × ℕ)) → ListsPairs p xs → ListsPairs q ys → ((u v : ℕ) → q u v ≡ true → p u v ≡ false) → ListsPairs (λ u v. p u v || q u v) (xs ++ ys)
pairs_joined p q xs ys l k apart = record {
  once = joined_once xs ys l.once k.once (λ e h. false_from_ne_true (list_any (same_pair e) ys) (λ t.
      true≢false (sym h ∙ l.members e.0 e.1 ∙ apart e.0 e.1 (sym (k.members e.0 e.1) ∙ t))));
  members = λ u v. list_any-append (same_pair (u, v)) xs ys ∙ ap (λ b. b || has_pair ys u v) (l.members u v) ∙ ap (λ b. p u v || b) (k.members u v);
}

-- ---- the edges at a node

absent : (x : ℕ) (xs : List ℕ) → IsDistinct nat_eq (x ∷ xs) → has xs x ≡ false
absent x xs d = none xs (IsDistinct-head nat_eq x xs d)
  where
    none : (ys : List ℕ) → AllByRecursion (λ y. nat_eq x y ≡ false) ys → has ys x ≡ false
    none [] h = refl
    none (y ∷ ys) h = rw h.0 (none ys h.1)

and_or : (a b c : Bool) → ((a && b) || (a && c)) ≡ (a && (b || c))
and_or true b c = refl
and_or false b c = refl

from_has : (n : ℕ) (cs : List ℕ) (u v : ℕ) → has_pair (edges_from n cs) u v ≡ (nat_eq u n && has cs v)
from_has n [] u v = sym (and-false (nat_eq u n))
from_has n (c ∷ cs) u v = ap (λ b. (nat_eq u n && nat_eq v c) || b) (from_has n cs u v) ∙ and_or (nat_eq u n) (nat_eq v c) (has cs v)

from_once : (n : ℕ) (cs : List ℕ) → IsDistinct nat_eq cs → IsDistinct same_pair (edges_from n cs)
from_once n [] d = no_pairs
from_once n (c ∷ cs) d =
    let out : has_pair (edges_from n cs) n c ≡ false = from_has n cs n c ∙ ap (λ b. nat_eq n n && b) (absent c cs d) ∙ and-false (nat_eq n n) in
    IsDistinct-cons same_pair (n, c) (edges_from n cs) (none_in same_pair (n, c) (edges_from n cs) out) (from_once n cs (IsDistinct-tail nat_eq c cs d))

-- the children of a node
from_lists : (g : Graph) (n : ℕ) (cs : List ℕ) → Lists (has_edge g n) cs → ListsPairs (λ u v. nat_eq u n && has_edge g n v) (edges_from n cs)
from_lists g n cs l = record { once = from_once n cs l.once; members = λ u v. from_has n cs u v ∙ ap (λ b. nat_eq u n && b) (l.members v) }

onto_has : (g2 : Graph) (n : ℕ) (ps : List ℕ) (u v : ℕ) → has_pair (edges_from_live g2 n ps) u v ≡ (nat_eq v n && (is_live g2 u && has ps u))
onto_has g2 n [] u v = sym (ap (λ b. nat_eq v n && b) (and-false (is_live g2 u)) ∙ and-false (nat_eq v n))
onto_has g2 n (p ∷ ps) u v =
    list_any-append (same_pair (u, v)) (pair_if (is_live g2 p) (p, n)) (edges_from_live g2 n ps)
    ∙ ap (λ b. b || has_pair (edges_from_live g2 n ps) u v) (if_has_pair (is_live g2 p) (p, n) u v)
    ∙ ap (λ b. (is_live g2 p && (nat_eq u p && nat_eq v n)) || b) (onto_has g2 n ps u v)
    ∙ elim (eqb_tells u p) [
      | inl e ↦ (
          let same : is_live g2 p ≡ is_live g2 u = ap (is_live g2) (sym e.1) in
          rw (e.0, same) (first (is_live g2 u) (nat_eq v n) (has ps u)))
      | inr d ↦ rw d.0 (ap (λ b. b || (nat_eq v n && (is_live g2 u && has ps u))) (and-false (is_live g2 p)))
    ]
  where
    first : (l b h : Bool) → ((l && (true && b)) || (b && (l && h))) ≡ (b && (l && (true || h)))
    first true true h = refl
    first true false h = refl
    first false true h = refl
    first false false h = refl

onto_once : (g2 : Graph) (n : ℕ) (ps : List ℕ) → IsDistinct nat_eq ps → IsDistinct same_pair (edges_from_live g2 n ps)
onto_once g2 n [] d = no_pairs
onto_once g2 n (p ∷ ps) d = elim (cases_Bool (is_live g2 p)) [
  | inr off ↦ rw off (onto_once g2 n ps (IsDistinct-tail nat_eq p ps d))
  | inl on ↦ (
      let out : has_pair (edges_from_live g2 n ps) p n ≡ false = onto_has g2 n ps p n ∙ ap (λ b. nat_eq n n && (is_live g2 p && b)) (absent p ps d)
      ∙ ap (λ b. nat_eq n n && b) (and-false (is_live g2 p)) ∙ and-false (nat_eq n n) in
      rw on (IsDistinct-cons same_pair (p, n) (edges_from_live g2 n ps) (none_in same_pair (p, n) (edges_from_live g2 n ps) out) (onto_once g2 n ps (IsDistinct-tail nat_eq p ps d))))
]

-- the parents of a node that stay
onto_lists : (g g2 : Graph) (n : ℕ) (ps : List ℕ) → Lists (λ p. has_edge g p n) ps → ListsPairs (λ u v. nat_eq v n && (is_live g2 u && has_edge g u n)) (edges_from_live g2 n ps)
onto_lists g g2 n ps l = record {
  once = onto_once g2 n ps l.once;
  members = λ u v. onto_has g2 n ps u v ∙ ap (λ b. nat_eq v n && (is_live g2 u && b)) (l.members u);
}

-- The edges of a node that goes: those from it, and those to it from nodes that stay.
goes_lists : (g g2 : Graph) (n : ℕ) (cs ps : List ℕ) → is_live g2 n ≡ false → Lists (has_edge g n) cs → Lists (λ p. has_edge g p n) ps
    → ListsPairs (goes_with g g2 n) (edges_from n cs ++ edges_from_live g2 n ps)
goes_lists g g2 n cs ps gone children parents =
    pairs_same (λ u v. (nat_eq u n && has_edge g n v) || (nat_eq v n && (is_live g2 u && has_edge g u n))) (goes_with g g2 n) (edges_from n cs ++ edges_from_live g2 n ps) same
    (pairs_joined (λ u v. nat_eq u n && has_edge g n v) (λ u v. nat_eq v n && (is_live g2 u && has_edge g u n)) (edges_from n cs) (edges_from_live g2 n ps)
    (from_lists g n cs children) (onto_lists g g2 n ps parents) apart)
  where
    apart : (u v : ℕ) → (nat_eq v n && (is_live g2 u && has_edge g u n)) ≡ true → (nat_eq u n && has_edge g n v) ≡ false
    apart u v h = elim (eqb_tells u n) [
      | inr d ↦ ap (λ b. b && has_edge g n v) d.0
      | inl e ↦ (
          let live = (and_parts (is_live g2 u) (has_edge g u n) (and_parts (nat_eq v n) (is_live g2 u && has_edge g u n) h).1).0 in
          absurd (true≢false (sym live ∙ ap (is_live g2) e.1 ∙ gone)))
    ]

    from_same : (u v : ℕ) → (nat_eq u n && has_edge g n v) ≡ (nat_eq u n && has_edge g u v)
    from_same u v = elim (eqb_tells u n) [
      | inl e ↦ ap (λ m. nat_eq u n && has_edge g m v) (sym e.1)
      | inr d ↦ rw d.0 refl
    ]

    onto_same : (u v : ℕ) → (nat_eq v n && (is_live g2 u && has_edge g u n)) ≡ (nat_eq v n && (is_live g2 u && has_edge g u v))
    onto_same u v = elim (eqb_tells v n) [
      | inl e ↦ ap (λ m. nat_eq v n && (is_live g2 u && has_edge g u m)) (sym e.1)
      | inr d ↦ rw d.0 refl
    ]

    plain : (x y l e : Bool) → ((x && e) || (y && (l && e))) ≡ (e && (x || (y && l)))
    plain x y l true = rw (and-true x, and-true l) refl
    plain x y l false = rw (and-false x, and-false l) (and-false y)

    same : (u v : ℕ) → ((nat_eq u n && has_edge g n v) || (nat_eq v n && (is_live g2 u && has_edge g u n))) ≡ goes_with g g2 n u v
    same u v =
        ap (λ b. b || (nat_eq v n && (is_live g2 u && has_edge g u n))) (from_same u v) ∙ ap (λ b. (nat_eq u n && has_edge g u v) || b) (onto_same u v)
        ∙ plain (nat_eq u n) (nat_eq v n) (is_live g2 u) (has_edge g u v)

pub goes_next : (g g2 : Graph) (n : ℕ) (cs ps : List ℕ) (xs ys zs : List (ℕ × ℕ)) → is_live g2 n ≡ false → Lists (has_edge g n) cs → Lists (λ p. has_edge g p n) ps
    → ys ≡ xs ++ edges_from n cs → zs ≡ ys ++ edges_from_live g2 n ps → (p : ℕ → ℕ → Bool) → ListsPairs p xs → ((u v : ℕ) → goes_with g g2 n u v ≡ true → p u v ≡ false)
    → ListsPairs (λ u v. p u v || goes_with g g2 n u v) zs
goes_next g g2 n cs ps xs ys zs gone children parents e f p l apart =
    subst (ListsPairs (λ u v. p u v || goes_with g g2 n u v))
    (sym (f ∙ ap (λ t. t ++ edges_from_live g2 n ps) e ∙ append_assoc xs (edges_from n cs) (edges_from_live g2 n ps)))
    (pairs_joined p (goes_with g g2 n) xs (edges_from n cs ++ edges_from_live g2 n ps) l (goes_lists g g2 n cs ps gone children parents) apart)

pub from_next : (n : ℕ) (cs : List ℕ) (i : ℕ) (xs ys zs : List (ℕ × ℕ)) → i < length cs → ys ≡ xs ++ edges_from n (take i cs) → zs ≡ ys ++ (n, get_or cs i 0) ∷ []
    → zs ≡ xs ++ edges_from n (take (i + 1) cs)
from_next n cs i xs ys zs l e f =
    let c = get_or cs i 0 in
    f ∙ ap (λ t. t ++ (n, c) ∷ []) e ∙ append_assoc xs (edges_from n (take i cs)) ((n, c) ∷ [])
    ∙ ap (λ t. xs ++ t) (sym (ap (edges_from n) (take_more cs i 0 l) ∙ joined (take i cs) c))
  where
    joined : (front : List ℕ) (c : ℕ) → edges_from n (front ++ c ∷ []) ≡ edges_from n front ++ (n, c) ∷ []
    joined [] c = refl
    joined (a ∷ front) c = ap (λ t. (n, a) ∷ t) (joined front c)

pub onto_next : (g2 : Graph) (n : ℕ) (ps : List ℕ) (i : ℕ) (xs ys zs : List (ℕ × ℕ)) → i < length ps → ys ≡ xs ++ edges_from_live g2 n (take i ps)
    → zs ≡ ys ++ pair_if (is_live g2 (get_or ps i 0)) (get_or ps i 0, n) → zs ≡ xs ++ edges_from_live g2 n (take (i + 1) ps)
onto_next g2 n ps i xs ys zs l e f =
    let p = get_or ps i 0 in
    f ∙ ap (λ t. t ++ pair_if (is_live g2 p) (p, n)) e ∙ append_assoc xs (edges_from_live g2 n (take i ps)) (pair_if (is_live g2 p) (p, n))
    ∙ ap (λ t. xs ++ t) (sym (ap (edges_from_live g2 n) (take_more ps i 0 l) ∙ joined (take i ps) p))
  where
    joined : (front : List ℕ) (c : ℕ) → edges_from_live g2 n (front ++ c ∷ []) ≡ edges_from_live g2 n front ++ pair_if (is_live g2 c) (c, n)
    joined [] c = append-nil (pair_if (is_live g2 c) (c, n))
    joined (a ∷ front) c = ap (λ t. pair_if (is_live g2 a) (a, n) ++ t) (joined front c) ∙ sym (append_assoc (pair_if (is_live g2 a) (a, n)) (edges_from_live g2 n front) (pair_if (is_live g2 c) (c, n)))

-- what it takes to read them
pub node_cost : (g h : Graph) (n : ℕ) (cs ps : List ℕ) → g ≡ h → IsGraph g → Lists (has_edge h n) cs → Lists (λ p. has_edge h p n) ps → 2 + length cs + length ps ≤ 2 * weight_at (shape_of g) n
node_cost g h n cs ps same graph children parents =
    let few = few_lists (length g.allocated) (has_edge g n) cs (subst (λ (k : Graph). Lists (has_edge k n) cs) (sym same) children) (λ v e. live_given g v (graph.onto n v e)) in
    let few2 = few_lists (length g.allocated) (λ p. has_edge g p n) ps (subst (λ (k : Graph). Lists (λ p. has_edge k p n) ps) (sym same) parents) (λ p e. live_given g p (graph.from p n e)) in
    omega (arith, few, few2)

-- ---- the edges of all nodes that go

pub lost_none : (g g2 : Graph) (xs : List (ℕ × ℕ)) → ListsPairs (is_cut g g2) xs → ListsPairs (is_lost_with g g2 []) xs
lost_none g g2 xs l = pairs_same (is_cut g g2) (is_lost_with g g2 []) xs (λ u v. ap (λ b. is_new_edge g2 g u v && b) (sym (or-false (is_live g2 u && is_live g2 v)))) l

-- nodes that go aren't live in the end
off_after : (g g2 : Graph) (gone : List ℕ) (n : ℕ) → Lists (is_new_node g2 g) gone → has gone n ≡ true → is_live g2 n ≡ false
off_after g g2 gone n l h = off (is_live g n) (is_live g2 n) (sym (l.members n) ∙ h)
  where
    off : (a b : Bool) → (a && not b) ≡ true → b ≡ false
    off a true h = absurd (true≢false (sym h ∙ and-false a))
    off a false h = refl

front_once : (xs : List ℕ) (i d : ℕ) → IsDistinct nat_eq xs → i < length xs → has (take i xs) (get_or xs i d) ≡ false
front_once [] i d once l = absurd (omega (arith, l))
front_once (x ∷ xs) zero d once l = refl
front_once (x ∷ xs) (suc i) d once l =
    let there = has_at xs i d (omega (arith, l)) in
    let apart : nat_eq (get_or xs i d) x ≡ false = elim (eqb_tells (get_or xs i d) x) [
      | inl e ↦ absurd (true≢false (sym there ∙ ap (has xs) e.1 ∙ absent x xs once))
      | inr k ↦ k.0
    ] in
    ap (λ b. b || has (take i xs) (get_or xs i d)) apart ∙ front_once xs i d (IsDistinct-tail nat_eq x xs once) (omega (arith, l))

front_has : (xs : List ℕ) (i n : ℕ) → has (take i xs) n ≡ true → has xs n ≡ true
front_has [] zero n h = h
front_has [] (suc i) n h = h
front_has (x ∷ xs) zero n h = absurd (true≢false (sym h))
front_has (x ∷ xs) (suc i) n h = elim (cases_Bool (nat_eq n x)) [
  | inl on ↦ or_left (nat_eq n x) (has xs n) on
  | inr off ↦ or_right (nat_eq n x) (has xs n) (front_has xs i n (sym (ap (λ b. b || has (take i xs) n) off) ∙ h))
]

-- the next node isn't live in the end
pub next_off : (g g2 : Graph) (gone : List ℕ) (i : ℕ) → Lists (is_new_node g2 g) gone → i < length gone → is_live g2 (get_or gone i 0) ≡ false
next_off g g2 gone i l below = off_after g g2 gone (get_or gone i 0) l (has_at gone i 0 below)

-- what goes with the next node hasn't been met
pub next_apart : (g g2 : Graph) (gone : List ℕ) (i : ℕ) → Lists (is_new_node g2 g) gone → i < length gone → (u v : ℕ) → goes_with g g2 (get_or gone i 0) u v ≡ true
    → is_lost_with g g2 (take i gone) u v ≡ false
next_apart g g2 gone i l below u v h =
    let n = get_or gone i 0 in
    let off = next_off g g2 gone i l below in
    let new : has (take i gone) n ≡ false = front_once gone i 0 l.once below in
    let which = (and_parts (has_edge g u v) (nat_eq u n || (nat_eq v n && is_live g2 u)) h).1 in
    elim (eqb_tells u n) [
      | inl e ↦ (
          let a : is_live g2 u ≡ false = ap (is_live g2) e.1 ∙ off in
          let b : has (take i gone) u ≡ false = ap (has (take i gone)) e.1 ∙ new in
          rw (a, b) (ap (λ t. is_new_edge g2 g u v && t) (and-false (has (take i gone) v)) ∙ and-false (is_new_edge g2 g u v)))
      | inr d ↦ (
          let both = and_parts (nat_eq v n) (is_live g2 u) (sym (ap (λ b. b || (nat_eq v n && is_live g2 u)) d.0) ∙ which) in
          let same = (Decides-eqb v n).0 both.0 in
          let a : is_live g2 v ≡ false = ap (is_live g2) same ∙ off in
          let b : has (take i gone) v ≡ false = ap (has (take i gone)) same ∙ new in
          let k : has (take i gone) u ≡ false = false_from_ne_true (has (take i gone) u) (λ t. true≢false (sym both.1 ∙ off_after g g2 gone u l (front_has gone i u t))) in
          rw (a, b, k) (ap (λ t. is_new_edge g2 g u v && (t || false)) (and-false (is_live g2 u)) ∙ and-false (is_new_edge g2 g u v)))
    ]

-- one node more
pub lost_next : (g g2 : Graph) (gone : List ℕ) (i : ℕ) (ys : List (ℕ × ℕ)) → IsGraph g2 → Lists (is_new_node g2 g) gone → i < length gone
    → ListsPairs (λ u v. is_lost_with g g2 (take i gone) u v || goes_with g g2 (get_or gone i 0) u v) ys → ListsPairs (is_lost_with g g2 (take (i + 1) gone)) ys
lost_next g g2 gone i ys graph l below listed =
    pairs_same (λ u v. is_lost_with g g2 (take i gone) u v || goes_with g g2 n u v) (is_lost_with g g2 (take (i + 1) gone)) ys same listed
  where
    n : ℕ
    n = get_or gone i 0

    off : is_live g2 n ≡ false
    off = next_off g g2 gone i l below

    more : (m : ℕ) → has (take (i + 1) gone) m ≡ (has (take i gone) m || nat_eq m n)
    more m = has_more gone i 0 m below

    -- such an edge isn't there in the end
    none : (u v : ℕ) → (nat_eq u n || (nat_eq v n && is_live g2 u)) ≡ true → has_edge g2 u v ≡ false
    none u v h = false_from_ne_true (has_edge g2 u v) (λ t. elim (eqb_tells u n) [
      | inl e ↦ true≢false (sym (graph.from u v t) ∙ ap (is_live g2) e.1 ∙ off)
      | inr d ↦ (
          let both = and_parts (nat_eq v n) (is_live g2 u) (sym (ap (λ b. b || (nat_eq v n && is_live g2 u)) d.0) ∙ h) in
          true≢false (sym (graph.onto u v t) ∙ ap (is_live g2) ((Decides-eqb v n).0 both.0) ∙ off))
    ])

    goes_new : (e f k : Bool) → (k ≡ true → f ≡ false) → (e && k) ≡ ((e && not f) && k)
    goes_new e f true h = rw (h refl) (sym (ap (λ b. b && true) (and-true e)))
    goes_new e f false h = and-false e ∙ sym (and-false (e && not f))

    -- the tests of both ends
    wider : (s da db la x y : Bool) → ((s || (da || (db && la))) || (x || (y && la))) ≡ (s || ((da || x) || ((db || y) && la)))
    wider true da db la x y = refl
    wider false true db la x y = refl
    wider false false db true true y = or-true (db && true)
    wider false false db false true y = or-true (db && false)
    wider false false true true false y = refl
    wider false false true false false true = refl
    wider false false true false false false = refl
    wider false false false la false y = refl

    spread : (m a b : Bool) → ((m && a) || (m && b)) ≡ (m && (a || b))
    spread true a b = refl
    spread false a b = refl

    same : (u v : ℕ) → (is_lost_with g g2 (take i gone) u v || goes_with g g2 n u v) ≡ is_lost_with g g2 (take (i + 1) gone) u v
    same u v =
        let k : Bool = nat_eq u n || (nat_eq v n && is_live g2 u) in
        let s : Bool = is_live g2 u && is_live g2 v in
        let new : Bool = has_edge g u v && not (has_edge g2 u v) in
        ap (λ b. is_lost_with g g2 (take i gone) u v || b) (goes_new (has_edge g u v) (has_edge g2 u v) (nat_eq u n || (nat_eq v n && is_live g2 u)) (none u v))
        ∙ spread new (s || (has (take i gone) u || (has (take i gone) v && is_live g2 u))) k
        ∙ ap (λ b. new && b) (wider s (has (take i gone) u) (has (take i gone) v) (is_live g2 u) (nat_eq u n) (nat_eq v n))
        ∙ sym (ap (λ b. new && (s || (b || (has (take (i + 1) gone) v && is_live g2 u)))) (more u)
        ∙ ap (λ b. new && (s || ((has (take i gone) u || nat_eq u n) || (b && is_live g2 u)))) (more v))

-- in all
pub lost_all : (g g2 : Graph) (gone : List ℕ) (ys : List (ℕ × ℕ)) → IsGraph g → Lists (is_new_node g2 g) gone → ListsPairs (is_lost_with g g2 gone) ys → ListsPairs (is_new_edge g2 g) ys
lost_all g g2 gone ys graph l listed = pairs_same (is_lost_with g g2 gone) (is_new_edge g2 g) ys same listed
  where
    plain : (e f lu lv gu gv : Bool) → (e ≡ true → gu ≡ not lu) → (e ≡ true → gv ≡ not lv) → ((e && not f) && ((lu && lv) || (gu || (gv && lu)))) ≡ (e && not f)
    plain false f lu lv gu gv h k = refl
    plain true true lu lv gu gv h k = refl
    plain true false lu lv gu gv h k = rw (h refl, k refl) (ends lu lv)
      where
        ends : (lu lv : Bool) → ((lu && lv) || (not lu || (not lv && lu))) ≡ true
        ends true true = refl
        ends true false = refl
        ends false lv = refl

    goes : (m : ℕ) → is_live g m ≡ true → has gone m ≡ not (is_live g2 m)
    goes m h = l.members m ∙ ap (λ b. b && not (is_live g2 m)) h

    same : (u v : ℕ) → is_lost_with g g2 gone u v ≡ is_new_edge g2 g u v
    same u v = plain (has_edge g u v) (has_edge g2 u v) (is_live g2 u) (is_live g2 v) (has gone u) (has gone v) (λ e. goes u (graph.from u v e)) (λ e. goes v (graph.onto u v e))

-- Supports over the set of edges: what they say of blocks, what a move of one node makes of them, and an edge that
-- comes or goes.
use Rattle.std.proofs.Common.{◌≡◌, ℕ, ◌+◌, ◌≤◌, List, [], ◌∷◌, Option, Some, None, refl, sym, ◌∙◌, ap, arith, inl, inr, true, false, Bool, ◌&&◌, not, cond, count_by, true≢false}
use Rattle.std.specs.Prelude.{nat_eq, ◌||◌}
use Rattle.std.specs.List.{IsDistinct, AllByRecursion, list_any}
use Rattle.std.specs.FinSet as set
use Rattle.std.proofs.Math.Bool.{and-false, or-false}
use Rattle.std.proofs.lemmas.Bool.{cases_Bool, and_parts}
use Rattle.std.proofs.lemmas.Bool.Decides.{eqb_tells, Decides-eqb}
use Rattle.graph_spec.specs.Graphs.{Edges}
use Rattle.graph_spec.specs.Members.{has, Lists, is_this}
use Rattle.graph_spec.proofs.EdgeOrder.{edge_cmp_total, edge_cmp-IsAntisymmetric, eq_pair}
use Rattle.bisim_spec.specs.Supports.{joins, edges_between}
use Rattle.bisim_spec.specs.NodeEdges.{edges_onto, edges_from, touching_count, DifferAlone}
use Rattle.bisim_spec.proofs.EdgeSets.{eq, eq_is, eq_self, kept, same_len, kept_len, count_cons, len_more}

pub block_get : (a : ℕ) (o : Option ℕ) → is_this a o ≡ true → o ≡ Some a
block_get a None h = absurd (cc)
block_get a (Some b) h = ap Some (sym ((Decides-eqb a b).0 h))

pub block_from : (a : ℕ) (o : Option ℕ) → o ≡ Some a → is_this a o ≡ true
block_from a o e = rw e ((Decides-eqb a a).1 refl)

-- no more edges lead from one block to another than there are
pub between_most : (edges : Edges) (block : List (Option ℕ)) (x y : ℕ) → edges_between edges block x y ≤ set.len edges
between_most edges block x y = kept_len edges (joins block x y)

-- the lists of the edges at a node

and_or : (x y z : Bool) → ((x && y) || (x && z)) ≡ (x && (y || z))
and_or true y z = refl
and_or false y z = refl

or_and : (x y z : Bool) → ((y && x) || (z && x)) ≡ ((y || z) && x)
or_and true true z = refl
or_and true false z = refl
or_and false true true = refl
or_and false true false = refl
or_and false false true = refl
or_and false false false = refl

and_swap : (x y : Bool) → (x && y) ≡ (y && x)
and_swap true true = refl
and_swap true false = refl
and_swap false true = refl
and_swap false false = refl

pub onto_has : (u v n : ℕ) (ps : List ℕ) → list_any (eq (u, v)) (edges_onto n ps) ≡ (nat_eq v n && has ps u)
onto_has u v n [] = sym (and-false (nat_eq v n))
onto_has u v n (p ∷ ps) = rw (eq_pair u v p n, onto_has u v n ps, and_swap (nat_eq u p) (nat_eq v n)) (and_or (nat_eq v n) (nat_eq u p) (has ps u))

pub from_has : (u v n : ℕ) (cs : List ℕ) → list_any (eq (u, v)) (edges_from n cs) ≡ (nat_eq u n && has cs v)
from_has u v n [] = sym (and-false (nat_eq u n))
from_has u v n (c ∷ cs) = rw (eq_pair u v n c, from_has u v n cs) (and_or (nat_eq u n) (nat_eq v c) (has cs v))

onto_apart : (n p : ℕ) (ps : List ℕ) → AllByRecursion (λ d. nat_eq p d ≡ false) ps → AllByRecursion (λ e. eq (p, n) e ≡ false) (edges_onto n ps)
onto_apart n p [] h = tt
onto_apart n p (d ∷ ds) h = (eq_pair p n d n ∙ rw h.0 refl, onto_apart n p ds h.1)

pub onto_distinct : (n : ℕ) (ps : List ℕ) → IsDistinct nat_eq ps → IsDistinct eq (edges_onto n ps)
unfolding IsDistinct
onto_distinct n [] d = tt
onto_distinct n (p ∷ ps) d = (onto_apart n p ps d.0, onto_distinct n ps d.1)

from_apart : (n c : ℕ) (cs : List ℕ) → AllByRecursion (λ d. nat_eq c d ≡ false) cs → AllByRecursion (λ e. eq (n, c) e ≡ false) (edges_from n cs)
from_apart n c [] h = tt
from_apart n c (d ∷ ds) h = (eq_pair n c n d ∙ rw h.0 (and-false (nat_eq n n)), from_apart n c ds h.1)

pub from_distinct : (n : ℕ) (cs : List ℕ) → IsDistinct nat_eq cs → IsDistinct eq (edges_from n cs)
unfolding IsDistinct
from_distinct n [] d = tt
from_distinct n (c ∷ cs) d = (from_apart n c cs d.0, from_distinct n cs d.1)

-- a move of one node

-- the edge passes, and isn't at the node
abbrev off_at : ℕ → (ℕ × ℕ → Bool) → ℕ × ℕ → Bool
off_at n j e = (not (nat_eq e.1 n) && not (nat_eq e.0 n)) && j e

-- the edge passes, and ends at the node or isn't at it
abbrev onto_or_off : ℕ → (ℕ × ℕ → Bool) → ℕ × ℕ → Bool
onto_or_off n j e = (nat_eq e.1 n || not (nat_eq e.0 n)) && j e

-- the edge passes, and doesn't end at the node
abbrev not_onto : ℕ → (ℕ × ℕ → Bool) → ℕ × ℕ → Bool
not_onto n j e = j e && not (nat_eq e.1 n)

-- The edges that pass, by where they lie: not at the node, onto it, and from it to others.
counted_at : (edges : Edges) (n : ℕ) (parents children : List ℕ) (j : ℕ × ℕ → Bool) → Lists (λ p. set.contains edges (p, n)) parents
    → Lists (λ c. set.contains edges (n, c)) children
    → set.len (set.retain edges j) ≡ set.len (set.retain edges (off_at n j)) + count_by j (edges_onto n parents) + count_by (not_onto n j) (edges_from n children)
counted_at edges n parents children j lp lc =
    let first = len_more j (set.retain edges (off_at n j)) (edges_onto n parents) (onto_distinct n parents lp.once) onto_new (set.retain edges (onto_or_off n j)) onto_all in
    let second = len_more (not_onto n j) (set.retain edges (onto_or_off n j)) (edges_from n children) (from_distinct n children lc.once) from_new (set.retain edges j) from_all in
    omega (arith, first, second)
  where
    onto_new : (k : ℕ × ℕ) → list_any (eq k) (edges_onto n parents) ≡ true → j k ≡ true → set.contains (set.retain edges (off_at n j)) k ≡ false
    onto_new (u, v) h g =
        let ends : nat_eq v n ≡ true = (and_parts (nat_eq v n) (has parents u) (sym (onto_has u v n parents) ∙ h)).0 in
        kept edges (off_at n j) (u, v) ∙ rw ends (and-false (set.contains edges (u, v)))

    onto_all : (k : ℕ × ℕ) → set.contains (set.retain edges (onto_or_off n j)) k ≡ ((list_any (eq k) (edges_onto n parents) && j k) || set.contains (set.retain edges (off_at n j)) k)
    onto_all (u, v) = rw (kept edges (onto_or_off n j) (u, v), kept edges (off_at n j) (u, v), onto_has u v n parents) (elim (eqb_tells v n) [
      | inl s ↦ (
          let e = s.1 in
          let member : has parents u ≡ set.contains edges (u, v) = lp.members u ∙ ap (λ m. set.contains edges (u, m)) (sym e) in
          rw (member, s.0) (here (set.contains edges (u, v)) (j (u, v))))
      | inr d ↦ rw d.0 refl
    ])
      where
        here : (c x : Bool) → (c && x) ≡ ((c && x) || (c && false))
        here true true = refl
        here true false = refl
        here false x = refl

    from_new : (k : ℕ × ℕ) → list_any (eq k) (edges_from n children) ≡ true → not_onto n j k ≡ true → set.contains (set.retain edges (onto_or_off n j)) k ≡ false
    from_new (u, v) h g =
        let begins : nat_eq u n ≡ true = (and_parts (nat_eq u n) (has children v) (sym (from_has u v n children) ∙ h)).0 in
        let off : not (nat_eq v n) ≡ true = (and_parts (j (u, v)) (not (nat_eq v n)) g).1 in
        elim (eqb_tells v n) [
          | inl s ↦ absurd (true≢false (sym off ∙ ap not s.0))
          | inr d ↦ kept edges (onto_or_off n j) (u, v) ∙ rw (d.0, begins) (and-false (set.contains edges (u, v)))
        ]

    from_all : (k : ℕ × ℕ) → set.contains (set.retain edges j) k ≡ ((list_any (eq k) (edges_from n children) && not_onto n j k) || set.contains (set.retain edges (onto_or_off n j)) k)
    from_all (u, v) = rw (kept edges j (u, v), kept edges (onto_or_off n j) (u, v), from_has u v n children) (elim (eqb_tells u n) [
      | inl s ↦ (
          let e = s.1 in
          let member : has children v ≡ set.contains edges (u, v) = lc.members v ∙ ap (λ m. set.contains edges (m, v)) (sym e) in
          rw (member, s.0) (here (set.contains edges (u, v)) (j (u, v)) (nat_eq v n)))
      | inr d ↦ rw d.0 (elsewhere (set.contains edges (u, v)) (j (u, v)) (nat_eq v n))
    ])
      where
        here : (c x b : Bool) → (c && x) ≡ ((c && (x && not b)) || (c && ((b || false) && x)))
        here true true true = refl
        here true true false = refl
        here true false true = refl
        here true false false = refl
        here false x b = refl

        elsewhere : (c x b : Bool) → (c && x) ≡ (c && ((b || true) && x))
        elsewhere c x true = refl
        elsewhere c x false = refl

-- edges that aren't at the node join the same blocks after its move
off_same : (edges : Edges) (n : ℕ) (block block2 : List (Option ℕ)) (x y : ℕ) → DifferAlone n block block2
    → set.len (set.retain edges (off_at n (joins block2 x y))) ≡ set.len (set.retain edges (off_at n (joins block x y)))
off_same edges n block block2 x y d = same_len (set.retain edges (off_at n (joins block2 x y))) (set.retain edges (off_at n (joins block x y))) each
  where
    each : (k : ℕ × ℕ) → set.contains (set.retain edges (off_at n (joins block2 x y))) k ≡ set.contains (set.retain edges (off_at n (joins block x y))) k
    each (u, v) = rw (kept edges (off_at n (joins block2 x y)) (u, v), kept edges (off_at n (joins block x y)) (u, v)) (elim (eqb_tells v n) [
      | inl s ↦ rw s.0 refl
      | inr dv ↦ elim (eqb_tells u n) [
        | inl s ↦ rw (dv.0, s.0) refl
        | inr du ↦ rw (d.others u du.1, d.others v dv.1) refl
      ]
    ])

-- A move of a node takes its edges out of the supports as they joined blocks, and puts them in as they join then.
pub between_moved : (edges : Edges) (n : ℕ) (parents children : List ℕ) (block block2 : List (Option ℕ)) (x y : ℕ) → DifferAlone n block block2
    → Lists (λ p. set.contains edges (p, n)) parents → Lists (λ c. set.contains edges (n, c)) children
    → edges_between edges block2 x y + touching_count n parents children block x y ≡ edges_between edges block x y + touching_count n parents children block2 x y
between_moved edges n parents children block block2 x y d lp lc =
    let now = counted_at edges n parents children (joins block2 x y) lp lc in
    let was = counted_at edges n parents children (joins block x y) lp lc in
    let same = off_same edges n block block2 x y d in
    omega (arith, now, was, same)

-- the edges at a node are among all
pub touching_most : (edges : Edges) (n : ℕ) (parents children : List ℕ) (block : List (Option ℕ)) (x y : ℕ)
    → Lists (λ p. set.contains edges (p, n)) parents → Lists (λ c. set.contains edges (n, c)) children
    → touching_count n parents children block x y ≤ edges_between edges block x y
touching_most edges n parents children block x y lp lc =
    let was = counted_at edges n parents children (joins block x y) lp lc in
    omega (arith, was)

-- an edge that comes or goes

one_distinct : (e : ℕ × ℕ) → IsDistinct eq (e ∷ [])
unfolding IsDistinct
one_distinct e = (tt, tt)

one_counted : (q : ℕ × ℕ → Bool) (e : ℕ × ℕ) → count_by q (e ∷ []) ≡ cond (q e) 1 0
one_counted q e = let l = count_cons q e [] in omega (arith, l)

-- an edge that comes adds one to the support of the two blocks that it joins
pub between_linked : (edges : Edges) (u v : ℕ) (block : List (Option ℕ)) (x y : ℕ) → set.contains edges (u, v) ≡ false
    → edges_between (set.insert edges (u, v)) block x y ≡ edges_between edges block x y + cond (joins block x y (u, v)) 1 0
between_linked edges u v block x y none =
    let longer = len_more j (set.retain edges j) ((u, v) ∷ []) (one_distinct (u, v)) (λ k h g. kept edges j k ∙ ap (λ c. c && j k) (absent k h)) (set.retain (set.insert edges (u, v)) j) each in
    let one = one_counted j (u, v) in
    omega (arith, longer, one)
  where
    j : ℕ × ℕ → Bool
    j = joins block x y

    absent : (k : ℕ × ℕ) → list_any (eq k) ((u, v) ∷ []) ≡ true → set.contains edges k ≡ false
    absent k h = ap (set.contains edges) (eq_is k (u, v) (sym (or-false (eq k (u, v))) ∙ h)) ∙ none

    each : (k : ℕ × ℕ) → set.contains (set.retain (set.insert edges (u, v)) j) k ≡ ((list_any (eq k) ((u, v) ∷ []) && j k) || set.contains (set.retain edges j) k)
    each k =
        rw (kept (set.insert edges (u, v)) j k, set.contains-insert edge_cmp_total edges (u, v) k, kept edges j k, or-false (eq k (u, v)))
        (sym (or_and (j k) (eq k (u, v)) (set.contains edges k)))

-- an edge that goes takes one from it
pub between_unlinked : (edges : Edges) (u v : ℕ) (block : List (Option ℕ)) (x y : ℕ) → set.contains edges (u, v) ≡ true
    → edges_between (set.remove edges (u, v)) block x y + cond (joins block x y (u, v)) 1 0 ≡ edges_between edges block x y
between_unlinked edges u v block x y there =
    let back : set.insert (set.remove edges (u, v)) (u, v) ≡ edges = set.same_set edge_cmp_total edge_cmp-IsAntisymmetric (set.insert (set.remove edges (u, v)) (u, v)) edges again in
    let l = between_linked (set.remove edges (u, v)) u v block x y gone in
    sym l ∙ ap (λ (es : Edges). edges_between es block x y) back
  where
    gone : set.contains (set.remove edges (u, v)) (u, v) ≡ false
    gone = set.contains-remove edge_cmp_total edges (u, v) (u, v) ∙ ap (λ c. not c && set.contains edges (u, v)) (eq_self (u, v))

    again : (k : ℕ × ℕ) → set.contains (set.insert (set.remove edges (u, v)) (u, v)) k ≡ set.contains edges k
    again k = rw (set.contains-insert edge_cmp_total (set.remove edges (u, v)) (u, v) k, set.contains-remove edge_cmp_total edges (u, v) k) (elim (cases_Bool (eq k (u, v))) [
      | inl h ↦ rw h (sym (ap (set.contains edges) (eq_is k (u, v) h) ∙ there))
      | inr h ↦ rw h refl
    ])

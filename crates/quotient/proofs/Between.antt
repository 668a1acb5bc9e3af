-- How many of a graph's edges lead from one block to another, node by node.
use Rattle.std.proofs.Common.{◌≡◌, ℕ, suc, ◌+◌, ◌<◌, ◌≤◌, List, Option, refl, sym, ◌∙◌, ap, arith, inl, inr, true, false, Bool, ◌&&◌}
use Rattle.std.specs.Prelude.{nat_eq, nat_lt, ◌||◌}
use Rattle.std.specs.List.{list_any}
use Rattle.std.specs.FinSet as set
use Rattle.std.proofs.Math.Bool.{and-false, or-false}
use Rattle.std.proofs.lemmas.Bool.{cases_Bool}
use Rattle.std.proofs.lemmas.Bool.Decides.{eqb_tells, nat_tests}
use Rattle.graph_spec.specs.Graphs.{Graph, IsGraph, Edges, edge_cmp}
use Rattle.label_graph.specs.GraphViews.{is_linked}
use Rattle.label_graph.proofs.Viewed.{linked_is}
use Rattle.graph_spec.specs.Members.{has, Lists}
use Rattle.bisim_spec.specs.Supports.{joins, edges_between}
use Rattle.bisim_spec.specs.NodeEdges.{edges_from}
use Rattle.bisim_spec.proofs.EdgeSets.{eq, kept, same_len, kept_len, len_more}
use Rattle.bisim_spec.proofs.Moves.{from_has, from_distinct}
use Rattle.quotient.specs.QuotientNeighbours.{pairs_between, edges_below}

-- a node is at no place before its own
at_own : (c t : Bool) (m n : ℕ) (x : Bool) → (nat_eq m n && x) ≡ true → (c && (nat_lt m n && t)) ≡ false
at_own c t m n x h = elim (eqb_tells m n) [
  | inl s ↦ (let e = s.1 in let after : nat_lt m n ≡ false = grind (arith, nat_tests, e) in rw after (and-false c))
  | inr d ↦ absurd (let f = d.0 in cc)
]

-- whether an edge begins before the next node: at this one, or before it
next_or : (c t h : Bool) (m n : ℕ) → (m ≡ n → h ≡ c) → (c && (nat_lt m (suc n) && t)) ≡ (((nat_eq m n && h) && t) || (c && (nat_lt m n && t)))
next_or c t h m n e = elim (eqb_tells m n) [
  | inl s ↦ (
      let same_place = s.1 in
      let now : nat_lt m (suc n) ≡ true = grind (arith, nat_tests, same_place) in
      let after : nat_lt m n ≡ false = grind (arith, nat_tests, same_place) in
      rw (now, after, s.0, e s.1, and-false c) (sym (or-false (c && t))))
  | inr d ↦ (
      let other = d.1 in
      let alike : nat_lt m (suc n) ≡ nat_lt m n = grind (arith, nat_tests, other) in
      rw (alike, d.0) refl)
]

-- the edges from one node more
pub below_step : (edges : Edges) (block : List (Option ℕ)) (n x y : ℕ) (cs : List ℕ) → Lists (λ v. set.contains edges (n, v)) cs
    → edges_below edges block (suc n) x y ≡ edges_below edges block n x y + pairs_between block n cs x y
below_step edges block n x y cs l =
    let j = joins block x y in
    let before : ℕ × ℕ → Bool = λ e. nat_lt e.0 n && j e in
    let after : ℕ × ℕ → Bool = λ e. nat_lt e.0 (suc n) && j e in
    len_more j (set.retain edges before) (edges_from n cs) (from_distinct n cs l.once)
    (λ k h g. kept edges before k ∙ at_own (set.contains edges k) (j k) k.0 n (has cs k.1) (sym (from_has k.0 k.1 n cs) ∙ h))
    (set.retain edges after)
    (λ k. kept edges after k
    ∙ next_or (set.contains edges k) (j k) (has cs k.1) k.0 n (λ e. l.members k.1 ∙ ap (λ m. set.contains edges (m, k.1)) (sym e))
    ∙ ap (λ b. (b && j k) || (set.contains edges k && before k)) (sym (from_has k.0 k.1 n cs))
    ∙ ap (λ b. (list_any (eq k) (edges_from n cs) && j k) || b) (sym (kept edges before k)))

-- the edges before the first node
pub below_zero : (edges : Edges) (block : List (Option ℕ)) (x y : ℕ) → edges_below edges block 0 x y ≡ 0
below_zero edges block x y =
    let before : ℕ × ℕ → Bool = λ e. nat_lt e.0 0 && joins block x y e in
    same_len (set.retain edges before) set.empty (λ k.
    let none : nat_lt k.0 0 ≡ false = grind (arith, nat_tests) in
    kept edges before k ∙ rw none (and-false (set.contains edges k)) ∙ sym (set.contains-empty edge_cmp k))
    ∙ set.len-empty edge_cmp

-- the edges before the end are all
pub below_all : (edges : Edges) (block : List (Option ℕ)) (size x y : ℕ) → ((u v : ℕ) → set.contains edges (u, v) ≡ true → u < size)
    → edges_below edges block size x y ≡ edges_between edges block x y
below_all edges block size x y within =
    let j = joins block x y in
    let before : ℕ × ℕ → Bool = λ e. nat_lt e.0 size && j e in
    same_len (set.retain edges before) (set.retain edges j) (λ k.
    kept edges before k ∙ elim (cases_Bool (set.contains edges k)) [
      | inl t ↦ (
          let h = within k.0 k.1 t in
          let below : nat_lt k.0 size ≡ true = grind (arith, nat_tests, h) in
          rw below refl)
      | inr f ↦ rw f refl
    ] ∙ sym (kept edges j k))

-- the edges that begin before a node are at most all
pub below_most : (edges : Edges) (block : List (Option ℕ)) (n x y : ℕ) → edges_below edges block n x y ≤ set.len edges
below_most edges block n x y = kept_len edges (λ e. nat_lt e.0 n && joins block x y e)

-- the children that a view lists are those to which edges lead
pub links_listed : (g : Graph) (n : ℕ) (cs : List ℕ) → Lists (is_linked g n) cs → IsGraph g → Lists (λ v. set.contains g.edges (n, v)) cs
links_listed g n cs l s = record { once = l.once; members = λ v. l.members v ∙ linked_is g s n v }

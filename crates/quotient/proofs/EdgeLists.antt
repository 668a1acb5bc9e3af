-- Lists of edges.
use Rattle.std.proofs.Common.{◌≡◌, ℕ, zero, suc, ◌+◌, ◌<◌, ◌≤◌, ◌^◌, List, [], ◌∷◌, ◌++◌, Option, Some, length, refl, sym, ◌∙◌, ap, arith, inl, inr, false, true≢false, cond, take, get_or}
use Rattle.std.specs.Prelude.{is_some}
use Rattle.std.specs.FinSet as set
use Rattle.std.specs.List.{IsDistinct}
use Rattle.std.proofs.lemmas.Bool.{cases_Bool, and_parts}
use Rattle.std.proofs.lemmas.List.{take_more, take-map, map_more}
use Rattle.std.proofs.lemmas.List.Sums.{sum_by-append, sum_by-cons}
use Rattle.graph_spec.specs.Graphs.{Graph, IsGraph, Edges, has_edge}
use Rattle.graph_spec.specs.Members.{Lists, at, is_this}
use Rattle.graph_spec.proofs.GraphLaws.{is_shape}
use Rattle.label_graph.specs.GraphViews.{label_number}
use Rattle.label_graph.specs.ViewLaws.{ends_seen}
use Rattle.label_graph.proofs.Viewed.{linked_is}
use Rattle.bisim_spec.specs.Supports.{joins, support, edges_between}
use Rattle.bisim_spec.specs.NodeEdges.{edges_from}
use Rattle.bisim_spec.specs.IndexGraphs.{SupportTable}
use Rattle.quotient.specs.QuotientNeighbours.{AreListed, AreListedBelow, AreFew, AreCountedBelow, edges_below, pairs_between, one_if, total_support}
use Rattle.quotient.proofs.Between.{below_zero, below_step, below_all, below_most}
use Rattle.bisim_spec.proofs.Moves.{block_get}

-- before the first node
pub listed_none : (edges : Edges) (list : List (ℕ × ℕ)) → list ≡ [] → AreListedBelow edges 0 list
listed_none edges list none = record {
  same = λ block x y. ap (λ (es : List (ℕ × ℕ)). support es block x y) none ∙ sym (below_zero edges block x y);
}

-- the edges of one node more
pub listed_more : (edges : Edges) (n : ℕ) (cs : List ℕ) (old new : List (ℕ × ℕ)) → Lists (λ v. set.contains edges (n, v)) cs → AreListedBelow edges n old → new ≡ old ++ edges_from n cs
    → AreListedBelow edges (suc n) new
listed_more edges n cs old new l before added = record {
  same = λ block x y.
      let step = below_step edges block n x y cs l in
      let is = before.same block x y in
      let parts : support new block x y ≡ support old block x y + pairs_between block n cs x y =
      ap (λ (es : List (ℕ × ℕ)). support es block x y) added ∙ sum_by-append (λ (e : ℕ × ℕ). cond (joins block x y e) 1 0) old (edges_from n cs) in
      omega (arith, step, is, parts);
}

-- no edge begins at a number that is no node
gone_lists : (g : Graph) (n : ℕ) → is_some (label_number g n) ≡ false → IsGraph g → Lists (λ v. set.contains g.edges (n, v)) []
unfolding IsDistinct
gone_lists g n gone s = record {
  once = tt;
  members = λ v. elim (cases_Bool (has_edge g n v)) [
    | inl edge ↦ absurd (true≢false (sym ((ends_seen g n v (linked_is g s n v ∙ edge)).0) ∙ gone))
    | inr none ↦ sym none
  ];
}

append_nil : (xs : List (ℕ × ℕ)) → xs ≡ xs ++ []
append_nil [] = refl
append_nil (x ∷ xs) = ap (λ (t : List (ℕ × ℕ)). x ∷ t) (append_nil xs)

pub listed_gone : (g : Graph) (n : ℕ) (list : List (ℕ × ℕ)) → is_some (label_number g n) ≡ false → IsGraph g → AreListedBelow g.edges n list → AreListedBelow g.edges (suc n) list
listed_gone g n list gone s before = listed_more g.edges n [] list list (gone_lists g n gone s) before (append_nil list)

-- one more edge of a list
pub support_more : (block : List (Option ℕ)) (es : List (ℕ × ℕ)) (i x y : ℕ) (d : ℕ × ℕ) → i < length es
    → support (take (i + 1) es) block x y ≡ support (take i es) block x y + one_if (joins block x y (get_or es i d))
support_more block es i x y d h =
    rw (take_more es i d h, sum_by-append (λ (e : ℕ × ℕ). cond (joins block x y e) 1 0) (take i es) (get_or es i d ∷ [])) (omega arith)

support_cons : (block : List (Option ℕ)) (e : ℕ × ℕ) (es : List (ℕ × ℕ)) (x y : ℕ) → support (e ∷ es) block x y ≡ one_if (joins block x y e) + support es block x y
support_cons block e es x y = sum_by-cons (λ (e : ℕ × ℕ). cond (joins block x y e) 1 0) e es

pub support_take : (block : List (Option ℕ)) (i : ℕ) (es : List (ℕ × ℕ)) (x y : ℕ) → support (take i es) block x y ≤ support es block x y
support_take block zero es x y = omega arith
support_take block (suc i) [] x y = omega arith
support_take block (suc i) (e ∷ es) x y =
    let rest = support_take block i es x y in
    let more = support_cons block e es x y in
    let first = support_cons block e (take i es) x y in
    omega (arith, rest, more, first)

-- once each node's edges are listed, all are
pub listed_all : (g : Graph) (n : ℕ) (list : List (ℕ × ℕ)) → IsGraph g → length g.allocated ≤ n → AreListedBelow g.edges n list → AreListed g.edges list
listed_all g n list s all below = record {
  same = λ block x y. below.same block x y ∙ below_all g.edges block n x y (λ u v h. let l = (is_shape g s).below u (s.from u v h) in omega (arith, l, all));
}

-- and they are as few as those of the graph
pub listed_few : (edges : Edges) (n : ℕ) (list : List (ℕ × ℕ)) → set.len edges ≤ 2 ^ 30 → AreListedBelow edges n list → AreFew list
listed_few edges n list few below = record {
  most = λ block x y.
      let is = below.same block x y in
      let all = below_most edges block n x y in
      omega (arith, is, all, few);
}

-- where edges lead from one block to another, both have members
pub support_members : (es : List (ℕ × ℕ)) (block : List (Option ℕ)) (a b : ℕ) → 0 < support es block a b → (u : ℕ) × (v : ℕ) × (at block u ≡ Some a) × (at block v ≡ Some b)
support_members [] block a b h = absurd (omega (arith, h))
support_members (e ∷ es) block a b h = elim (cases_Bool (joins block a b e)) [
  | inl here ↦
      (let ends = and_parts (is_this a (at block e.0)) (is_this b (at block e.1)) here in
      (e.0, e.1, block_get a (at block e.0) ends.0, block_get b (at block e.1) ends.1))
  | inr later ↦ support_members es block a b (
      let first = support_cons block e es a b in
      let none : one_if (joins block a b e) ≡ 0 = ap one_if later in
      omega (arith, first, none, h))
]

-- one child more
pub between_more : (block : List (Option ℕ)) (n : ℕ) (cs : List ℕ) (i x y d : ℕ) → i < length cs
    → pairs_between block n (take (i + 1) cs) x y ≡ pairs_between block n (take i cs) x y + one_if (joins block x y (n, get_or cs i d))
between_more block n cs i x y d h =
    let last : List (ℕ × ℕ) = (n, get_or cs i d) ∷ [] in
    let parts : pairs_between block n (take (i + 1) cs) x y ≡ pairs_between block n (take i cs) x y + support last block x y =
    ap (λ (es : List (ℕ × ℕ)). support es block x y) (map_more (λ (c : ℕ). (n, c)) cs i d h)
    ∙ sum_by-append (λ (e : ℕ × ℕ). cond (joins block x y e) 1 0) (edges_from n (take i cs)) last in
    let one = support_cons block (n, get_or cs i d) [] x y in
    let none : support [] block x y ≡ 0 = refl in
    omega (arith, parts, one, none)

pub between_take : (block : List (Option ℕ)) (n i : ℕ) (cs : List ℕ) (x y : ℕ) → pairs_between block n (take i cs) x y ≤ pairs_between block n cs x y
between_take block n i cs x y =
    let part : support (take i (edges_from n cs)) block x y ≤ pairs_between block n cs x y = support_take block i (edges_from n cs) x y in
    let same : support (take i (edges_from n cs)) block x y ≡ pairs_between block n (take i cs) x y =
    ap (λ (es : List (ℕ × ℕ)). support es block x y) (take-map (λ (c : ℕ). (n, c)) i cs) in
    omega (arith, part, same)

-- the edges of one node more
one_below : (edges : Edges) (n : ℕ) (cs : List ℕ) (block : List (Option ℕ)) (x y : ℕ) → Lists (λ v. set.contains edges (n, v)) cs
    → edges_below edges block (n + 1) x y ≡ edges_below edges block n x y + pairs_between block n cs x y
one_below edges n cs block x y l =
    let next : n + 1 ≡ suc n = omega arith in
    ap (λ (k : ℕ). edges_below edges block k x y) next ∙ below_step edges block n x y cs l

-- are counted
pub counted_more : (edges : Edges) (n : ℕ) (cs : List ℕ) (block : List (Option ℕ)) (t t2 : SupportTable) (pairs pairs2 : List (ℕ × ℕ))
    → Lists (λ v. set.contains edges (n, v)) cs → AreCountedBelow edges block n t pairs
    → ((x y : ℕ) → total_support t2 pairs2 x y ≡ total_support t pairs x y + pairs_between block n cs x y)
    → AreCountedBelow edges block (n + 1) t2 pairs2
counted_more edges n cs block t t2 pairs pairs2 l before added = record {
  same = λ x y.
      let step = one_below edges n cs block x y l in
      let is = before.same x y in
      let more = added x y in
      omega (arith, step, is, more);
}

pub counted_gone : (g : Graph) (n : ℕ) (block : List (Option ℕ)) (t : SupportTable) (pairs : List (ℕ × ℕ)) → is_some (label_number g n) ≡ false → IsGraph g
    → AreCountedBelow g.edges block n t pairs → AreCountedBelow g.edges block (n + 1) t pairs
counted_gone g n block t pairs gone s before = record {
  same = λ x y.
      let step = one_below g.edges n [] block x y (gone_lists g n gone s) in
      let is = before.same x y in
      let none : pairs_between block n [] x y ≡ 0 = refl in
      omega (arith, step, is, none);
}

-- they are few
pub counted_few : (edges : Edges) (n : ℕ) (cs : List ℕ) (block : List (Option ℕ)) (t : SupportTable) (pairs : List (ℕ × ℕ))
    → Lists (λ v. set.contains edges (n, v)) cs → set.len edges ≤ 2 ^ 30 → AreCountedBelow edges block n t pairs
    → (x y : ℕ) → total_support t pairs x y + pairs_between block n cs x y ≤ 2 ^ 30
counted_few edges n cs block t pairs l few counted x y =
    let step = one_below edges n cs block x y l in
    let is = counted.same x y in
    let most = below_most edges block (n + 1) x y in
    omega (arith, step, is, most, few)

-- once each node's edges are counted, all are
pub counted_all : (g : Graph) (n : ℕ) (block : List (Option ℕ)) (t : SupportTable) (pairs : List (ℕ × ℕ)) → IsGraph g → length g.allocated ≤ n
    → AreCountedBelow g.edges block n t pairs → (x y : ℕ) → total_support t pairs x y ≡ edges_between g.edges block x y
counted_all g n block t pairs s all counted x y =
    counted.same x y ∙ below_all g.edges block n x y (λ u v h. let l = (is_shape g s).below u (s.from u v h) in omega (arith, l, all))

-- Lists of edges that come and go: what is left of them, and supports on the way.
use Rattle.std.proofs.Common.{◌≡◌, ℕ, zero, suc, ◌+◌, ◌<◌, ◌≤◌, ◌^◌, List, [], ◌∷◌, ◌++◌, length, Option, Some, refl, sym, ◌∙◌, ap, subst, arith, inl, inr, true, false, Bool, take, get_or, true≢false}
use Rattle.std.specs.Prelude.{nat_eq, ◌&&◌, ◌||◌, not}
use Rattle.std.specs.List.{list_any, IsDistinct, AllByRecursion}
use Rattle.std.specs.FinSet as set
use Rattle.std.proofs.lemmas.Bool.{cases_Bool, and_parts, and_from, false_from_ne_true}
use Rattle.std.proofs.lemmas.Bool.Decides.{Decides-eqb}
use Rattle.std.proofs.lemmas.List.{take_more}
use Rattle.std.proofs.Math.Bool.{or-true}
use Rattle.std.proofs.lemmas.Map.Keys.{IsDistinct-head, IsDistinct-tail}
use Rattle.graph_spec.specs.Graphs.{Graph, Edges, has_edge}
use Rattle.graph_spec.specs.Changes.{with_edge, without_edge}
use Rattle.graph_spec.specs.Members.{at, is_this}
use Rattle.graph_spec.proofs.EdgeOrder.{edge_cmp_total, edge_cmp-IsAntisymmetric}
use Rattle.graph_spec.proofs.GraphLaws.{edge_with, edge_without}
use Rattle.bisim_spec.specs.Supports.{joins, edges_between}
use Rattle.bisim_spec.proofs.BelowLaws.{bit_of}
use Rattle.bisim_spec.proofs.EdgeSets.{kept, same_len, kept_len}
use Rattle.bisim_spec.proofs.Moves.{between_linked, between_unlinked, between_most}
use Rattle.bisim_spec.proofs.EdgeSupports.{adjacent_support}
use Rattle.one_spec.specs.EdgeCounts.{AreEdgeCounts}
use Rattle.graph_effects.specs.Effects.{same_pair, has_pair, without_edges, with_edges}

-- ---- what is left

pub without_more : (g : Graph) (es : List (ℕ × ℕ)) (e : ℕ × ℕ) → without_edges g (es ++ e ∷ []) ≡ without_edge (without_edges g es) e.0 e.1
without_more g [] e = refl
without_more g (x ∷ es) e = without_more (without_edge g x.0 x.1) es e

pub with_more : (g : Graph) (es : List (ℕ × ℕ)) (e : ℕ × ℕ) → with_edges g (es ++ e ∷ []) ≡ with_edge (with_edges g es) e.0 e.1
with_more g [] e = refl
with_more g (x ∷ es) e = with_more (with_edge g x.0 x.1) es e

left_out : (a b c : Bool) → (not b && (not a && c)) ≡ (not (a || b) && c)
left_out true true c = refl
left_out true false c = refl
left_out false b c = refl

put_in : (a b c : Bool) → (b || (a || c)) ≡ ((a || b) || c)
put_in true true c = refl
put_in true false c = refl
put_in false b c = refl

pub edge_left : (g : Graph) (es : List (ℕ × ℕ)) (u v : ℕ) → has_edge (without_edges g es) u v ≡ (not (has_pair es u v) && has_edge g u v)
edge_left g [] u v = refl
edge_left g (x ∷ es) u v =
    edge_left (without_edge g x.0 x.1) es u v ∙ ap (λ b. not (has_pair es u v) && b) (edge_without g x.0 x.1 u v)
    ∙ left_out (nat_eq u x.0 && nat_eq v x.1) (has_pair es u v) (has_edge g u v)

pub edge_there : (g : Graph) (es : List (ℕ × ℕ)) (u v : ℕ) → has_edge (with_edges g es) u v ≡ (has_pair es u v || has_edge g u v)
edge_there g [] u v = refl
edge_there g (x ∷ es) u v =
    edge_there (with_edge g x.0 x.1) es u v ∙ ap (λ b. has_pair es u v || b) (edge_with g x.0 x.1 u v)
    ∙ put_in (nat_eq u x.0 && nat_eq v x.1) (has_pair es u v) (has_edge g u v)

-- ---- places in a list of pairs

abbrev none_there : ℕ × ℕ
none_there = (0, 0)

abbrev pub pair_at : List (ℕ × ℕ) → ℕ → ℕ × ℕ
pair_at es i = get_or es i none_there

pair_self : (e : ℕ × ℕ) → same_pair e e ≡ true
pair_self e = and_from (nat_eq e.0 e.0) (nat_eq e.1 e.1) ((Decides-eqb e.0 e.0).1 refl) ((Decides-eqb e.1 e.1).1 refl)

pair_same : (e k : ℕ × ℕ) → same_pair e k ≡ true → e ≡ k
pair_same (u, v) (a, b) h =
    let both = and_parts (nat_eq u a) (nat_eq v b) h in
    λ i. ((Decides-eqb u a).0 both.0 i, (Decides-eqb v b).0 both.1 i)

pair_back : (e k : ℕ × ℕ) → same_pair k e ≡ false → same_pair e k ≡ false
pair_back e k h = false_from_ne_true (same_pair e k) (λ t. true≢false (sym (ap (λ x. same_pair x e) (sym (pair_same e k t)) ∙ pair_self e) ∙ h))

all_at : (P : ℕ × ℕ → Type 0) (es : List (ℕ × ℕ)) (i : ℕ) → AllByRecursion P es → i < length es → P (pair_at es i)
all_at P [] i h l = absurd (omega (arith, l))
all_at P (x ∷ es) zero h l = h.0
all_at P (x ∷ es) (suc i) h l = all_at P es i h.1 (omega (arith, l))

-- a pair of a list stands in it
pub pair_there : (es : List (ℕ × ℕ)) (i : ℕ) → i < length es → has_pair es (pair_at es i).0 (pair_at es i).1 ≡ true
pair_there [] i l = absurd (omega (arith, l))
pair_there (x ∷ es) zero l = ap (λ b. b || list_any (same_pair x) es) (pair_self x)
pair_there (x ∷ es) (suc i) l =
    ap (λ b. same_pair (pair_at es i) x || b) (pair_there es i (omega (arith, l))) ∙ or-true (same_pair (pair_at es i) x)

-- and not in front of itself, where each stands once
pub pair_once : (es : List (ℕ × ℕ)) (i : ℕ) → IsDistinct same_pair es → i < length es → has_pair (take i es) (pair_at es i).0 (pair_at es i).1 ≡ false
pair_once [] i d l = absurd (omega (arith, l))
pair_once (x ∷ es) zero d l = refl
pair_once (x ∷ es) (suc i) d l =
    let apart = pair_back (pair_at es i) x (all_at (λ y. same_pair x y ≡ false) es i (IsDistinct-head same_pair x es d) (omega (arith, l))) in
    ap (λ b. b || has_pair (take i es) (pair_at es i).0 (pair_at es i).1) apart ∙ pair_once es i (IsDistinct-tail same_pair x es d) (omega (arith, l))

pub pairs_next : (es : List (ℕ × ℕ)) (i : ℕ) → i < length es → take (i + 1) es ≡ take i es ++ pair_at es i ∷ []
pairs_next es i l = take_more es i none_there l

-- ---- supports on the way

-- the two nodes have these blocks
pub record AreIn (block : List (Option ℕ)) (e : ℕ × ℕ) (a b : ℕ) : Type 0 where
  pub from : at block e.0 ≡ Some a
  pub onto : at block e.1 ≡ Some b

joins_ends : (block : List (Option ℕ)) (e : ℕ × ℕ) (a b x y : ℕ) → AreIn block e a b → joins block x y e ≡ (nat_eq x a && nat_eq y b)
joins_ends block e a b x y ends = ap (λ o. is_this x o && is_this y (at block e.1)) ends.from ∙ ap (λ o. nat_eq x a && is_this y o) ends.onto

-- the edges of the list are all there
pub record AreEdges (g : Graph) (es : List (ℕ × ℕ)) : Type 0 where
  pub there : (u v : ℕ) → has_pair es u v ≡ true → has_edge g u v ≡ true

-- none of them is there
pub record AreNoEdges (g : Graph) (es : List (ℕ × ℕ)) : Type 0 where
  pub absent : (u v : ℕ) → has_pair es u v ≡ true → has_edge g u v ≡ false

-- the next edge is still there
pub next_there : (g : Graph) (es : List (ℕ × ℕ)) (i : ℕ) → IsDistinct same_pair es → AreEdges g es → i < length es
    → has_edge (without_edges g (take i es)) (pair_at es i).0 (pair_at es i).1 ≡ true
next_there g es i once edges l =
    let e = pair_at es i in
    edge_left g (take i es) e.0 e.1 ∙ ap (λ b. not b && has_edge g e.0 e.1) (pair_once es i once l) ∙ edges.there e.0 e.1 (pair_there es i l)

-- the next edge isn't there yet
pub next_absent : (g : Graph) (es : List (ℕ × ℕ)) (i : ℕ) → IsDistinct same_pair es → AreNoEdges g es → i < length es
    → has_edge (with_edges g (take i es)) (pair_at es i).0 (pair_at es i).1 ≡ false
next_absent g es i once edges l =
    let e = pair_at es i in
    edge_there g (take i es) e.0 e.1 ∙ ap (λ b. b || has_edge g e.0 e.1) (pair_once es i once l) ∙ edges.absent e.0 e.1 (pair_there es i l)

-- One more edge of the list goes: its blocks have one fewer.
pub counts_lowered : (g : Graph) (es : List (ℕ × ℕ)) (i a b : ℕ) (block : List (Option ℕ)) (support support2 : ℕ → ℕ → ℕ) → IsDistinct same_pair es → AreEdges g es → i < length es
    → AreEdgeCounts (without_edges g (take i es)) block support → AreIn block (pair_at es i) a b
    → ((x y : ℕ) → support2 x y + bit_of (nat_eq x a && nat_eq y b) ≡ support x y) → AreEdgeCounts (without_edges g (take (i + 1) es)) block support2
counts_lowered g es i a b block support support2 once edges l counts ends lowered =
    let e = pair_at es i in
    let h = without_edges g (take i es) in
    let there = next_there g es i once edges l in
    subst (λ (k : Graph). AreEdgeCounts k block support2) (sym (ap (without_edges g) (pairs_next es i l) ∙ without_more g (take i es) e)) (record {
      each = λ x y.
          let one = ap bit_of (joins_ends block e a b x y ends) in
          let law = between_unlinked h.edges e.0 e.1 block x y there in
          let shown = lowered x y in
          let base = counts.each x y in
          omega (arith, one, law, shown, base);
    })

-- One more edge of the list comes: its blocks have one more.
pub counts_raised : (g : Graph) (es : List (ℕ × ℕ)) (i a b : ℕ) (block : List (Option ℕ)) (support support2 : ℕ → ℕ → ℕ) → IsDistinct same_pair es → AreNoEdges g es → i < length es
    → AreEdgeCounts (with_edges g (take i es)) block support → AreIn block (pair_at es i) a b
    → ((x y : ℕ) → support2 x y ≡ support x y + bit_of (nat_eq x a && nat_eq y b)) → AreEdgeCounts (with_edges g (take (i + 1) es)) block support2
counts_raised g es i a b block support support2 once edges l counts ends raised =
    let e = pair_at es i in
    let h = with_edges g (take i es) in
    let absent = next_absent g es i once edges l in
    subst (λ (k : Graph). AreEdgeCounts k block support2) (sym (ap (with_edges g) (pairs_next es i l) ∙ with_more g (take i es) e)) (record {
      each = λ x y.
          let one = ap bit_of (joins_ends block e a b x y ends) in
          let law = between_linked h.edges e.0 e.1 block x y absent in
          let shown = raised x y in
          let base = counts.each x y in
          omega (arith, one, law, shown, base);
    })

-- the next edge that goes is counted
pub lowered_some : (g : Graph) (es : List (ℕ × ℕ)) (i a b : ℕ) (block : List (Option ℕ)) (support : ℕ → ℕ → ℕ) → IsDistinct same_pair es → AreEdges g es → i < length es
    → AreEdgeCounts (without_edges g (take i es)) block support → AreIn block (pair_at es i) a b → 0 < support a b
lowered_some g es i a b block support once edges l counts ends =
    let e = pair_at es i in
    let some = adjacent_support (without_edges g (take i es)) block a b (e.0, e.1, next_there g es i once edges l, ends.from, ends.onto) in
    let count = counts.each a b in
    omega (arith, count, some)

-- ---- other blocks, other sets

-- Partitions that agree at the ends of all edges have the same supports.
pub counts_agree : (g : Graph) (block block2 : List (Option ℕ)) (support support2 : ℕ → ℕ → ℕ) → AreEdgeCounts g block support
    → ((u v : ℕ) → has_edge g u v ≡ true → (at block2 u ≡ at block u) × (at block2 v ≡ at block v)) → ((x y : ℕ) → support2 x y ≡ support x y) → AreEdgeCounts g block2 support2
counts_agree g block block2 support support2 counts agree same = record { each = λ x y. same x y ∙ counts.each x y ∙ sym (alike x y) }
  where
    alike : (x y : ℕ) → edges_between g.edges block2 x y ≡ edges_between g.edges block x y
    alike x y = same_len (set.retain g.edges (joins block2 x y)) (set.retain g.edges (joins block x y)) (λ k. elim (cases_Bool (set.contains g.edges k)) [
      | inl on ↦ (
          let ends = agree k.0 k.1 on in
          kept g.edges (joins block2 x y) k
          ∙ ap (λ t. set.contains g.edges k && (is_this x t && is_this y (at block2 k.1))) ends.0
          ∙ ap (λ t. set.contains g.edges k && (is_this x (at block k.0) && is_this y t)) ends.1
          ∙ sym (kept g.edges (joins block x y) k))
      | inr off ↦ (
          kept g.edges (joins block2 x y) k ∙ ap (λ t. t && joins block2 x y k) off
          ∙ sym (kept g.edges (joins block x y) k ∙ ap (λ t. t && joins block x y k) off))
    ])

-- graphs with the same edges have the same supports
pub counts_same : (g g2 : Graph) (block : List (Option ℕ)) (support : ℕ → ℕ → ℕ) → ((u v : ℕ) → has_edge g u v ≡ has_edge g2 u v) → AreEdgeCounts g block support
    → AreEdgeCounts g2 block support
counts_same g g2 block support same counts =
    let edges : g.edges ≡ g2.edges = set.same_set edge_cmp_total edge_cmp-IsAntisymmetric g.edges g2.edges (λ k. same k.0 k.1) in
    record { each = λ x y. counts.each x y ∙ ap (λ (es : Edges). edges_between es block x y) edges }

and_of : (a b : Bool) → (a ≡ true → b ≡ true) → (b && a) ≡ a
and_of true b h = ap (λ t. t && true) (h refl)
and_of false true h = refl
and_of false false h = refl

-- a graph whose edges are all in another one has no more
pub fewer_edges : (g g2 : Graph) → ((u v : ℕ) → has_edge g u v ≡ true → has_edge g2 u v ≡ true) → set.len g.edges ≤ set.len g2.edges
fewer_edges g g2 within =
    let same = same_len (set.retain g2.edges (set.contains g.edges)) g.edges (λ k. kept g2.edges (set.contains g.edges) k ∙ and_of (set.contains g.edges k) (set.contains g2.edges k) (within k.0 k.1)) in
    let most = kept_len g2.edges (set.contains g.edges) in
    omega (arith, same, most)

-- supports are no more than there are edges
pub counts_few : (g g2 : Graph) (block : List (Option ℕ)) (support : ℕ → ℕ → ℕ) (a b : ℕ) → AreEdgeCounts g block support
    → ((u v : ℕ) → has_edge g u v ≡ true → has_edge g2 u v ≡ true) → set.len g2.edges ≤ 2 ^ 30 → support a b < 2 ^ 31
counts_few g g2 block support a b counts within few =
    let count = counts.each a b in
    let most = between_most g.edges block a b in
    let fewer = fewer_edges g g2 within in
    omega (arith, count, most, fewer, few)

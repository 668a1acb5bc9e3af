-- One edge less.
use Rattle.std.proofs.Common.{◌≡◌, ℕ, zero, suc, ◌-◌, ◌<◌, Bool, true, false, cond, List, refl, sym, ap, ◌∙◌, subst, arith, nat_eq, IsTrue, true≢false}
use Rattle.std.specs.Prelude.{IsSome, ◌&&◌, not}
use Rattle.std.specs.List.{IsDistinct}
use Rattle.std.specs.Ordering.{eq_by_cmp}
use Rattle.std.specs.FinSet as set
use Rattle.std.proofs.lemmas.Bool.{eqb-true, eqb-false}
use Rattle.graph_spec.specs.Graphs.{Edges, edge_cmp}
use Rattle.graph_spec.specs.Changes.{without_edge}
use Rattle.graph_spec.specs.Members.{has}
use Rattle.graph_spec.proofs.EdgeOrder.{edge_cmp_total, edge_cmp-IsAntisymmetric}
use Rattle.label_graph.specs.Nodes.{Node, number_at, texts_of, children_of, parents_of, edges_of, Mirrors, LacksEdge, IsLive, IsKept, KeepsReserved}
use Rattle.label_graph.specs.ReservedGraphs.{graph_by}
use Rattle.label_graph.specs.LabelTable.{LabelTable}
use Rattle.label_graph.specs.Soundness.{IsSoundGraph, AreSound, HaveLabelNumbers}
use Rattle.label_graph.proofs.EdgeLists.{has_edge-children, and_comm}
use Rattle.graph_spec.proofs.EdgeOrder.{eq_pair}

-- a set with an edge isn't empty
pub some-edge : (s : Edges) (u v : ℕ) → set.contains s (u, v) ≡ true → 0 < set.len s
some-edge s u v h =
    elim (set.len s) as (λ n. set.len s ≡ n → 0 < n) [
      | zero ↦ λ e. absurd (true≢false (sym h ∙ ap (λ t. set.contains t (u, v)) (set.empty_of_len s e) ∙ set.contains-empty edge_cmp (u, v)))
      | suc n ↦ λ e. omega arith
    ] refl

second : (a b : Bool) → IsTrue (a && b) → IsTrue b
second true b h = h
second false b h = absurd (true≢false (sym h))

module _ (shown : ℕ) (old new : List Node) (u v : ℕ) (l : LacksEdge shown old new u v) where
  child-but : (a b : ℕ) → has (children_of new a) b ≡ (not (nat_eq a u && nat_eq b v) && has (children_of old a) b)
  child-but a b =
      elim (nat_eq a u) as (λ x. nat_eq a u ≡ x → has (children_of new a) b ≡ (not (x && nat_eq b v) && has (children_of old a) b)) [
        | true ↦ λ q. let s = eqb-true a u q in
            ap (λ k. has (children_of new k) b) s ∙ l.child.members b ∙ ap (λ k. not (nat_eq b v) && has (children_of old k) b) (sym s)
        | false ↦ λ q. ap (λ xs. has xs b) (l.other_children a (eqb-false a u q))
      ] refl

  parent-but : (a b : ℕ) → has (parents_of new b) a ≡ (not (nat_eq b v && nat_eq a u) && has (parents_of old b) a)
  parent-but a b =
      elim (nat_eq b v) as (λ x. nat_eq b v ≡ x → has (parents_of new b) a ≡ (not (x && nat_eq a u) && has (parents_of old b) a)) [
        | true ↦ λ q. let s = eqb-true b v q in
            ap (λ k. has (parents_of new k) a) s ∙ l.parent.members a ∙ ap (λ k. not (nat_eq a u) && has (parents_of old k) a) (sym s)
        | false ↦ λ q. ap (λ xs. has xs a) (l.other_parents b (eqb-false b v q))
      ] refl

  edges-taken : edges_of new ≡ set.remove (edges_of old) (u, v)
  edges-taken = set.same_set edge_cmp_total edge_cmp-IsAntisymmetric (edges_of new) (set.remove (edges_of old) (u, v)) (λ q.
      has_edge-children new q.0 q.1 ∙ child-but q.0 q.1
      ∙ ap (λ b. not b && has (children_of old q.0) q.1) (sym (eq_pair q.0 q.1 u v))
      ∙ ap (λ b. not (eq_by_cmp edge_cmp q (u, v)) && b) (sym (has_edge-children old q.0 q.1))
      ∙ sym (set.contains-remove edge_cmp_total (edges_of old) (u, v) q))

  mirrors-taken : Mirrors old → Mirrors new
  mirrors-taken m a b =
      child-but a b
      ∙ ap (λ x. not x && has (children_of old a) b) (and_comm (nat_eq a u) (nat_eq b v))
      ∙ ap (λ x. not (nat_eq b v && nat_eq a u) && x) (m a b)
      ∙ sym (parent-but a b)

  children-once-after : ((n : ℕ) → IsDistinct nat_eq (children_of old n)) → (n : ℕ) → IsDistinct nat_eq (children_of new n)
  children-once-after once n =
      elim (nat_eq n u) as (λ x. nat_eq n u ≡ x → IsDistinct nat_eq (children_of new n)) [
        | true ↦ λ q. subst (λ k. IsDistinct nat_eq (children_of new k)) (sym (eqb-true n u q)) l.child.once
        | false ↦ λ q. subst (IsDistinct nat_eq) (sym (l.other_children n (eqb-false n u q))) (once n)
      ] refl

  parents-once-after : ((n : ℕ) → IsDistinct nat_eq (parents_of old n)) → (n : ℕ) → IsDistinct nat_eq (parents_of new n)
  parents-once-after once n =
      elim (nat_eq n v) as (λ x. nat_eq n v ≡ x → IsDistinct nat_eq (parents_of new n)) [
        | true ↦ λ q. subst (λ k. IsDistinct nat_eq (parents_of new k)) (sym (eqb-true n v q)) l.parent.once
        | false ↦ λ q. subst (IsDistinct nat_eq) (sym (l.other_parents n (eqb-false n v q))) (once n)
      ] refl

  live : (w : ℕ) → IsLive shown old w → IsLive shown new w
  live w h = subst (λ ls. IsSome (number_at ls w)) (sym l.labels) h

  lists-taken : (edges : ℕ) → AreSound shown old edges → has (children_of old u) v ≡ true → AreSound shown new (edges - 1)
  lists-taken edges s there = record {
    mirrors = mirrors-taken s.mirrors;
    children_once = children-once-after s.children_once;
    parents_once = parents-once-after s.parents_once;
    ends = λ a b h.
        let e = s.ends a b (second (not (nat_eq a u && nat_eq b v)) (has (children_of old a) b) (sym (child-but a b) ∙ h)) in
        record { from = live a e.from; onto = live b e.onto };
    edge_count_is =
        ap (λ n. n - 1) s.edge_count_is
        ∙ sym (set.len-remove edge_cmp_total (edges_of old) (u, v) ∙ ap (λ b. cond b (set.len (edges_of old) - 1) (set.len (edges_of old))) (has_edge-children old u v ∙ there))
        ∙ ap set.len (sym edges-taken);
    few_edges = omega (arith, s.few_edges);
  }

  kept : (w : ℕ) → IsKept shown new w → IsKept shown old w
  kept w k h = subst (λ ls. IsSome (number_at ls w)) l.labels (k h)

  module _ (table : LabelTable) where
    pub sound-less : (edges count : ℕ) (numbers : List ℕ) (pairs : List (ℕ × ℕ)) (relabels : List ℕ) → IsSoundGraph table shown old edges count numbers pairs relabels → has (children_of old u) v ≡ true → KeepsReserved old new
        → IsSoundGraph table shown new (edges - 1) count numbers pairs relabels
    sound-less edges count numbers pairs relabels o there r = record {
      lists = lists-taken edges o.lists there;
      labels = subst (λ ls. HaveLabelNumbers table ls count) (sym l.labels) o.labels;
      reserved = record {
        labels = o.reserved.labels;
        relabels = o.reserved.relabels;
        rows = omega (arith, o.reserved.rows, r.size);
        children = λ w k. omega (arith, o.reserved.children w (kept w k), r.child w);
        parents = λ w k. omega (arith, o.reserved.parents w (kept w k), r.parent w);
      };
    }

    -- the graph has one edge less
    pub edge-taken : graph_by table shown new ≡ without_edge (graph_by table shown old) u v
    edge-taken i = record { allocated = texts_of table.texts (l.labels i); edges = edges-taken i; seen = table.texts }

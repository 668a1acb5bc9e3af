-- A change after which nodes have parents in the same blocks as before leaves a partition stable, and minimal.
use Rattle.std.proofs.Common.{◌≡◌, ℕ, List, Option, Some, Bool, IsTrue, IsFalse, refl, sym, ◌∙◌, ap, inl, inr}
use Rattle.std.specs.Prelude.{is_some, cond, length}
use Rattle.std.proofs.lemmas.Bool.{cases_Bool}
use Rattle.graph_spec.specs.Graphs.{Graph, IsGraph, is_live, label_of, has_edge}
use Rattle.graph_spec.specs.Members.{at}
use Rattle.graph_spec.specs.Shapes.{Shape, IsNode, IsParent, IsShape, shape_of}
use Rattle.graph_spec.proofs.GraphLaws.{is_shape}
use Rattle.bisim_spec.specs.Partitions.{Together}
use Rattle.bisim_spec.specs.Stability.{Stable, Minimal, merged}
use Rattle.bisim_spec.proofs.Bisimilar.{some_of}
use Rattle.bisim_spec.specs.KeptBlocks.{KeepsBlocks}
use Rattle.bisim_spec.proofs.Outside.{DiffersAt}
use Rattle.bisim_spec.proofs.Stable.{stable_label, stable_parents}
use Rattle.bisim_spec.specs.Supports.{Adjacent}
use Rattle.one_update.specs.UnsteadyNodes.{KeepParents}
use Rattle.bisim_spec.proofs.Together.{together_trans, together_some, together_at, merged_keeps}

-- nodes have the same labels in both shapes, and in each of them parents in the same blocks
pub record HaveSameParents (s s2 : Shape) (p : List (Option ℕ)) : Type 0 where
  pub label : (n : ℕ) → s.label n ≡ s2.label n
  pub into : (x y : ℕ) → IsParent s x y → (z : ℕ) × IsParent s2 z y × Together p x z
  pub back : (x y : ℕ) → IsParent s2 x y → (z : ℕ) × IsParent s z y × Together p x z

pub same_back : (s s2 : Shape) (p : List (Option ℕ)) → HaveSameParents s s2 p → HaveSameParents s2 s p
same_back s s2 p h = record { label = λ n. sym (h.label n); into = h.back; back = h.into }

pub stable_same : (s s2 : Shape) (p : List (Option ℕ)) → HaveSameParents s s2 p → Stable s p → Stable s2 p
stable_same s s2 p h st = record {
  partition = record {
    live = λ n k. st.partition.live n (ap is_some (h.label n) ∙ k);
    only = λ n k. ap is_some (sym (h.label n)) ∙ st.partition.only n k;
  };
  label = λ x y nx ny t. sym (h.label x) ∙ stable_label s p st x y t ∙ h.label y;
  parents = λ x y nx ny t q e.
      let z = h.back q x e in
      let r = stable_parents s p st x y t z.0 z.1 in
      let k = h.into r.0 y r.1 in
      (k.0, k.1, together_trans p q r.0 k.0 (together_trans p q z.0 r.0 z.2 r.2) k.2);
}

same_merged : (s s2 : Shape) (p : List (Option ℕ)) (a b : ℕ) → HaveSameParents s s2 p → HaveSameParents s s2 (merged a b p)
same_merged s s2 p a b h = record {
  label = h.label;
  into = λ x y e. let z = h.into x y e in (z.0, z.1, merged_keeps a b p x z.0 z.2);
  back = λ x y e. let z = h.back x y e in (z.0, z.1, merged_keeps a b p x z.0 z.2);
}

pub minimal_same : (s s2 : Shape) (p : List (Option ℕ)) → HaveSameParents s s2 p → Minimal s p → Minimal s2 p
minimal_same s s2 p h min = record {
  apart = λ x y a b ex ey ne can. min.apart x y a b ex ey ne (stable_same s2 s (merged a b p) (same_back s s2 (merged a b p) (same_merged s s2 p a b h)) can);
}

-- a node of the graph is in one block with itself
pub self_together : (g : Graph) (p : List (Option ℕ)) (n : ℕ) → Stable (shape_of g) p → IsNode (shape_of g) n → Together p n n
self_together g p n st k = let b = some_of (at p n) (st.partition.live n k) in (b.0, b.1, b.1)

-- the first graph, in which nodes that pass have the parents that they have in the second one
pub part_changed : Graph → Graph → (ℕ → Bool) → Shape
part_changed g g2 keeps = record { size = length g.allocated; label = label_of g; edge = λ x y. cond (keeps y) (has_edge g2 x y) (has_edge g x y) }

part_same : (g g2 : Graph) (p : List (Option ℕ)) (keeps : ℕ → Bool) → IsGraph g → Stable (shape_of g) p → KeepParents g g2 p keeps → HaveSameParents (shape_of g) (part_changed g g2 keeps) p
unfolding part_changed
part_same g g2 p keeps graph st h = record {
  label = λ n. refl;
  into = λ x y e. elim (cases_Bool (keeps y)) [
    | inl on ↦ (let z = h.into x y on e in (z.0, ap (λ t. cond t (has_edge g2 z.0 y) (has_edge g z.0 y)) on ∙ z.1, z.2))
    | inr off ↦ (x, ap (λ t. cond t (has_edge g2 x y) (has_edge g x y)) off ∙ e, self_together g p x st ((is_shape g graph).from x y e))
  ];
  back = λ x y e. elim (cases_Bool (keeps y)) [
    | inl on ↦ h.back x y on (sym (ap (λ t. cond t (has_edge g2 x y) (has_edge g x y)) on) ∙ e)
    | inr off ↦ (
        let was = sym (ap (λ t. cond t (has_edge g2 x y) (has_edge g x y)) off) ∙ e in
        (x, was, self_together g p x st ((is_shape g graph).from x y was)))
  ];
}

-- where the nodes that pass are nodes of both graphs with the labels that they had, and keep their parent blocks: it is a graph, and
-- the second one differs from it at the others alone
pub part_shape : (g g2 : Graph) (p : List (Option ℕ)) (keeps : ℕ → Bool) → IsGraph g → Stable (shape_of g) p → KeepParents g g2 p keeps → IsShape (part_changed g g2 keeps)
unfolding part_changed
part_shape g g2 p keeps graph st h =
    let same = part_same g g2 p keeps graph st h in
    let s = is_shape g graph in
    record {
      below = λ n k. s.below n k;
      from = λ u v e. let z = same.back u v e in st.partition.only u (together_some p u z.0 z.2);
      onto = λ u v e. let z = same.back u v e in s.onto z.0 v z.1;
    }

pub part_stable : (g g2 : Graph) (p : List (Option ℕ)) (keeps : ℕ → Bool) → IsGraph g → Stable (shape_of g) p → KeepParents g g2 p keeps → Stable (part_changed g g2 keeps) p
part_stable g g2 p keeps graph st h = stable_same (shape_of g) (part_changed g g2 keeps) p (part_same g g2 p keeps graph st h) st

pub part_minimal : (g g2 : Graph) (p : List (Option ℕ)) (keeps : ℕ → Bool) → IsGraph g → Stable (shape_of g) p → KeepParents g g2 p keeps → Minimal (shape_of g) p → Minimal (part_changed g g2 keeps) p
part_minimal g g2 p keeps graph st h min = minimal_same (shape_of g) (part_changed g g2 keeps) p (part_same g g2 p keeps graph st h) min

pub part_keeps : (g g2 : Graph) (p p2 : List (Option ℕ)) (keeps : ℕ → Bool) → KeepsBlocks (shape_of g) (shape_of g2) p p2 → KeepsBlocks (part_changed g g2 keeps) (shape_of g2) p p2
unfolding part_changed
part_keeps g g2 p p2 keeps h = record { kept = λ n was is. h.kept n was is }

pub part_differs : (g g2 : Graph) (found keeps : ℕ → Bool) → ((n : ℕ) → IsTrue (is_live g2 n) → IsFalse (found n) → (label_of g n ≡ label_of g2 n) × IsTrue (keeps n)) → DiffersAt found (part_changed g g2 keeps) (shape_of g2)
unfolding part_changed
part_differs g g2 found keeps h = record {
  label = λ n live off. (h n live off).0;
  edge = λ p n live off. ap (λ t. cond t (has_edge g2 p n) (has_edge g p n)) (h n live off).1;
}

-- Where each parent of a node that passes stays, or another one in its block does, and such nodes get parents alone of which the block
-- had support to theirs, they keep their parent blocks.
pub keep_parents : (g g2 : Graph) (p : List (Option ℕ)) (keeps : ℕ → Bool) → IsGraph g → Stable (shape_of g) p
    → ((x y : ℕ) → IsTrue (keeps y) → IsTrue (has_edge g x y) → (z : ℕ) × IsTrue (has_edge g2 z y) × Together p x z)
    → ((x y : ℕ) → IsTrue (keeps y) → IsTrue (has_edge g2 x y) → IsFalse (has_edge g x y) → (a b : ℕ) × (at p x ≡ Some a) × (at p y ≡ Some b) × Adjacent (shape_of g) p a b)
    → KeepParents g g2 p keeps
keep_parents g g2 p keeps graph st stay support = record {
  into = stay;
  back = λ x y on e. elim (cases_Bool (has_edge g x y)) [
    | inl was ↦ (x, was, self_together g p x st ((is_shape g graph).from x y was))
    | inr new ↦ (
        let (a, b, hx, hy, (u, v, k, hu, hv)) = support x y on e new in
        let r = stable_parents (shape_of g) p st v y (b, hv, hy) u k in
        (r.0, r.1, (a, hx, together_at p u r.0 a r.2 hu)))
  ];
}

-- A change that takes no parent block from its target, and gives it none, leaves the partition stable, and minimal.
use Rattle.std.proofs.Common.{◌≡◌, ◌≢◌, ℕ, List, Option, sym, ◌∙◌, ap, subst, inl, inr}
use Rattle.std.specs.Prelude.{is_some}
use Rattle.std.proofs.lemmas.Bool.Decides.{eqb_tells}
use Rattle.graph_spec.specs.Members.{at}
use Rattle.graph_spec.specs.Shapes.{Shape, IsNode, IsParent, IsShape}
use Rattle.bisim_spec.specs.Partitions.{Together}
use Rattle.bisim_spec.specs.Stability.{Stable, Minimal, merged}
use Rattle.bisim_spec.proofs.Bisimilar.{some_of}
use Rattle.bisim_spec.proofs.Stable.{stable_label, stable_parents}
use Rattle.bisim_spec.proofs.Together.{together_sym, together_trans, merged_keeps}

-- The two shapes differ in the edge from u to v alone, and both have an edge to v from another node of the block of u.
pub record HasTwin (s s2 : Shape) (p : List (Option ℕ)) (u v w : ℕ) : Type 0 where
  pub label : (n : ℕ) → s.label n ≡ s2.label n
  pub edge : (x y : ℕ) → (x ≡ u → y ≡ v → ⊥) → s.edge x y ≡ s2.edge x y
  pub other : w ≢ u
  pub parent : IsParent s w v
  pub together : Together p w u

pub twin_back : (s s2 : Shape) (p : List (Option ℕ)) (u v w : ℕ) → HasTwin s s2 p u v w → HasTwin s2 s p u v w
twin_back s s2 p u v w t = record {
  label = λ n. sym (t.label n);
  edge = λ x y h. sym (t.edge x y h);
  other = t.other;
  parent = sym (t.edge w v (λ e f. t.other e)) ∙ t.parent;
  together = t.together;
}

-- a parent is one still, or else its twin is
twin_parent : (s s2 : Shape) (p : List (Option ℕ)) (u v w x y : ℕ) → HasTwin s s2 p u v w → Together p x x → IsParent s x y
    → (z : ℕ) × IsParent s2 z y × Together p x z
twin_parent s s2 p u v w x y t self e = elim (eqb_tells x u) [
  | inl xu ↦ elim (eqb_tells y v) [
    | inl yv ↦ (
      w,
      subst (λ m. IsParent s2 w m) (sym yv.1) ((twin_back s s2 p u v w t).parent),
      together_sym p w x (subst (λ m. Together p w m) (sym xu.1) t.together),
    )
    | inr yn ↦ (x, sym (t.edge x y (λ a b. yn.1 b)) ∙ e, self)
  ]
  | inr xn ↦ (x, sym (t.edge x y (λ a b. xn.1 a)) ∙ e, self)
]

pub stable_twin : (s s2 : Shape) (p : List (Option ℕ)) (u v w : ℕ) → IsShape s → IsShape s2 → HasTwin s s2 p u v w → Stable s p → Stable s2 p
stable_twin s s2 p u v w shape shape2 t st = record {
  partition = record {
    live = λ n h. st.partition.live n (ap is_some (t.label n) ∙ h);
    only = λ n h. ap is_some (sym (t.label n)) ∙ st.partition.only n h;
  };
  label = λ x y nx ny h. sym (t.label x) ∙ stable_label s p st x y h ∙ t.label y;
  parents = λ x y nx ny h q e.
      let z = twin_parent s2 s p u v w q x (twin_back s s2 p u v w t) (self q (ap is_some (t.label q) ∙ shape2.from q x e)) e in
      let r = stable_parents s p st x y h z.0 z.1 in
      let k = twin_parent s s2 p u v w r.0 y t (self r.0 (shape.from r.0 y r.1)) r.1 in
      (k.0, k.1, together_trans p q r.0 k.0 (together_trans p q z.0 r.0 z.2 r.2) k.2);
}
  where
    self : (n : ℕ) → IsNode s n → Together p n n
    self n h = let b = some_of (at p n) (st.partition.live n h) in (b.0, b.1, b.1)

twin_merged : (s s2 : Shape) (p : List (Option ℕ)) (u v w a b : ℕ) → HasTwin s s2 p u v w → HasTwin s s2 (merged a b p) u v w
twin_merged s s2 p u v w a b t = record {
  label = t.label;
  edge = t.edge;
  other = t.other;
  parent = t.parent;
  together = merged_keeps a b p w u t.together;
}

pub minimal_twin : (s s2 : Shape) (p : List (Option ℕ)) (u v w : ℕ) → IsShape s → IsShape s2 → HasTwin s s2 p u v w → Minimal s p → Minimal s2 p
minimal_twin s s2 p u v w shape shape2 t min = record {
  apart = λ x y a b ex ey ne can.
      min.apart x y a b ex ey ne
      (stable_twin s2 s (merged a b p) u v w shape2 shape (twin_back s s2 (merged a b p) u v w (twin_merged s s2 p u v w a b t)) can);
}

-- Walks of a graph and of its image under a mapping of the nodes.
use Rattle.std.proofs.Common.{◌≡◌, ℕ, List, [], ◌∷◌, ap, refl, sym, ◌∙◌, subst, Some, IsTrue}
use Rattle.std.specs.Prelude.{is_some}
use Rattle.graph_spec.specs.Shapes.{Shape, IsNode}
use Rattle.graph_spec.specs.Walks.{Leads}
use Rattle.path_spec.specs.Trees.{Expr}
use Rattle.path_spec.specs.PathAnswers.{IsAnswer}

-- a walk ends in a node
pub ends_in_node : (s : Shape) (u : ℕ) (w : List (List ℕ)) (v : ℕ) → Leads s u w v → IsNode s v
ends_in_node s u [] v h = absurd h
ends_in_node s u (t ∷ []) v h = subst (IsNode s) h.1 (ap is_some h.0)
ends_in_node s u (t ∷ r ∷ ts) v h = ends_in_node s h.1 (r ∷ ts) v h.3

module _ (s t : Shape) (f : ℕ → ℕ) (labels : (v : ℕ) → t.label (f v) ≡ s.label v) where
  -- where labels and edges are kept
  module _ (edges : (u v : ℕ) → IsTrue (s.edge u v) → IsTrue (t.edge (f u) (f v))) where
    leads_kept : (u : ℕ) (w : List (List ℕ)) (v : ℕ) → Leads s u w v → Leads t (f u) w (f v)
    leads_kept u [] v h = absurd h
    leads_kept u (r ∷ []) v h = (labels u ∙ h.0, ap f h.1)
    leads_kept u (r ∷ q ∷ ts) v h = (labels u ∙ h.0, f h.1, edges u h.1 h.2, leads_kept h.1 (q ∷ ts) v h.3)

    -- each answer is one on the image
    pub answer_kept : (e : Expr) (v : ℕ) → IsAnswer s e v → IsAnswer t e (f v)
    answer_kept e v (w, m, u, h) = (w, m, f u, leads_kept u w v h)

  -- where edges onto the image of a node come from edges onto it
  module _ (onto : (v c : ℕ) → IsTrue (t.edge c (f v)) → (u : ℕ) × IsTrue (s.edge u v) × (f u ≡ c)) where
    label_back : (u x : ℕ) (r : List ℕ) → f u ≡ x → t.label x ≡ Some r → s.label u ≡ Some r
    label_back u x r p h = sym (labels u) ∙ subst (λ y. t.label y ≡ Some r) (sym p) h

    leads_back : (x : ℕ) (w : List (List ℕ)) (v : ℕ) → Leads t x w (f v) → (u : ℕ) × Leads s u w v × (f u ≡ x)
    leads_back x [] v h = absurd h
    leads_back x (r ∷ []) v h = (v, (label_back v x r (sym h.1) h.0, refl), sym h.1)
    leads_back x (r ∷ q ∷ ts) v h =
        let i = leads_back h.1 (q ∷ ts) v h.3 in
        let d = onto i.0 x (subst (λ y. IsTrue (t.edge x y)) (sym i.2) h.2) in
        (d.0, (label_back d.0 x r d.2 h.0, i.0, d.1, i.1), d.2)

    -- each answer on the image is one
    pub answer_back : (e : Expr) (v : ℕ) → IsAnswer t e (f v) → IsAnswer s e v
    answer_back e v (w, m, x, h) = let u = leads_back x w v h in (w, m, u.0, u.1)

-- Walks that go on by one node.
use Rattle.std.proofs.Common.{◌≡◌, ℕ, List, [], ◌∷◌, ◌++◌, refl, sym, subst, Some, IsTrue}
use Rattle.graph_spec.specs.Walks.{Leads}
use Rattle.graph_spec.specs.Shapes.{Shape}

pub leads_on : (s : Shape) (u : ℕ) (t : List ℕ) (ts : List (List ℕ)) (v w : ℕ) (r : List ℕ)
    → Leads s u (t ∷ ts) v → IsTrue (s.edge v w) → s.label w ≡ Some r → Leads s u (t ∷ (ts ++ r ∷ [])) w
leads_on s u t [] v w r h e l = (h.0, w, subst (λ x. IsTrue (s.edge x w)) (sym h.1) e, (l, refl))
leads_on s u t (q ∷ ts) v w r h e l = (h.0, h.1, h.2, leads_on s h.1 q ts v w r h.3 e l)

-- the last step of a walk of two nodes or more
pub record LastStep (s : Shape) (u : ℕ) (t : List ℕ) (ts : List (List ℕ)) (r : List ℕ) (w : ℕ) : Type 0 where
  pub before : ℕ
  pub leads : Leads s u (t ∷ ts) before
  pub edge : IsTrue (s.edge before w)
  pub label : s.label w ≡ Some r

pub last_step : (s : Shape) (u : ℕ) (t : List ℕ) (ts : List (List ℕ)) (r : List ℕ) (w : ℕ)
    → Leads s u (t ∷ (ts ++ r ∷ [])) w → LastStep s u t ts r w
last_step s u t [] r w h = record {
  before = u;
  leads = (h.0, refl);
  edge = subst (λ x. IsTrue (s.edge u x)) h.3.1 h.2;
  label = subst (λ x. s.label x ≡ Some r) h.3.1 h.3.0;
}
last_step s u t (q ∷ ts) r w h =
    let l = last_step s h.1 q ts r w h.3 in
    record { before = l.before; leads = (h.0, h.1, h.2, l.leads); edge = l.edge; label = l.label }

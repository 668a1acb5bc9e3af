-- Walks of a shape, and their words.
use Rattle.std.specs.Prelude.{ℕ, ◌≡◌, List, [], ◌∷◌, Some}
use Rattle.graph_spec.specs.Shapes.{Shape, IsChild}

-- A walk is one or more nodes, each a child of the one before. Its word is the list of their labels. A walk with this
-- word leads from u to v.
abbrev pub Leads : Shape → ℕ → List (List ℕ) → ℕ → Type 0
Leads s u [] v = ⊥
Leads s u (t ∷ []) v = (s.label u ≡ Some t) × (u ≡ v)
Leads s u (t ∷ r ∷ ts) v = (s.label u ≡ Some t) × (w : ℕ) × IsChild s w u × Leads s w (r ∷ ts) v

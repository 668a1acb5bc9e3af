-- Changes that add the nodes of terms.
use Rattle.std.specs.Prelude.{◌≡◌, ℕ, List, [], ◌∷◌}
use Rattle.change_spec.specs.Steps.{Step, node}

-- the change adds a node with this label, and does nothing else
abbrev pub AddsNode : List Step → List ℕ → Type 0
AddsNode change label = change ≡ node label ∷ []

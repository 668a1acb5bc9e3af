-- The places of the steps that add nodes.
use Rattle.std.specs.Prelude.{ℕ, suc, List, [], ◌∷◌}
use Rattle.change_spec.specs.Steps.{Step, node, link, unlink, drop, relabel}

-- the place, where the step adds a node
abbrev pub place_if : Step → ℕ → List ℕ
place_if (node t) i = i ∷ []
place_if (link u v) i = []
place_if (unlink u v) i = []
place_if (drop u) i = []
place_if (relabel u t) i = []

-- the places of those that do, where the first step is at this place
abbrev pub places_from : ℕ → List Step → List ℕ
places_from i [] = []
places_from i (node t ∷ ss) = i ∷ places_from (suc i) ss
places_from i (link u v ∷ ss) = places_from (suc i) ss
places_from i (unlink u v ∷ ss) = places_from (suc i) ss
places_from i (drop u ∷ ss) = places_from (suc i) ss
places_from i (relabel u t ∷ ss) = places_from (suc i) ss

-- the places of the steps that add nodes, counted from 0
abbrev pub node_places : List Step → List ℕ
node_places c = places_from 0 c

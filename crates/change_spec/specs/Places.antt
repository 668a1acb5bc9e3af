-- Steps whose nodes and edges are there.
use Rattle.std.specs.Prelude.{⊤, List, [], ◌∷◌, IsTrue}
use Rattle.graph_spec.specs.Graphs.{Graph, is_live, has_edge}
use Rattle.change_spec.specs.Steps.{Step, node, link, unlink, drop, relabel, made}

-- what the step names is there: within some limits the step is accepted
abbrev pub CanMake : Step → Graph → Type 0
CanMake (node t) g = ⊤
CanMake (link u v) g = IsTrue (is_live g u) × IsTrue (is_live g v)
CanMake (unlink u v) g = IsTrue (is_live g u) × IsTrue (is_live g v) × IsTrue (has_edge g u v)
CanMake (drop u) g = IsTrue (is_live g u)
CanMake (relabel u t) g = IsTrue (is_live g u)

-- so for each of the steps, at its place
abbrev pub CanMakeAll : List Step → Graph → Type 0
CanMakeAll [] g = ⊤
CanMakeAll (s ∷ ss) g = CanMake s g × CanMakeAll ss (made s g)

-- The nodes at which a change alters a graph.
use Rattle.std.specs.Prelude.{ℕ, ◌||◌, ◌&&◌, not, Bool, false, List, [], ◌∷◌, length, nat_eq}
use Rattle.graph_spec.specs.Graphs.{Graph, label_of, is_live, has_edge}
use Rattle.change_spec.specs.Steps.{Step, node, link, unlink, drop, relabel, made, after, is_text}

-- the node that comes, the end of an edge that comes or goes, a child of the node that goes, a node that gets another label
abbrev pub alters : Step → Graph → ℕ → Bool
alters (node t) g n = nat_eq n (length g.allocated)
alters (link u v) g n = nat_eq n v && not (has_edge g u v)
alters (unlink u v) g n = nat_eq n v
alters (drop u) g n = has_edge g u n
alters (relabel u t) g n = nat_eq n u && not (is_text t (label_of g u))

-- some step does so at its place
abbrev pub altered : List Step → Graph → ℕ → Bool
altered [] g n = false
altered (s ∷ ss) g n = alters s g n || altered ss (made s g) n

-- whether a change alters the graph at the node, which is live after it
abbrev pub targets : List Step → Graph → ℕ → Bool
targets c g n = is_live (after c g) n && altered c g n

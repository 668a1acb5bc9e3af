-- The nodes at which a change alters a graph, by the sides that count.
use Rattle.std.specs.Prelude.{ℕ, ◌||◌, ◌&&◌, not, Bool, false, List, [], ◌∷◌, length, nat_eq}
use Rattle.graph_spec.specs.Graphs.{Graph, label_of, is_live, has_edge}
use Rattle.bisim_spec.specs.declared.sides.Sides.{Sides}
use Rattle.bisim_spec.specs.declared.sides.Sides.TheVariants as sides
use Rattle.change_spec.specs.Steps.{Step, node, link, unlink, drop, relabel, made, after, is_text}
use Rattle.change_spec.specs.Altered.{targets}

-- the node that comes, both ends of an edge that comes or goes, a parent or child of the node that goes, a node that
-- gets another label
abbrev pub is_end : Step → Graph → ℕ → Bool
is_end (node t) g n = nat_eq n (length g.allocated)
is_end (link u v) g n = (nat_eq n u || nat_eq n v) && not (has_edge g u v)
is_end (unlink u v) g n = nat_eq n u || nat_eq n v
is_end (drop u) g n = has_edge g n u || has_edge g u n
is_end (relabel u t) g n = nat_eq n u && not (is_text t (label_of g u))

-- so for some step at its place
abbrev pub is_some_end : List Step → Graph → ℕ → Bool
is_some_end [] g n = false
is_some_end (s ∷ ss) g n = is_end s g n || is_some_end ss (made s g) n

-- whether a change alters the graph at the node or at an edge of it, and the node is live after it
abbrev pub ends : List Step → Graph → ℕ → Bool
ends c g n = is_live (after c g) n && is_some_end c g n

-- where a change alters what counts at a node: with parents alone, these are its targets
abbrev pub ends_by : Sides → List Step → Graph → ℕ → Bool
ends_by sides.Parents c g = targets c g
ends_by sides.Both c g = ends c g

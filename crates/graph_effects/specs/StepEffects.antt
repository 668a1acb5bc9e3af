-- The effects of a list of steps, as they are gathered.
use Rattle.std.specs.Prelude.{ℕ, ◌||◌, ◌&&◌, not, Bool, false, List, [], ◌∷◌, ◌++◌, nat_eq, nat_lt, Option, Some, None, if◌then◌else◌}
use Rattle.std.specs.List.{list_any}
use Rattle.graph_spec.specs.Graphs.{Graph, is_live, has_edge}
use Rattle.graph_spec.specs.Members.{has}
use Rattle.change_spec.specs.Steps.{Step, node, link, unlink, drop, relabel}
use Rattle.bisim_spec.specs.declared.sides.Side.{Side}
use Rattle.bisim_spec.specs.declared.sides.Side.TheVariants.{Parents, Children}
use Rattle.bisim_spec.specs.declared.sides.Sides.{Sides}
use Rattle.bisim_spec.specs.declared.sides.Sides.TheVariants as sides
use Rattle.graph_effects.specs.Effects.{EffectLists, is_new_edge}

-- ---- nodes

-- the number where it is wanted
abbrev pub node_if : Bool → ℕ → List ℕ
node_if wanted n = if wanted then n ∷ [] else []

-- a node of the graph whose number is one from the first on, and below the end
abbrev pub comes_below : Graph → ℕ → ℕ → ℕ → Bool
comes_below g2 first end n = is_live g2 n && (not (nat_lt n first) && nat_lt n end)

-- the node that the step takes away, where it is one of the graph
abbrev pub gone_by : Graph → Step → List ℕ
gone_by g (node t) = []
gone_by g (link u v) = []
gone_by g (unlink u v) = []
gone_by g (drop u) = node_if (is_live g u) u
gone_by g (relabel u t) = []

-- the nodes of the graph that the steps take away, in the order of the steps
abbrev pub gone_with : Graph → List Step → List ℕ
gone_with g [] = []
gone_with g (s ∷ ss) = gone_by g s ++ gone_with g ss

-- ---- labels

-- the step gives the node a label
abbrev pub relabels : ℕ → Step → Bool
relabels n (node t) = false
relabels n (link u v) = false
relabels n (unlink u v) = false
relabels n (drop u) = false
relabels n (relabel u t) = nat_eq n u

-- the node to which the step gives a label, where it passes, unless a later step gives it one
abbrev pub relabelled_last : (ℕ → Bool) → Step → List Step → List ℕ
relabelled_last p (node t) rest = []
relabelled_last p (link u v) rest = []
relabelled_last p (unlink u v) rest = []
relabelled_last p (drop u) rest = []
relabelled_last p (relabel u t) rest = node_if (p u && not (list_any (relabels u) rest)) u

-- the nodes to which steps give labels, each once, where they pass
abbrev pub relabelled_where : (ℕ → Bool) → List Step → List ℕ
relabelled_where p [] = []
relabelled_where p (s ∷ ss) = relabelled_last p s ss ++ relabelled_where p ss

-- ---- pairs that steps name

-- the pair where it is wanted
abbrev pub pair_if : Bool → ℕ × ℕ → List (ℕ × ℕ)
pair_if wanted e = if wanted then e ∷ [] else []

-- the step links these nodes, or unlinks them
abbrev pub names_pair : ℕ → ℕ → Step → Bool
names_pair p n (node t) = false
names_pair p n (link u v) = nat_eq p u && nat_eq n v
names_pair p n (unlink u v) = nat_eq p u && nat_eq n v
names_pair p n (drop u) = false
names_pair p n (relabel u t) = false

-- the pair, unless one of the steps names it
abbrev pub unless_named : List Step → ℕ → ℕ → Option (ℕ × ℕ)
unless_named rest u v = if list_any (names_pair u v) rest then None else Some (u, v)

-- the pair that the step names, unless a later one does
abbrev pub named_last : Step → List Step → Option (ℕ × ℕ)
named_last (node t) rest = None
named_last (link u v) rest = unless_named rest u v
named_last (unlink u v) rest = unless_named rest u v
named_last (drop u) rest = None
named_last (relabel u t) rest = None

-- the pair if there is one, where it passes
abbrev pub passing : (ℕ → ℕ → Bool) → Option (ℕ × ℕ) → List (ℕ × ℕ)
passing p None = []
passing p (Some e) = pair_if (p e.0 e.1) e

-- the pairs that steps name, each once, where they pass
abbrev pub named_where : (ℕ → ℕ → Bool) → List Step → List (ℕ × ℕ)
named_where p [] = []
named_where p (s ∷ ss) = passing p (named_last s ss) ++ named_where p ss

-- the edge goes, and both of its ends stay
abbrev pub is_cut : Graph → Graph → ℕ → ℕ → Bool
is_cut g g2 u v = is_new_edge g2 g u v && (is_live g2 u && is_live g2 v)

-- ---- edges of nodes that go

-- the edges to the node from those of the others that stay
abbrev pub edges_from_live : Graph → ℕ → List ℕ → List (ℕ × ℕ)
edges_from_live g2 u [] = []
edges_from_live g2 u (p ∷ ps) = pair_if (is_live g2 p) (p, u) ++ edges_from_live g2 u ps

-- an edge from the node, or one to it from a node that stays
abbrev pub goes_with : Graph → Graph → ℕ → ℕ → ℕ → Bool
goes_with g g2 n u v = has_edge g u v && (nat_eq u n || (nat_eq v n && is_live g2 u))

-- the edge goes: both of its ends stay, or one is among these nodes
abbrev pub is_lost_with : Graph → Graph → List ℕ → ℕ → ℕ → Bool
is_lost_with g g2 gone u v = is_new_edge g2 g u v && ((is_live g2 u && is_live g2 v) || (has gone u || (has gone v && is_live g2 u)))

-- ---- targets

-- the end of an edge whose other end is its neighbour on this side
abbrev pub end_with : Side → ℕ × ℕ → ℕ
end_with Parents e = e.1
end_with Children e = e.0

-- those of these edges that are nodes of the graph
abbrev pub live_ends : Side → Graph → List (ℕ × ℕ) → List ℕ
live_ends d g2 [] = []
live_ends d g2 (e ∷ es) = node_if (is_live g2 (end_with d e)) (end_with d e) ++ live_ends d g2 es

-- the nodes at which effects alter what counts at a node: with parents alone the targets, with children too both ends
-- of each edge that comes or goes
abbrev pub ends_of : Sides → Graph → EffectLists → List ℕ
ends_of sides.Parents g2 e = e.targets
ends_of sides.Both g2 e = (e.targets ++ live_ends Children g2 e.lost) ++ live_ends Children g2 e.added

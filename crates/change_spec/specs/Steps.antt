-- The steps of a change, and what a graph becomes by each of them and by a list of them.
use Rattle.std.specs.Prelude.{ℕ, ◌||◌, ◌&&◌, not, Bool, false, List, [], ◌∷◌, length, if◌then◌else◌, nat_lt, nat_le, nat_eq, slice_set, Option, Some, None, Result, Ok, Err, bytes_eq}
use Rattle.std.specs.FinSet as set
use Rattle.graph_spec.specs.declared.limits.Limits.{Limits}
use Rattle.graph_spec.specs.declared.refusal.Refusal.{Refusal}
use Rattle.graph_spec.specs.declared.refusal.Refusal.TheVariants.{NoNode, NoEdge, Limit}
use Rattle.graph_spec.specs.Graphs.{Graph, label_of, is_live, has_edge, is_seen}
use Rattle.graph_spec.specs.Changes.{with_label, with_node, with_edge, without_edge, node_fits, edge_fits}

-- a node or an edge is added or taken away, or a node gets a label
pub data Step : Type 0 where
  -- one more node, with this label
  node : List ℕ → Step
  -- an edge from the first node to the second
  link : ℕ → ℕ → Step
  -- that edge is taken away
  unlink : ℕ → ℕ → Step
  -- the node is taken away with its edges; its number is never allocated again
  drop : ℕ → Step
  -- the node gets this label
  relabel : ℕ → List ℕ → Step

-- the edge begins or ends at the node
abbrev pub touches : ℕ → ℕ × ℕ → Bool
touches u e = nat_eq e.0 u || nat_eq e.1 u

-- the graph without the node, and without each edge that begins or ends there
abbrev pub without_node : Graph → ℕ → Graph
without_node g u = record g { allocated = slice_set g.allocated u None; edges = set.retain g.edges (λ e. not (touches u e)) }

-- the graph in which the node has that label
abbrev pub labelled : Graph → ℕ → List ℕ → Graph
labelled g u t = record g { allocated = slice_set g.allocated u (Some t); seen = with_label g.seen t }

-- the graph that the step leaves where it is made
abbrev pub made : Step → Graph → Graph
made (node t) g = with_node g t
made (link u v) g = with_edge g u v
made (unlink u v) g = without_edge g u v
made (drop u) g = without_node g u
made (relabel u t) g = labelled g u t

-- whether this is the text t
abbrev pub is_text : List ℕ → Option (List ℕ) → Bool
is_text t None = false
is_text t (Some r) = bytes_eq t r

-- a link of an edge that is there, or a label that the node has
abbrev pub is_idle : Step → Graph → Bool
is_idle (node t) g = false
is_idle (link u v) g = has_edge g u v
is_idle (unlink u v) g = false
is_idle (drop u) g = false
is_idle (relabel u t) g = is_text t (label_of g u)

-- the label was seen, or one more is within the limit
abbrev pub label_fits : Graph → Limits → List ℕ → Bool
label_fits g limits t = is_seen g.seen t || nat_lt (length g.seen) limits.labels

-- The graph after the step, or the first refusal: no-node, and then no-edge or limit.
abbrev pub apply_step : Step → Graph → Limits → Result Graph Refusal
apply_step (node t) g limits = if node_fits g limits t then Ok (with_node g t) else Err Limit
apply_step (link u v) g limits =
    if is_live g u && is_live g v then (if edge_fits g limits u v then Ok (with_edge g u v) else Err Limit) else Err NoNode
apply_step (unlink u v) g limits =
    if is_live g u && is_live g v then (if has_edge g u v then Ok (without_edge g u v) else Err NoEdge) else Err NoNode
apply_step (drop u) g limits = if is_live g u then Ok (without_node g u) else Err NoNode
apply_step (relabel u t) g limits = if is_live g u then (if label_fits g limits t then Ok (labelled g u t) else Err Limit) else Err NoNode

-- what comes next, where there is a graph
abbrev pub and_then : Result Graph Refusal → (Graph → Result Graph Refusal) → Result Graph Refusal
and_then (Ok g) f = f g
and_then (Err r) f = Err r

-- the steps one after the other, each of the graph that the one before left
abbrev pub apply_all : List Step → Graph → Limits → Result Graph Refusal
apply_all [] g limits = Ok g
apply_all (s ∷ ss) g limits = and_then (apply_step s g limits) (λ h. apply_all ss h limits)

-- how many steps a change may have
abbrev pub MOST_STEPS : ℕ
MOST_STEPS = 1024

-- The graph after a change, or the first refusal of a step; a change with too many steps is refused for the limit.
abbrev pub apply : List Step → Graph → Limits → Result Graph Refusal
apply c g limits = if nat_le (length c) MOST_STEPS then apply_all c g limits else Err Limit

-- the graph that the steps leave where each is made
abbrev pub after : List Step → Graph → Graph
after [] g = g
after (s ∷ ss) g = after ss (made s g)

-- some step isn't idle at its place
abbrev pub is_new : List Step → Graph → Bool
is_new [] g = false
is_new (s ∷ ss) g = not (is_idle s g) || is_new ss (made s g)

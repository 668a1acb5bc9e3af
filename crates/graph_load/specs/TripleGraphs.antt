-- The graph of a set of triples. Each term that is a subject or an object is a node, labelled by its kind; each triple
-- is a node, labelled by its predicate; edges lead from the subject to the triple and on to the object. Numbers are allocated
-- in the order of first need: of a new triple its subject, the triple, its object.
use Rattle.std.specs.Prelude.{ℕ, Bool, List, [], ◌∷◌, ◌++◌, length, is_some, unwrap_or, if◌then◌else◌, Result, Ok, Err}
use Rattle.std.specs.List.{list_any}
use Rattle.std.specs.Map.{keys_of}
use Rattle.graph_spec.specs.declared.limits.Limits.{Limits}
use Rattle.graph_spec.specs.declared.refusal.Refusal.{Refusal}
use Rattle.graph_spec.specs.Graphs.{Graph, empty_graph}
use Rattle.change_spec.specs.Steps.{Step, node, link, apply}
use Rattle.term_table.specs.Terms.{number_of}
use Rattle.triples_read.specs.declared.term.Term.{Term}
use Rattle.triples_read.specs.declared.term.Triple.{Triple}
use Rattle.triple_names.specs.Items.{same_triple, term_label, predicate_label}
use Rattle.triple_names.specs.Names.{Names}

-- the graph of the triples that were taken, and the numbers of nodes
pub record LoadState : Type 0 where
  -- the graph of the triples that were taken
  pub graph : Graph
  -- each term that is a node, with its number
  pub terms : List (Term × ℕ)
  -- the triples that were taken, each once, with the numbers of their nodes
  pub triples : List (Triple × ℕ)

-- the empty graph, with no terms and no triples
abbrev pub nothing_loaded : LoadState
nothing_loaded = record { graph = empty_graph; terms = []; triples = [] }

-- the numbers of what is loaded
abbrev pub names_of : LoadState → Names
names_of l = record { terms = l.terms; triples = l.triples }

-- whether the triple was taken
abbrev pub is_loaded : LoadState → Triple → Bool
is_loaded l t = list_any (same_triple t) (keys_of l.triples)

-- what is done next, unless something was refused
abbrev pub then_do : Result LoadState Refusal → (LoadState → Result LoadState Refusal) → Result LoadState Refusal
then_do (Ok l) f = f l
then_do (Err r) f = Err r

-- the state with the graph after a change
abbrev pub with_graph : LoadState → Result Graph Refusal → Result LoadState Refusal
with_graph l (Ok g) = Ok (record l { graph = g })
with_graph l (Err r) = Err r

-- the graph after a change of that one step
abbrev pub changed : Limits → Step → LoadState → Result LoadState Refusal
changed limits s l = with_graph l (apply (s ∷ []) l.graph limits)

-- the term gets the next number
abbrev pub numbered : Term → ℕ → LoadState → LoadState
numbered x n l = record l { terms = l.terms ++ (x, n) ∷ [] }

-- the term is a node: it is one already, or becomes one
abbrev pub need : Limits → Term → LoadState → Result LoadState Refusal
need limits x l =
    if is_some (number_of l.terms x) then Ok l
    else changed limits (node (term_label x)) (numbered x (length l.graph.allocated) l)

-- an edge between the node of a triple and that of a term, one way or the other
abbrev pub from_term : Limits → Term → ℕ → LoadState → Result LoadState Refusal
from_term limits x n l = changed limits (link (unwrap_or (number_of l.terms x) 0) n) l

-- an edge from the node n of a triple to that of a term
abbrev pub onto_term : Limits → ℕ → Term → LoadState → Result LoadState Refusal
onto_term limits n x l = changed limits (link n (unwrap_or (number_of l.terms x) 0)) l

-- the object of a triple is a node too, and edges lead from the subject to the triple's node n and on to the object
abbrev pub linked : Limits → Term → ℕ → Term → LoadState → Result LoadState Refusal
linked limits x n y l = then_do (need limits y l) (λ a. then_do (from_term limits x n a) (onto_term limits n y))

-- the nodes and edges of a new triple, whose own node has the number n
abbrev pub placed : Limits → Triple → ℕ → LoadState → Result LoadState Refusal
placed limits t n l = then_do (changed limits (node (predicate_label t.predicate)) l) (linked limits t.subject n t.object)

-- The triple is loaded: it is already, or its nodes and edges are added. It is refused where one of them passes a limit.
abbrev pub with_triple : Limits → Triple → LoadState → Result LoadState Refusal
with_triple limits t l =
    if is_loaded l t then Ok l
    else then_do (need limits t.subject l)
    (λ a. then_do (placed limits t (length a.graph.allocated) a) (λ b. Ok (record b { triples = b.triples ++ (t, length a.graph.allocated) ∷ [] })))

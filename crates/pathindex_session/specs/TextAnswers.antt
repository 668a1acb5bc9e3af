-- What a session answers to a query that is given as a text.
use Rattle.std.specs.Prelude.{ℕ, Bool, true, false, List, Result, Ok, Err, IfOk, IsTrue, ◌≡◌, ◌≢◌, ◌↔◌, ◌⊎◌}
use Rattle.graph_spec.specs.declared.refusal.Refusal.{Refusal}
use Rattle.graph_spec.specs.declared.refusal.Refusal.TheVariants.{Limit, NoIndex, NoNode}
use Rattle.graph_spec.specs.Graphs.{Graph, is_live}
use Rattle.graph_spec.specs.Shapes.{shape_of}
use Rattle.path_spec.specs.PathAnswers.{IsAnswer}
use Rattle.path_spec.specs.Trees.{Expr}
use Rattle.path_query.specs.Parsed.{SpellsPath}
use Rattle.branch_spec.specs.Trees as branch_trees
use Rattle.branch_text.specs.Parsed as branch_texts
use Rattle.branch_query.specs.Queries.{Query, of_path, of_branch}
use Rattle.index_api.specs.declared.kinds.Via.{Via}
use Rattle.index_api.specs.declared.answers.How.{How}
use Rattle.pathindex_core.specs.Engines.{kept_in}
use Rattle.pathindex_core.specs.QueryAnswers.{IsAnswered, NamesMissingIndex}
use Rattle.walk_spec.specs.LeastWalks.{IsLeast, Shows}
use Rattle.pathindex_session.specs.declared.errors.QueryError.{QueryError}
use Rattle.pathindex_session.specs.declared.errors.QueryError.TheVariants.{Refused, Syntax, Memory}
use Rattle.pathindex_session.specs.Sessions.{SessionOf, engine_in, graph_of}

-- the text spells a path expression, as a query
abbrev pub SpellsPathQuery : List ℕ → Query → Type 0
SpellsPathQuery text q = (e : Expr) × SpellsPath text e × (q ≡ of_path e)

-- the text spells a branching query
abbrev pub SpellsBranchQuery : List ℕ → Query → Type 0
SpellsBranchQuery text q = (b : branch_trees.Branch) × branch_texts.SpellsBranch text b × (q ≡ of_branch b)

-- What a session answers to a query.
pub record IsAskedHow (s t : SessionOf) (via : Via) (q : Query) (result : Result How QueryError) : Type 0 where
  -- the nodes found are the graph's own answers, found in the graph or in the index
  pub answered : IfOk result (λ how. IsAnswered (graph_of s) (kept_in (engine_in s)) via q how t.nodes)
  -- it is refused exactly where the index isn't kept
  pub no_index : (result ≡ Err (Refused NoIndex)) ↔ NamesMissingIndex (kept_in (engine_in s)) via
  -- else memory ran out
  pub no_other : result ≢ Err (Refused NoIndex) → (error : QueryError) → result ≡ Err error → error ≡ Memory

-- What a session answers to a text, where these are the queries that the text spells; at most one is.
pub record AnswersText (spells : Query → Type 0) (is_past : Bool) (s t : SessionOf) (via : Via) (result : Result How QueryError) : Type 0 where
  -- the nodes found are the graph's own answers to the query, found in the graph or in the index
  pub answered : IfOk result (λ how. (q : Query) × spells q × IsAnswered (graph_of s) (kept_in (engine_in s)) via q how t.nodes)
  -- it is refused for a limit exactly where the text passes one
  pub limit : (result ≡ Err (Refused Limit)) ↔ IsTrue is_past
  -- else for the index only if that isn't kept
  pub no_index : result ≡ Err (Refused NoIndex) → NamesMissingIndex (kept_in (engine_in s)) via
  -- nothing is answered then
  pub missing : NamesMissingIndex (kept_in (engine_in s)) via → (how : How) → result ≢ Ok how
  -- and for no other reason
  pub only : (r : Refusal) → result ≡ Err (Refused r) → (r ≡ Limit) ⊎ (r ≡ NoIndex)
  -- no text that spells a query is wrong
  pub syntax : result ≡ Err Syntax → (q : Query) → spells q → ⊥

-- the walk is the least that shows why the node answers; without one it doesn't answer
abbrev pub IsExplained : Bool → Graph → Expr → ℕ → List ℕ → Type 0
IsExplained true g e v walk = IsLeast (shape_of g) e v walk
IsExplained false g e v walk = IsAnswer (shape_of g) e v → ⊥

-- What a session answers to the question why a node answers the expression that a text spells.
pub record ExplainsText (text : List ℕ) (is_past : Bool) (s t : SessionOf) (v : ℕ) (result : Result Bool QueryError) : Type 0 where
  -- the least walk that shows it is found, or there is none
  pub found : IfOk result (λ b. (e : Expr) × SpellsPath text e × IsExplained b (graph_of s) e v t.walk)
  -- the text is refused exactly if it is past a limit
  pub limit : (result ≡ Err (Refused Limit)) ↔ IsTrue is_past
  -- else it is refused only where the node isn't live
  pub no_node : result ≡ Err (Refused NoNode) → is_live (graph_of s) v ≡ false
  -- and then it is
  pub live : is_live (graph_of s) v ≡ false → (b : Bool) → result ≢ Ok b
  -- and for no other reason
  pub only : (r : Refusal) → result ≡ Err (Refused r) → (r ≡ Limit) ⊎ (r ≡ NoNode)
  -- the text spells no expression
  pub syntax : result ≡ Err Syntax → (e : Expr) → SpellsPath text e → ⊥

-- What a session answers to the question whether a list of nodes shows why a node answers the expression that a text spells.
pub record ChecksText (text : List ℕ) (is_past : Bool) (s : SessionOf) (v : ℕ) (walk : List ℕ) (result : Result Bool QueryError) : Type 0 where
  -- it answers whether the list shows it
  pub checked : IfOk result (λ b. (e : Expr) × SpellsPath text e × (IsTrue b ↔ Shows (shape_of (graph_of s)) e v walk))
  -- the text is refused exactly if it is past a limit
  pub limit : (result ≡ Err (Refused Limit)) ↔ IsTrue is_past
  -- it is refused for no other reason
  pub only : (r : Refusal) → result ≡ Err (Refused r) → r ≡ Limit
  -- the text spells no expression
  pub syntax : result ≡ Err Syntax → (e : Expr) → SpellsPath text e → ⊥

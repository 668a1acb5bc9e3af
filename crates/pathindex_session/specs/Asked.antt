-- A query that is asked of an engine.
use Rattle.std.specs.Prelude.{ℕ, Vec, Result, Err, IfOk, ◌≡◌, ◌↔◌}
use Rattle.std.specs.Global.{Global}
use Rattle.branch_query.specs.Queries.{Query}
use Rattle.index_api.specs.declared.kinds.Via.{Via}
use Rattle.index_api.specs.declared.answers.How.{How}
use Rattle.pathindex_core.specs.declared.errors.AskError.{AskError}
use Rattle.pathindex_core.specs.declared.errors.AskError.TheVariants as ask_error
use Rattle.graph_spec.specs.declared.refusal.Refusal.TheVariants.{Limit, NoIndex as MissingIndex}
use Rattle.path_query.specs.declared.expr.ExprError.{ExprError}
use Rattle.path_query.specs.declared.expr.ExprError.TheVariants as text_error
use Rattle.pathindex_session.specs.declared.errors.QueryError.{QueryError}
use Rattle.pathindex_session.specs.declared.errors.QueryError.TheVariants.{Refused, Syntax, Memory}
use Rattle.pathindex_core.specs.Engines.{EngineSeen, kept_in}
use Rattle.pathindex_core.specs.QueryAnswers.{IsAnswered, NamesMissingIndex}
use Rattle.pathindex_core.specs.EngineTerms.{seen_graph}

-- what an engine answers to a query, whatever it read
pub record IsAsked (e : EngineSeen) (via : Via) (q : Query) (result : Result (Vec ℕ Global × How) AskError) : Type 0 where
  -- the answers are those of the graph, found in the graph or in the index
  pub answered : IfOk result (λ r. IsAnswered (seen_graph e) (kept_in e) via q r.1 r.0.items)
  -- `NoIndex` comes exactly where the index isn't kept
  pub no_index : (result ≡ Err ask_error.NoIndex) ↔ NamesMissingIndex (kept_in e) via

-- why a query isn't answered, where its text is none
abbrev pub of_text : ExprError → QueryError
of_text text_error.Limit = Refused Limit
of_text text_error.Syntax = Syntax
of_text text_error.Memory = Memory

-- and where the engine doesn't answer it
abbrev pub of_ask : AskError → QueryError
of_ask ask_error.NoIndex = Refused MissingIndex
of_ask ask_error.Memory = Memory

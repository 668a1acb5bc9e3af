-- What a session answers to a question, as numbers.
use Rattle.std.specs.Prelude.{ℕ, Bool, false, ◌≡◌, ◌↔◌, List, length, Result, Ok, Err, OnOk, OnErr, ⊤}
use Rattle.graph_spec.specs.ProgramLimits.{program_limits}
use Rattle.graph_spec.specs.declared.refusal.Refusal.{Refusal}
use Rattle.graph_spec.specs.declared.refusal.Refusal.TheVariants.{NoIndex}
use Rattle.bisim_spec.specs.declared.kind.Kind.{Kind}
use Rattle.path_query.specs.Parsed.{is_past}
use Rattle.branch_query.specs.Queries.{Query}
use Rattle.index_api.specs.declared.kinds.Via.{Via}
use Rattle.index_api.specs.declared.answers.How.{How}
use Rattle.index_api.specs.IndexKinds.{is_kept, has_kind}
use Rattle.px_base.specs.declared.allocation.Memory.{Memory}
use Rattle.extent_report.specs.PrintedLists.{ListsIndex, ListsSizes}
use Rattle.index_file.specs.SavedIndexes.{SavesFile}
use Rattle.index_file.specs.WholeFiles.{HasLabels, IsIndexFile}
use Rattle.pathindex_core.specs.Engines.{kept_in}
use Rattle.pathindex_core.specs.Calls.{IsForgotten, KeepsAllButViews}
use Rattle.pathindex_core.specs.EngineTerms.{engine_kinds}
use Rattle.pathindex_session.specs.declared.errors.QueryError.{QueryError}
use Rattle.pathindex_session.specs.declared.errors.QueryError.TheVariants.{Refused}
use Rattle.pathindex_session.specs.Sessions.{SessionOf, engine_in, graph_of, KeepsFound}
use Rattle.pathindex_session.specs.TextAnswers.{AnswersText, ExplainsText, ChecksText}
use Rattle.pathindex_calls.specs.declared.replies.Reply.{Reply}
use Rattle.pathindex_calls.specs.Replies.{of_answer, of_why, of_check, of_list, of_sizes, of_forget}
use Rattle.any_index.specs.AnyMeanings.{meaning_of}

-- A text was asked, where these are the queries that it spells.
pub record Asks (spells : Query → Type 0) (asked : List ℕ) (via : Via) (s t : SessionOf) (reply : Reply) : Type 0 where
  -- what the session answers
  pub answer : Result How QueryError
  -- the reply says it
  pub reply_is : reply ≡ of_answer answer (length t.nodes)
  -- the answer is that to a query which the text spells
  pub answers : AnswersText spells (is_past program_limits asked) s t via answer
  -- the engine stays, but for views that were computed
  pub keeps : KeepsAllButViews (engine_in s) (engine_in t)
  -- the numbers of terms and triples stay
  pub names : t.names ≡ s.names
  -- an error leaves the nodes that were found last
  pub err : OnErr answer (t.nodes ≡ s.nodes)
  -- the walk found last stays
  pub walk : t.walk ≡ s.walk
  -- the text made last stays
  pub text : t.text ≡ s.text

-- It was asked why a node answers.
pub record Explains (asked : List ℕ) (v : ℕ) (s t : SessionOf) (reply : Reply) : Type 0 where
  -- what the session answers
  pub answer : Result Bool QueryError
  -- the reply says it
  pub reply_is : reply ≡ of_why answer (length t.walk)
  -- the answer is that to the question why
  pub explained : ExplainsText asked (is_past program_limits asked) s t v answer
  -- without a walk the list of nodes stays
  pub no_walk : answer ≡ Ok false → t.walk ≡ s.walk
  -- an error leaves the walk that was found last
  pub err : OnErr answer (t.walk ≡ s.walk)
  -- the engine stays
  pub engine : t.engine ≡ s.engine
  -- the numbers of terms and triples stay
  pub names : t.names ≡ s.names
  -- the nodes found last stay
  pub nodes : t.nodes ≡ s.nodes
  -- the text made last stays
  pub text : t.text ≡ s.text

-- It was asked whether a list of nodes shows that one answers.
pub record Checks (asked : List ℕ) (v : ℕ) (walk : List ℕ) (s : SessionOf) (reply : Reply) : Type 0 where
  -- what the session answers
  pub answer : Result Bool QueryError
  -- the reply says it
  pub reply_is : reply ≡ of_check answer
  -- the answer tells whether the list of nodes shows it
  pub checked : ChecksText asked (is_past program_limits asked) s v walk answer

-- The blocks of an index were listed.
pub record Lists (via : Via) (s t : SessionOf) (reply : Reply) : Type 0 where
  -- what the session answers
  pub answer : Result ⊤ QueryError
  -- the reply says it, with the length of the text
  pub reply_is : reply ≡ of_list answer (length t.text)
  -- the text lists the blocks of the index
  pub listed : OnOk answer (ListsIndex (graph_of s) (kept_in (engine_in s)) via t.text)
  -- it is refused exactly if the index isn't kept
  pub no_index : (answer ≡ Err (Refused NoIndex)) ↔ (is_kept (kept_in (engine_in s)) via ≡ false)
  -- the engine stays, but for views that were computed
  pub keeps : KeepsAllButViews (engine_in s) (engine_in t)
  -- the numbers of terms and triples stay
  pub names : t.names ≡ s.names
  -- an error leaves the text
  pub err : OnErr answer (t.text ≡ s.text)
  -- the nodes found last stay
  pub nodes : t.nodes ≡ s.nodes
  -- the walk found last stays
  pub walk : t.walk ≡ s.walk

-- The sizes were listed.
pub record Measures (s t : SessionOf) (reply : Reply) : Type 0 where
  -- what the session answers
  pub answer : Result ⊤ Memory
  -- the reply says it
  pub reply_is : reply ≡ of_sizes answer (length t.text)
  -- the text lists the sizes of the indexes
  pub measured : OnOk answer (ListsSizes (graph_of s) (kept_in (engine_in s)) t.text)
  -- the engine stays, but for views that were computed
  pub keeps : KeepsAllButViews (engine_in s) (engine_in t)
  -- the numbers of terms and triples stay
  pub names : t.names ≡ s.names
  -- an error leaves the text
  pub err : OnErr answer (t.text ≡ s.text)
  -- the nodes found last stay
  pub nodes : t.nodes ≡ s.nodes
  -- the walk found last stays
  pub walk : t.walk ≡ s.walk

-- The index file of the graph and of its indexes was made.
pub record Saves (s t : SessionOf) (reply : Reply) : Type 0 where
  -- what the session answers
  pub answer : Result ⊤ Memory
  -- the reply says it
  pub reply_is : reply ≡ of_sizes answer (length t.text)
  -- the text is a saved file of the graph and its indexes
  pub saved : OnOk answer (SavesFile (graph_of s) (kept_in (engine_in s)) t.text)
  -- one file alone is spelled so, if each node's label is one
  pub whole : OnOk answer (HasLabels (graph_of s) → IsIndexFile (graph_of s) (kept_in (engine_in s)) t.text)
  -- the engine stays, but for views that were computed
  pub keeps : KeepsAllButViews (engine_in s) (engine_in t)
  -- the numbers of terms and triples stay
  pub names : t.names ≡ s.names
  -- an error leaves the text
  pub err : OnErr answer (t.text ≡ s.text)
  -- the nodes found last stay
  pub nodes : t.nodes ≡ s.nodes
  -- the walk found last stays
  pub walk : t.walk ≡ s.walk

-- The index of a kind was dropped.
pub record Forgets (kind : Kind) (s t : SessionOf) (reply : Reply) : Type 0 where
  -- what the session answers
  pub answer : Result ⊤ Refusal
  -- the reply says it
  pub reply_is : reply ≡ of_forget answer
  -- the index isn't kept any more
  pub forgotten : IsForgotten kind (engine_in s) (engine_in t)
  -- it is refused exactly if the index isn't kept
  pub no_index : (answer ≡ Err NoIndex) ↔ (has_kind (engine_kinds meaning_of s.engine) kind ≡ false)
  -- and for no other reason
  pub no_other : (r : Refusal) → answer ≡ Err r → r ≡ NoIndex
  -- the numbers of terms and triples stay
  pub names : t.names ≡ s.names
  -- what was found last stays
  pub keeps : KeepsFound s t

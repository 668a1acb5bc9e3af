-- What follows for a session from what the parser and the engine answer.
use Rattle.std.proofs.Common.{◌≡◌, ◌≢◌, ◌↔◌, ◌⊎◌, inl, inr, ℕ, Bool, false, List, Option, Some, None, Result, Ok, Err, IfOk, IsTrue, refl, sym, subst}
use Rattle.std.specs.Prelude.{IsErrOf}
use Rattle.graph_spec.specs.Graphs.{is_live}
use Rattle.graph_spec.specs.Shapes.{shape_of}
use Rattle.graph_spec.specs.declared.refusal.Refusal.{Refusal}
use Rattle.graph_spec.specs.declared.refusal.Refusal.TheVariants.{Limit, NoIndex, NoNode, NoEdge}
use Rattle.path_spec.specs.Trees.{Expr}
use Rattle.path_query.specs.Parsed.{SpellsPath}
use Rattle.path_query.specs.declared.expr.ExprError.{ExprError}
use Rattle.path_query.specs.declared.expr.ExprError.TheVariants as text_error
use Rattle.branch_query.specs.Queries.{Query}
use Rattle.index_api.specs.declared.kinds.Via.{Via}
use Rattle.index_api.specs.declared.answers.Answer.{Answer}
use Rattle.index_api.specs.declared.answers.How.{How}
use Rattle.pathindex_core.specs.declared.errors.AskError.{AskError}
use Rattle.pathindex_core.specs.declared.errors.AskError.TheVariants as ask_error
use Rattle.pathindex_core.specs.Engines.{kept_in}
use Rattle.pathindex_core.specs.QueryAnswers.{NamesMissingIndex}
use Rattle.walk_spec.specs.LeastWalks.{Shows}
use Rattle.pathindex_session.specs.declared.errors.QueryError.{QueryError}
use Rattle.pathindex_session.specs.declared.errors.QueryError.TheVariants.{Refused, Syntax, Memory}
use Rattle.pathindex_session.specs.Asked.{of_text, of_ask}
use Rattle.pathindex_session.specs.Sessions.{SessionOf, engine_in, graph_of}
use Rattle.pathindex_session.specs.TextAnswers.{IsAskedHow, IsExplained, AnswersText, ExplainsText, ChecksText}

-- a refusal for the limit is no other
limit_alone : {X : Type 0} (result : Result X QueryError) (r : Refusal) → result ≡ Err (Refused Limit) → result ≡ Err (Refused r) → r ≡ Limit
limit_alone result r is e = (let f : Limit ≡ r = cc in sym f)

-- a text that is no query
pub text_failed : {X : Type 0} (spells : Query → Type 0) (past : Bool) (s t : SessionOf) (via : Via) (parsed : Result X ExprError) (error : ExprError) → parsed ≡ Err error → ((parsed ≡ Err text_error.Limit) ↔ IsTrue past)
    → (IsErrOf parsed text_error.Syntax → (q : Query) → spells q → ⊥) → AnswersText spells past s t via (Err (of_text error))
text_failed spells past s t via parsed text_error.Limit is limit syntax = record {
  answered = tt;
  limit = (λ _. limit.0 is, λ _. refl);
  no_index = λ e. absurd (cc);
  missing = λ m how e. cc;
  only = λ r e. inl (limit_alone (Err (Refused Limit)) r refl e);
  syntax = λ e. absurd (cc);
}
text_failed spells past s t via parsed text_error.Syntax is limit syntax = record {
  answered = tt;
  limit = (λ e. absurd (cc), λ p. absurd (let e = limit.1 p in cc));
  no_index = λ e. absurd (cc);
  missing = λ m how e. cc;
  only = λ r e. absurd (cc);
  syntax = λ e. syntax (subst (λ r. IsErrOf r text_error.Syntax) (sym is) refl);
}
text_failed spells past s t via parsed text_error.Memory is limit syntax = record {
  answered = tt;
  limit = (λ e. absurd (cc), λ p. absurd (let e = limit.1 p in cc));
  no_index = λ e. absurd (cc);
  missing = λ m how e. cc;
  only = λ r e. absurd (cc);
  syntax = λ e. absurd (cc);
}

-- a query is refused for a missing index alone
missing_alone : (s t : SessionOf) (via : Via) (q : Query) (result : Result How QueryError) (r : Refusal) → result ≡ Err (Refused r) → IsAskedHow s t via q result → r ≡ NoIndex
missing_alone s t via q result NoIndex e asked = refl
missing_alone s t via q result NoNode e asked = absurd (let f = asked.no_other (λ g. cc) (Refused NoNode) e in cc)
missing_alone s t via q result NoEdge e asked = absurd (let f = asked.no_other (λ g. cc) (Refused NoEdge) e in cc)
missing_alone s t via q result Limit e asked = absurd (let f = asked.no_other (λ g. cc) (Refused Limit) e in cc)

-- a text that is one
pub text_asked : {X : Type 0} (spells : Query → Type 0) (past : Bool) (s t : SessionOf) (via : Via) (parsed : Result X ExprError) (x : X) (q : Query) (result : Result How QueryError)
    → parsed ≡ Ok x → ((parsed ≡ Err text_error.Limit) ↔ IsTrue past) → spells q → IsAskedHow s t via q result → AnswersText spells past s t via result
text_asked spells past s t via parsed x q (Ok how) is limit spelled asked = record {
  answered = (q, spelled, asked.answered);
  limit = (λ e. absurd (cc), λ p. absurd (let e = limit.1 p in cc));
  no_index = λ e. absurd (cc);
  missing = λ m h e. (let f = asked.no_index.1 m in cc);
  only = λ r e. absurd (cc);
  syntax = λ e. absurd (cc);
}
text_asked spells past s t via parsed x q (Err error) is limit spelled asked = record {
  answered = tt;
  limit = (λ e. absurd (let f = asked.no_other (λ g. cc) error refl in cc), λ p. absurd (let e = limit.1 p in cc));
  no_index = asked.no_index.0;
  missing = λ m h e. cc;
  only = λ r e. inr (missing_alone s t via q (Err error) r e asked);
  syntax = λ e. absurd (let f = asked.no_other (λ g. cc) error refl in cc);
}

-- an engine that doesn't answer
pub ask_failed : {X : Type 0} (s t : SessionOf) (via : Via) (q : Query) (asked : Result X AskError) (error : AskError) → asked ≡ Err error → ((asked ≡ Err ask_error.NoIndex) ↔ NamesMissingIndex (kept_in (engine_in s)) via)
    → IsAskedHow s t via q (Err (of_ask error))
ask_failed s t via q asked ask_error.NoIndex is missing = record {
  answered = tt;
  no_index = (λ _. missing.0 is, λ _. refl);
  no_other = λ ne. absurd (ne refl);
}
ask_failed s t via q asked ask_error.Memory is missing = record {
  answered = tt;
  no_index = (λ e. absurd (cc), λ m. absurd (let e = missing.1 m in cc));
  no_other = λ ne error e. (let f : Memory ≡ error = cc in sym f);
}

pub explain_failed : {X : Type 0} (text : List ℕ) (past : Bool) (s t : SessionOf) (v : ℕ) (parsed : Result X ExprError) (error : ExprError) → parsed ≡ Err error → ((parsed ≡ Err text_error.Limit) ↔ IsTrue past)
    → (IsErrOf parsed text_error.Syntax → (e : Expr) → SpellsPath text e → ⊥) → ExplainsText text past s t v (Err (of_text error))
explain_failed text past s t v parsed text_error.Limit is limit syntax = record {
  found = tt;
  limit = (λ _. limit.0 is, λ _. refl);
  no_node = λ e. absurd (cc);
  live = λ off b e. cc;
  only = λ r e. inl (limit_alone (Err (Refused Limit)) r refl e);
  syntax = λ e. absurd (cc);
}
explain_failed text past s t v parsed text_error.Syntax is limit syntax = record {
  found = tt;
  limit = (λ e. absurd (cc), λ p. absurd (let e = limit.1 p in cc));
  no_node = λ e. absurd (cc);
  live = λ off b e. cc;
  only = λ r e. absurd (cc);
  syntax = λ e. syntax (subst (λ r. IsErrOf r text_error.Syntax) (sym is) refl);
}
explain_failed text past s t v parsed text_error.Memory is limit syntax = record {
  found = tt;
  limit = (λ e. absurd (cc), λ p. absurd (let e = limit.1 p in cc));
  no_node = λ e. absurd (cc);
  live = λ off b e. cc;
  only = λ r e. absurd (cc);
  syntax = λ e. absurd (cc);
}

pub not_explained : {X : Type 0} (text : List ℕ) (past : Bool) (s t : SessionOf) (v : ℕ) (parsed : Result X ExprError) (x : X) → parsed ≡ Ok x → ((parsed ≡ Err text_error.Limit) ↔ IsTrue past) → is_live (graph_of s) v ≡ false
    → ExplainsText text past s t v (Err (Refused NoNode))
not_explained text past s t v parsed x is limit off = record {
  found = tt;
  limit = (λ e. absurd (cc), λ p. absurd (let e = limit.1 p in cc));
  no_node = λ _. off;
  live = λ _ b e. cc;
  only = λ r e. inr (let f : NoNode ≡ r = cc in sym f);
  syntax = λ e. absurd (cc);
}

pub explained : {X : Type 0} (text : List ℕ) (past : Bool) (s t : SessionOf) (v : ℕ) (parsed : Result X ExprError) (x : X) (e : Expr) (result : Result Bool QueryError) → parsed ≡ Ok x → ((parsed ≡ Err text_error.Limit) ↔ IsTrue past)
    → SpellsPath text e → IsTrue (is_live (graph_of s) v) → IfOk result (λ b. IsExplained b (graph_of s) e v t.walk) → ((error : QueryError) → result ≡ Err error → error ≡ Memory)
    → ExplainsText text past s t v result
explained text past s t v parsed x e (Ok b) is limit spells live found only = record {
  found = (e, spells, found);
  limit = (λ h. absurd (cc), λ p. absurd (let h = limit.1 p in cc));
  no_node = λ h. absurd (cc);
  live = λ off c h. absurd (let z = live in cc);
  only = λ r h. absurd (cc);
  syntax = λ h. absurd (cc);
}
explained text past s t v parsed x e (Err error) is limit spells live found only = record {
  found = tt;
  limit = (λ h. absurd (let f = only error refl in cc), λ p. absurd (let h = limit.1 p in cc));
  no_node = λ h. absurd (let f = only error refl in cc);
  live = λ off c h. cc;
  only = λ r h. absurd (let f = only error refl in cc);
  syntax = λ h. absurd (let f = only error refl in cc);
}

pub check_failed : {X : Type 0} (text : List ℕ) (past : Bool) (s : SessionOf) (v : ℕ) (walk : List ℕ) (parsed : Result X ExprError) (error : ExprError) → parsed ≡ Err error → ((parsed ≡ Err text_error.Limit) ↔ IsTrue past)
    → (IsErrOf parsed text_error.Syntax → (e : Expr) → SpellsPath text e → ⊥) → ChecksText text past s v walk (Err (of_text error))
check_failed text past s v walk parsed text_error.Limit is limit syntax = record {
  checked = tt;
  limit = (λ _. limit.0 is, λ _. refl);
  only = λ r e. limit_alone (Err (Refused Limit)) r refl e;
  syntax = λ e. absurd (cc);
}
check_failed text past s v walk parsed text_error.Syntax is limit syntax = record {
  checked = tt;
  limit = (λ e. absurd (cc), λ p. absurd (let e = limit.1 p in cc));
  only = λ r e. absurd (cc);
  syntax = λ e. syntax (subst (λ r. IsErrOf r text_error.Syntax) (sym is) refl);
}
check_failed text past s v walk parsed text_error.Memory is limit syntax = record {
  checked = tt;
  limit = (λ e. absurd (cc), λ p. absurd (let e = limit.1 p in cc));
  only = λ r e. absurd (cc);
  syntax = λ e. absurd (cc);
}

pub checked : {X : Type 0} (text : List ℕ) (past : Bool) (s : SessionOf) (v : ℕ) (walk : List ℕ) (parsed : Result X ExprError) (x : X) (e : Expr) (b : Bool) → parsed ≡ Ok x → ((parsed ≡ Err text_error.Limit) ↔ IsTrue past)
    → SpellsPath text e → (IsTrue b ↔ Shows (shape_of (graph_of s)) e v walk) → ChecksText text past s v walk (Ok b)
checked text past s v walk parsed x e b is limit spells shows = record {
  checked = (e, spells, shows);
  limit = (λ h. absurd (cc), λ p. absurd (let h = limit.1 p in cc));
  only = λ r h. absurd (cc);
  syntax = λ h. absurd (cc);
}

pub not_checked : {X : Type 0} (text : List ℕ) (past : Bool) (s : SessionOf) (v : ℕ) (walk : List ℕ) (parsed : Result X ExprError) (x : X) → parsed ≡ Ok x → ((parsed ≡ Err text_error.Limit) ↔ IsTrue past)
    → ChecksText text past s v walk (Err Memory)
not_checked text past s v walk parsed x is limit = record {
  checked = tt;
  limit = (λ h. absurd (cc), λ p. absurd (let h = limit.1 p in cc));
  only = λ r h. absurd (cc);
  syntax = λ h. absurd (cc);
}

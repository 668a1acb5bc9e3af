-- What an engine answers to a query, once the answers are a list.
use Rattle.std.proofs.Common.{◌≡◌, ◌↔◌, ℕ, List, Vec, Global, Result, Ok, Err, IfOk, refl, sym, subst}
use Rattle.branch_query.specs.Queries.{Query}
use Rattle.index_api.specs.declared.kinds.Via.{Via}
use Rattle.index_api.specs.declared.answers.Answer.{Answer}
use Rattle.index_api.specs.declared.answers.How.{How}
use Rattle.pathindex_core.specs.declared.errors.AskError.{AskError}
use Rattle.pathindex_core.specs.declared.errors.AskError.TheVariants.{NoIndex, Memory}
use Rattle.pathindex_core.specs.Engines.{EngineSeen, graph_in, kept_in}
use Rattle.pathindex_core.specs.QueryAnswers.{IsAnswered, IsQueried}
use Rattle.pathindex_session.specs.Asked.{IsAsked}

pub listed : (e f : EngineSeen) (via : Via) (q : Query) (asked : Result Answer AskError) (before after : ℕ) (answer : Answer) (nodes : Vec ℕ Global)
    → asked ≡ Ok answer → IsQueried e f via q asked before after → nodes.items ≡ answer.nodes.members → IsAsked e via q (Ok (nodes, answer.how))
listed e f via q asked before after answer nodes is queried same = record {
  answered = subst (λ l. IsAnswered (graph_in e.opened) (kept_in e) via q answer.how l) (sym same)
      (subst (λ r. IfOk r (λ a. IsAnswered (graph_in e.opened) (kept_in e) via q a.how a.nodes.members)) is queried.answered);
  no_index = (λ x. absurd (cc), λ m. absurd (let y = queried.no_index.1 m in cc));
}

-- there was no memory for the list
pub not_listed : (e f : EngineSeen) (via : Via) (q : Query) (asked : Result Answer AskError) (before after : ℕ) (answer : Answer) → asked ≡ Ok answer → IsQueried e f via q asked before after
    → IsAsked e via q (Err Memory)
not_listed e f via q asked before after answer is queried = record {
  answered = tt;
  no_index = (λ x. absurd (cc), λ m. absurd (let y = queried.no_index.1 m in cc));
}

pub not_asked : (e f : EngineSeen) (via : Via) (q : Query) (asked : Result Answer AskError) (before after : ℕ) (error : AskError) → asked ≡ Err error → IsQueried e f via q asked before after
    → IsAsked e via q (Err error)
not_asked e f via q asked before after error is queried = record {
  answered = tt;
  no_index = (λ x. queried.no_index.0 (let y = is in cc), λ m. (let y = queried.no_index.1 m in cc));
}

-- What a call came to, as numbers.
use Rattle.std.specs.Prelude.{ℕ, Bool, true, false, Result, Ok, Err}
use Rattle.graph_spec.specs.declared.refusal.Refusal.{Refusal}
use Rattle.graph_spec.specs.declared.refusal.Refusal.TheVariants.{NoNode, NoEdge, Limit, NoIndex}
use Rattle.graph_update.specs.declared.staging.Applied.{Applied}
use Rattle.index_api.specs.declared.answers.How.{How}
use Rattle.index_api.specs.declared.answers.How.TheVariants.{Data, Exact, Checked}
use Rattle.px_base.specs.declared.allocation.Memory.{Memory}
use Rattle.pathindex_core.specs.declared.errors.UpdateError.{UpdateError}
use Rattle.pathindex_core.specs.declared.errors.UpdateError.TheVariants as update_error
use Rattle.pathindex_session.specs.declared.errors.OpenError.{OpenError}
use Rattle.pathindex_session.specs.declared.errors.OpenError.TheVariants as open_error
use Rattle.pathindex_session.specs.declared.errors.QueryError.{QueryError}
use Rattle.pathindex_session.specs.declared.errors.QueryError.TheVariants as query_error
use Rattle.pathindex_calls.specs.declared.replies.Reply.{Reply}

-- a code alone
abbrev pub said : ℕ → Reply
said code = record { code = code; how = 0; count = 0; number = 0 }

-- a code and the number of a line
abbrev pub at_line : ℕ → ℕ → Reply
at_line code line = record { code = code; how = 0; count = line; number = 0 }

-- carried out, with a count
abbrev pub counted : ℕ → Reply
counted count = record { code = 0; how = 0; count = count; number = 0 }

-- carried out, with how answers were found, how many there are, and how many candidates there were
abbrev pub found : ℕ → ℕ → ℕ → Reply
found how count candidates = record { code = 0; how = how; count = count; number = candidates }

-- the code of a refusal
abbrev pub refusal_code : Refusal → ℕ
refusal_code NoNode = 1
refusal_code NoEdge = 2
refusal_code Limit = 4
refusal_code NoIndex = 5

-- a text is malformed
abbrev pub misspelled : Reply
misspelled = said 6

-- memory ran out
abbrev pub out_of_memory : Reply
out_of_memory = said 7

-- there is no such call, or it can't be made now
abbrev pub misused : Reply
misused = said 8

-- why a text isn't opened; the line that is refused, if one is
abbrev pub of_open : OpenError → Reply
of_open (open_error.Syntax line) = at_line 6 line
of_open (open_error.Limit line) = at_line 4 line
of_open open_error.Memory = out_of_memory

-- why a query isn't answered
abbrev pub of_query : QueryError → Reply
of_query (query_error.Refused r) = said (refusal_code r)
of_query query_error.Syntax = misspelled
of_query query_error.Memory = out_of_memory

-- how many nodes were added, and the number of the first
abbrev pub of_update : Result Applied UpdateError → Reply
of_update (Ok a) = record { code = 0; how = 0; count = a.added; number = a.first }
of_update (Err (update_error.Refused r)) = said (refusal_code r)
of_update (Err update_error.Memory) = out_of_memory

-- of an answer of so many nodes
abbrev pub of_answer : Result How QueryError → ℕ → Reply
of_answer (Ok Data) count = found 0 count 0
of_answer (Ok (Exact candidates)) count = found 1 count candidates
of_answer (Ok (Checked candidates)) count = found 2 count candidates
of_answer (Err error) count = of_query error

-- of a walk of so many nodes; none, where the node doesn't answer
abbrev pub of_why : Result Bool QueryError → ℕ → Reply
of_why (Ok true) count = counted count
of_why (Ok false) count = counted 0
of_why (Err error) count = of_query error

-- 1 where the walk shows it, 0 where it doesn't
abbrev pub of_check : Result Bool QueryError → Reply
of_check (Ok true) = counted 1
of_check (Ok false) = counted 0
of_check (Err error) = of_query error

-- of a list of so many bytes
abbrev pub of_list : {X : Type 0} → Result X QueryError → ℕ → Reply
of_list (Ok x) count = counted count
of_list (Err error) count = of_query error

-- of a text of so many bytes, for which only memory can run out
abbrev pub of_sizes : {X : Type 0} → Result X Memory → ℕ → Reply
of_sizes (Ok x) count = counted count
of_sizes (Err error) count = out_of_memory

-- carried out, or why it is refused
abbrev pub of_forget : {X : Type 0} → Result X Refusal → Reply
of_forget (Ok x) = said 0
of_forget (Err r) = said (refusal_code r)

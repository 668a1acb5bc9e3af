-- What a session answers to a call that changes its graph, as numbers.
use Rattle.std.specs.Prelude.{ℕ, ◌≡◌, ◌≢◌, ◌↔◌, ◌⊎◌, ◌++◌, ◌∷◌, [], false, List, Option, Some, None, Result, Err, IfOk, OnOk, OnErr}
use Rattle.graph_spec.specs.declared.refusal.Refusal.{Refusal}
use Rattle.change_spec.specs.Steps.{Step, is_new}
use Rattle.triples_read.specs.declared.term.Triple.{Triple}
use Rattle.triples_read.specs.Lines.{SpellsTriple}
use Rattle.path_query.specs.Labels.{SpellsLabel}
use Rattle.triple_names.specs.Names.{AreSameNames}
use Rattle.triple_names.specs.TripleChanges.{insert_steps, delete_change}
use Rattle.graph_update.specs.declared.staging.Applied.{Applied}
use Rattle.pathindex_core.specs.declared.errors.UpdateError.{UpdateError}
use Rattle.pathindex_core.specs.declared.errors.UpdateError.TheVariants.{Refused, Memory}
use Rattle.pathindex_core.specs.Calls.{IsMade}
use Rattle.pathindex_core.specs.EngineTerms.{engine_outcome}
use Rattle.pathindex_session.specs.Sessions.{SessionOf, engine_in, graph_of, names_of, KeepsFound}
use Rattle.pathindex_session.specs.Edits.{IsEdited, names_with}
use Rattle.pathindex_calls.specs.declared.replies.Reply.{Reply}
use Rattle.pathindex_calls.specs.Replies.{said, of_update, misspelled, out_of_memory, misused}

-- A change was asked for: it was made, or refused for its cause.
pub record Makes (c : List Step) (s t : SessionOf) (reply : Reply) : Type 0 where
  -- what the engine answers
  pub answer : Result Applied UpdateError
  -- the reply says the same
  pub reply_is : reply ≡ of_update answer
  -- a refusal comes exactly if the change is refused within the engine's limits, and for the same cause
  pub refused : (r : Refusal) → (answer ≡ Err (Refused r)) ↔ (engine_outcome c s.engine ≡ Err r)
  -- if there is no error, the change was made
  pub made : IfOk answer (IsMade c (engine_in s) (engine_in t))
  -- if all steps are idle, memory doesn't run out
  pub same : is_new c (graph_of s) ≡ false → answer ≢ Err Memory
  -- an error leaves the engine as it was
  pub err : OnErr answer (engine_in t ≡ engine_in s)
  -- terms and triples keep their numbers
  pub names : t.names ≡ s.names
  -- what was found last stays
  pub keeps : KeepsFound s t

-- A change of one step was asked for, unless memory ran out before.
abbrev pub MakesOne : Step → SessionOf → SessionOf → Reply → Type 0
MakesOne x s t reply = Makes (x ∷ []) s t reply ⊎ ((t ≡ s) × (reply ≡ out_of_memory))

-- A triple was inserted, or refused.
pub record Inserts (x : Triple) (s t : SessionOf) (reply : Reply) : Type 0 where
  -- what the engine answers
  pub answer : Result Applied UpdateError
  -- the reply says the same
  pub reply_is : reply ≡ of_update answer
  -- the steps that the triple lacks were made as one change, or refused for their cause
  pub edited : IsEdited (Some (insert_steps (names_of s) (graph_of s) x)) (engine_in s) (engine_in t) answer
  -- if they were made, the parts of the triple have the numbers of their nodes
  pub names : OnOk answer (AreSameNames (names_of t) (names_with (names_of s) (graph_of s) x))
  -- an error leaves all numbers
  pub err_names : OnErr answer (AreSameNames (names_of t) (names_of s))
  -- what was found last stays
  pub keeps : KeepsFound s t

-- A triple was deleted, or refused.
pub record Deletes (x : Triple) (s t : SessionOf) (reply : Reply) : Type 0 where
  -- what the engine answers
  pub answer : Result Applied UpdateError
  -- the reply says the same
  pub reply_is : reply ≡ of_update answer
  -- the steps that take the triple away were made as one change, or refused for their cause
  pub edited : IsEdited (delete_change (names_of s) (graph_of s) x) (engine_in s) (engine_in t) answer
  -- terms and triples keep their numbers
  pub names : t.names ≡ s.names
  -- what was found last stays
  pub keeps : KeepsFound s t

-- A text was read: it spells something, from which the call went on; or it spells nothing of the kind, or memory ran out, and
-- all stays.
pub data Reads {X : Type 0} (spells goes : X → Type 0) (stays : Type 0) (reply : Reply) : Type 0 where
  read : (x : X) → spells x → goes x → Reads spells goes stays reply
  wrong : ((x : X) → spells x → ⊥) → stays → reply ≡ misspelled → Reads spells goes stays reply
  failed : stays → reply ≡ out_of_memory → Reads spells goes stays reply

-- the text spells a triple, as a line of N-Triples does, which was inserted or deleted
abbrev pub ReadsTriple : (Triple → SessionOf → SessionOf → Reply → Type 0) → List ℕ → SessionOf → SessionOf → Reply → Type 0
ReadsTriple Goes text s t reply = Reads (λ x. SpellsTriple text x) (λ x. Goes x s t reply) (t ≡ s) reply

-- A group of steps, where one is begun, got one more, unless memory ran out.
abbrev pub Adds : Step → List Step → List Step → Reply → Type 0
Adds x c d reply = ((d ≡ c ++ x ∷ []) × (reply ≡ said 0)) ⊎ ((d ≡ c) × (reply ≡ out_of_memory))

-- A step was taken: made alone, or put behind those of the group that is begun.
abbrev pub Steps : Step → SessionOf → Option (List Step) → SessionOf → Option (List Step) → Reply → Type 0
Steps x s None t h reply = (h ≡ None) × MakesOne x s t reply
Steps x s (Some c) t h reply = (t ≡ s) × ((d : List Step) × (h ≡ Some d) × Adds x c d reply)

-- The text spells the label of the step that was taken.
abbrev pub Labels : (List ℕ → Step) → List ℕ → SessionOf → Option (List Step) → SessionOf → Option (List Step) → Reply → Type 0
Labels step text s g t h reply = Reads (λ label. SpellsLabel text label) (λ label. Steps (step label) s g t h reply) ((t ≡ s) × (h ≡ g)) reply

-- A group was begun, unless one is begun already or memory ran out.
abbrev pub Begins : Option (List Step) → Option (List Step) → Reply → Type 0
Begins None h reply = ((h ≡ Some []) × (reply ≡ said 0)) ⊎ ((h ≡ None) × (reply ≡ out_of_memory))
Begins (Some c) h reply = (h ≡ Some c) × (reply ≡ misused)

-- The group that is begun was ended, and its steps were asked for as one change.
abbrev pub Ends : SessionOf → Option (List Step) → SessionOf → Option (List Step) → Reply → Type 0
Ends s None t h reply = (t ≡ s) × (h ≡ None) × (reply ≡ misused)
Ends s (Some c) t h reply = (h ≡ None) × Makes c s t reply

-- The group that is begun was dropped.
abbrev pub Cancels : Option (List Step) → Option (List Step) → Reply → Type 0
Cancels None h reply = (h ≡ None) × (reply ≡ misused)
Cancels (Some c) h reply = (h ≡ None) × (reply ≡ said 0)

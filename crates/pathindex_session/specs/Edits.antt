-- Triples that come into the graph of an open engine, or go out of it.
use Rattle.std.specs.Prelude.{◌≡◌, ◌≢◌, List, Option, Some, None, Result, Ok, Err, IfOk, OnErr}
use Rattle.graph_spec.specs.declared.refusal.Refusal.{Refusal}
use Rattle.graph_spec.specs.declared.refusal.Refusal.TheVariants.{NoNode}
use Rattle.graph_spec.specs.Graphs.{Graph}
use Rattle.change_spec.specs.Steps.{Step}
use Rattle.triples_read.specs.declared.term.Triple.{Triple}
use Rattle.triple_names.specs.Names.{Names}
use Rattle.triple_names.specs.TripleChanges.{placed_in, noted}
use Rattle.graph_update.specs.declared.staging.Applied.{Applied}
use Rattle.pathindex_core.specs.declared.errors.UpdateError.{UpdateError}
use Rattle.pathindex_core.specs.declared.errors.UpdateError.TheVariants.{Refused}
use Rattle.pathindex_core.specs.Engines.{EngineSeen}
use Rattle.pathindex_core.specs.Calls.{IsMade}
use Rattle.pathindex_core.specs.EngineTerms.{seen_outcome}

-- the numbers of terms and triples, once a triple is inserted into the graph
abbrev pub names_with : Names → Graph → Triple → Names
names_with n g t = noted t (placed_in n g t) n

-- the graph once the steps are made, or why they are refused; there are none where a triple to delete isn't there
abbrev pub outcome_of : EngineSeen → Option (List Step) → Result Graph Refusal
outcome_of e None = Err NoNode
outcome_of e (Some c) = seen_outcome c e

-- What an open engine answers to an edit that makes these steps.
pub record IsEdited (steps : Option (List Step)) (e f : EngineSeen) (result : Result Applied UpdateError) : Type 0 where
  -- the steps were made as one change
  pub made : IfOk result (λ answer. (c : List Step) × (steps ≡ Some c) × IsMade c e f answer)
  -- it is refused for its cause alone
  pub refused : (r : Refusal) → result ≡ Err (Refused r) → outcome_of e steps ≡ Err r
  -- where there is one it isn't made
  pub kept : (r : Refusal) → outcome_of e steps ≡ Err r → (answer : Applied) → result ≢ Ok answer
  -- unless it is made, the graph and its indexes stay
  pub err : OnErr result (f ≡ e)

-- The state of a run, as the engine has it.
use Rattle.std.specs.Prelude.{◌≡◌}
use Rattle.graph_spec.specs.ProgramLimits.{program_limits}
use Rattle.index_api.specs.Meanings.{Meaning}
use Rattle.triple_names.specs.Names.{Names}
use Rattle.pathindex_core.specs.Engines.{Opened, EngineOf, EngineSeen, IsSound, by_meaning, kept_in}
use Rattle.pathindex_core.specs.EngineTerms.{IsSeenOpened, IsSeenOpenedAs, seen_graph}
use Rattle.script_interpreter.specs.States.{State}

-- the graph and the indexes of the engine, and these numbers of terms and triples
abbrev pub state_in : EngineSeen → Names → State
state_in e n = record { graph = seen_graph e; kept = kept_in e; names = n }

-- the same of an engine, by what its indexes mean
abbrev pub state_of : {B : Type 0} → (B → Meaning) → EngineOf B → Names → State
state_of meaning e n = state_in (by_meaning meaning e) n

-- the engine is open with the limits of the program, and its indexes fit its graph
pub record IsOpenForProgram (e : EngineSeen) : Type 0 where
  -- no two indexes are of one kind, and each fits the graph
  pub sound : IsSound e
  -- what is open: a graph, limits and a highest level
  pub opened : Opened
  -- the engine has it open
  pub opened_is : IsSeenOpenedAs e opened
  -- the limits are those of the program
  pub limits_are : opened.limits ≡ program_limits

-- the engine is open, and has the graph and the indexes of the state
pub record IsIn (e : EngineSeen) (s : State) : Type 0 where
  -- the engine is open
  pub is_open : IsSeenOpened e
  -- its graph is that of the state
  pub graph : seen_graph e ≡ s.graph
  -- so are its indexes
  pub kept : kept_in e ≡ s.kept

-- Runs of a script, if the shelf is observable, behind what was written, if the sink is observable.
use Rattle.std.specs.Prelude.{ℕ, List, ⊤, Option, None, Some}
use Rattle.std.specs.Io.KnownBytes.{Appends}
use Rattle.script_interpreter.specs.Rules.{Rules}
use Rattle.script_interpreter.specs.States.{State}
use Rattle.script_interpreter.specs.Runs.{Progress, IsRun, IsRunPrefix}

-- A run of the script was written, and `Last` holds of the last state of this same run.
pub record WritesRun (rules : Rules) (first : State) (script : List ℕ) (old new : Option (List ℕ)) (status : ℕ) (Last : State → Type 0) : Type 0 where
  -- what the run prints
  pub output : List ℕ
  -- how far it came
  pub last : Progress
  -- this, and nothing else, was written
  pub written : Appends old new output
  -- it is a run of the script with this output, this status and this end
  pub is_run : IsRun rules first script output status last
  -- `Last` holds of the state at its end
  pub ends_in : Last last.state

-- a run of the script was written, if the script is observable
abbrev pub RanObservable : Rules → State → Option (List ℕ) → Option (List ℕ) → Option (List ℕ) → ℕ → (State → Type 0) → Type 0
RanObservable rules first None old new status Last = ⊤
RanObservable rules first (Some script) old new status Last = WritesRun rules first script old new status Last

-- a prefix of a run of the script was written
abbrev pub PrefixObservable : Rules → State → Option (List ℕ) → Option (List ℕ) → Option (List ℕ) → Type 0
PrefixObservable rules first None old new = ⊤
PrefixObservable rules first (Some script) old new = (output : List ℕ) × Appends old new output × IsRunPrefix rules first script output

-- By which rules a script is run.
use Rattle.std.specs.Prelude.{ℕ, Bool, true, false, List, []}
use Rattle.graph_spec.specs.declared.limits.Limits.{Limits}
use Rattle.graph_spec.specs.ProgramLimits.{program_limits}
use Rattle.script_interpreter.specs.declared.printing.Printing.{Printing}
use Rattle.script_interpreter.specs.declared.printing.Printing.TheVariants.{Whole, Brief}

-- the limits that changes and expressions must keep, and how much is printed
pub record Rules : Type 0 where
  -- the limits that changes and expressions must keep
  pub limits : Limits
  -- how much is printed
  pub printing : Printing

-- with the limits of the program
abbrev pub rules_for : Printing → Rules
rules_for printing = record { limits = program_limits; printing = printing }

-- what is printed of a change that is made, or of an index that is forgotten: nothing in a brief run
abbrev pub if_whole : Printing → List ℕ → List ℕ
if_whole Whole text = text
if_whole Brief text = []

-- whether an answer prints its nodes
abbrev pub prints_nodes : Printing → Bool
prints_nodes Whole = true
prints_nodes Brief = false

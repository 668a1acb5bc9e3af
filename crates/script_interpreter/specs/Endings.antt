-- The exit status of a run that came to its end.
use Rattle.std.specs.Prelude.{ℕ}
use Rattle.script_interpreter.specs.declared.script.Ending.{Ending}
use Rattle.script_interpreter.specs.declared.script.Ending.TheVariants.{Done, Refused, Bad}

-- the exit status of an ending
abbrev pub status_at : Ending → ℕ
status_at Done = 0
status_at Refused = 1
status_at Bad = 4

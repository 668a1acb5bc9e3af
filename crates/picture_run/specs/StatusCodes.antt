-- The numbers of the exit statuses.
use Rattle.std.specs.Prelude.{ℕ}
use Rattle.picture_run.specs.declared.status.Status.{Status}
use Rattle.picture_run.specs.declared.status.Status.TheVariants.{Done, Usage, FileLine, NoFile, NoOutput, NoMemory}

-- the number of the status
abbrev pub code_of : Status → ℕ
code_of Done = 0
code_of Usage = 2
code_of FileLine = 3
code_of NoFile = 5
code_of NoOutput = 6
code_of NoMemory = 7

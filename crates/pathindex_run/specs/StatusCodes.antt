-- The numbers of the exit statuses.
use Rattle.std.specs.Prelude.{ℕ}
use Rattle.pathindex_run.specs.declared.status.Status.{Status}
use Rattle.pathindex_run.specs.declared.status.Status.TheVariants.{Done, Refused, Usage, FileLine, BadLine, NoFile, NoOutput, NoMemory, Differs}

-- the number of the status
abbrev pub code_of : Status → ℕ
code_of Done = 0
code_of Refused = 1
code_of Usage = 2
code_of FileLine = 3
code_of BadLine = 4
code_of NoFile = 5
code_of NoOutput = 6
code_of NoMemory = 7
code_of Differs = 8

-- What an index file holds, and which of its lines is refused.
use Rattle.std.specs.Prelude.{ℕ, ◌≡◌, ◌≤◌, ◌+◌, ◌⊎◌, List, [], ◌∷◌, length, None, Some, IsTrue, IsFalse}
use Rattle.px_base.specs.declared.lines.TheConstants.{LINE_BYTES, GRAPH_BYTES}
use Rattle.graph_spec.specs.declared.limits.Limits.{Limits}
use Rattle.graph_spec.specs.Lines.{Line, cut}
use Rattle.index_file.specs.SavedFiles.{SavedFile}
use Rattle.index_file.specs.Statements.{Statement, Says}
use Rattle.index_file.specs.Readings.{Reading, nothing_read, next_reading, exceeds, is_complete, file_of}

-- the lines are taken, one after another
abbrev pub TakesAll : List Line → Reading → Reading → Type 0
TakesAll [] r last = r ≡ last
TakesAll (l ∷ ls) r last = (s : Statement) × (mid : Reading) × Says l.text s × (next_reading s r ≡ Some mid) × TakesAll ls mid last

-- the text is an index file that holds this
pub record Spelled (text : List ℕ) (file : SavedFile) : Type 0 where
  -- what is read in the end
  pub last : Reading
  -- each line is taken in turn
  pub takes : TakesAll (cut text) nothing_read last
  -- nothing more is due
  pub complete : IsTrue (is_complete last)
  -- the file is what was read
  pub holds : file ≡ file_of last

-- what a text comes to as an index file
pub data ReadOutcome : Type 0 where
  -- the file holds this
  holds : SavedFile → ReadOutcome
  -- the line of that number can't stand there, or is missing
  bad_syntax : ℕ → ReadOutcome
  -- the line of that number passes a limit
  past_limit : ℕ → ReadOutcome

-- how far a file is read
pub record ReadPlace : Type 0 where
  -- what was read
  pub reading : Reading
  -- the lines that were taken, and their bytes with their ends
  pub lines : ℕ
  pub bytes : ℕ

-- before the first line
abbrev pub read_start : ReadPlace
read_start = record { reading = nothing_read; lines = 0; bytes = 0 }

-- past the line, with this read
abbrev pub read_past : ReadPlace → Line → Reading → ReadPlace
read_past p l reading = record { reading = reading; lines = p.lines + 1; bytes = p.bytes + length l.text + length l.end }

-- the line isn't too long, nor is the file up to its end
abbrev pub IsWithinIndexFile : ReadPlace → Line → Type 0
IsWithinIndexFile p l = (length l.text ≤ LINE_BYTES) × (p.bytes + length l.text + length l.end ≤ GRAPH_BYTES)

-- the line is taken, and leaves this
pub record IsTaken (limits : Limits) (line : List ℕ) (old new : Reading) : Type 0 where
  -- what the line says
  pub statement : Statement
  -- the line says this
  pub says : Says line statement
  -- it passes no limit
  pub within : IsFalse (exceeds limits statement old)
  -- it may stand here, and leads to this
  pub next : next_reading statement old ≡ Some new

-- the line passes a limit
pub record ExceedsAt (limits : Limits) (line : List ℕ) (old : Reading) : Type 0 where
  -- what the line says
  pub statement : Statement
  -- the line spells it
  pub says : Says line statement
  -- it asks for more than a limit allows
  pub over : IsTrue (exceeds limits statement old)

-- whatever the line says, it passes no limit, and can't stand here
abbrev pub IsWrong : Limits → List ℕ → Reading → Type 0
IsWrong limits line old = (s : Statement) → Says line s → IsFalse (exceeds limits s old) × (next_reading s old ≡ None)

-- What becomes of a line that is within the limits on lines. What follows is said of the place behind it.
pub data ReadsLine (limits : Limits) (p : ReadPlace) (l : Line) (rest : ReadPlace → ReadOutcome → Type 0) : ReadOutcome → Type 0 where
  takes : (r : Reading) → IsTaken limits l.text p.reading r → (o : ReadOutcome) → rest (read_past p l r) o → ReadsLine limits p l rest o
  over : ExceedsAt limits l.text p.reading → ReadsLine limits p l rest (past_limit (p.lines + 1))
  wrong : IsWrong limits l.text p.reading → ReadsLine limits p l rest (bad_syntax (p.lines + 1))

-- the file may end here, or ends too early
pub data EndsFile (p : ReadPlace) : ReadOutcome → Type 0 where
  complete : IsTrue (is_complete p.reading) → EndsFile p (holds (file_of p.reading))
  early : IsFalse (is_complete p.reading) → EndsFile p (bad_syntax (p.lines + 1))

-- The lines from the place on give this. The first line that is refused decides.
abbrev pub ReadsFrom : Limits → List Line → ReadPlace → ReadOutcome → Type 0
ReadsFrom limits [] p o = EndsFile p o
ReadsFrom limits (l ∷ ls) p o =
    ((¬ IsWithinIndexFile p l) × (o ≡ past_limit (p.lines + 1)))
    ⊎ (IsWithinIndexFile p l × ReadsLine limits p l (ReadsFrom limits ls) o)

-- the text gives this
abbrev pub Reads : Limits → List ℕ → ReadOutcome → Type 0
Reads limits text o = ReadsFrom limits (cut text) read_start o

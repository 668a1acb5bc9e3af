-- What one step of a run does.
use Rattle.std.specs.Prelude.{◌≡◌, ℕ, ◌+◌, ◌++◌, Bool, false, List, ◌∷◌, IsTrue, ⊤, Option, None, Some}
use Rattle.std.specs.Io.KnownBytes.{Appends}
use Rattle.px_base.specs.declared.lines.TheConstants.{LINE_BYTES, SCRIPT_BYTES}
use Rattle.px_base.specs.ReaderStates.{ReaderState, IsFirst, IsOver}
use Rattle.graph_spec.specs.Lines.{Line, cut}
use Rattle.graph_spec.specs.ProgramLimits.{program_limits}
use Rattle.script_interpreter.specs.Rules.{Rules, rules_for}
use Rattle.script_interpreter.specs.Outputs.{Gathered, with_printed}
use Rattle.script_interpreter.specs.LineTexts.{bad_line}
use Rattle.index_api.specs.declared.kinds.Via.{Via}
use Rattle.branch_query.specs.Queries as query
use Rattle.branch_query.specs.Queries.{Query}
use Rattle.script_read.specs.Commands.{Command, begin, end, save, path, branch, IsSpelled, PassesLimit}
use Rattle.change_spec.specs.Steps.{Step}
use Rattle.script_interpreter.specs.declared.group.Scope.{Scope}
use Rattle.script_interpreter.specs.declared.interpreter.Outcome.{Outcome}
use Rattle.script_interpreter.specs.declared.interpreter.Outcome.TheVariants.{Done, Bad, Due}
use Rattle.script_interpreter.specs.declared.script.Next.{Next}
use Rattle.script_interpreter.specs.declared.script.Next.TheVariants.{Taken, Saves, AtBad, AtEnd}
use Rattle.script_interpreter.specs.States.{State}
use Rattle.script_interpreter.specs.Indexes.{ShowsFile}
use Rattle.script_interpreter.specs.Runs.{Progress, Group, Makes, Obeys, TakesLine, RunsLine, IsBad, IsBadIn, end_text, end_status}

-- the new text begins with the old one
pub record Extends (old new : List ℕ) : Type 0 where
  -- what was added
  pub rest : List ℕ
  -- it stands after the old text
  pub new_is : new ≡ old ++ rest

-- the command that asks a query through this
abbrev pub query_command : Via → Query → Command
query_command via (query.of_path e) = path via e
query_command via (query.of_branch q) = branch via q

-- the command is neither the first nor the last line of a group, nor does it write a file
abbrev pub IsAlone : Command → Type 0
IsAlone begin = ⊥
IsAlone end = ⊥
IsAlone save = ⊥
IsAlone c = ⊤

-- a change was made, or refused, and what it prints is gathered
pub record Changed (scope : Scope) (s : State) (c : List Step) (old : Gathered) (refuses : Bool) (t : State) (new : Gathered) : Type 0 where
  -- what the change prints
  pub printed : List ℕ
  -- the change was made or refused, and prints this
  pub makes : Makes (rules_for old.printing) scope s c printed refuses t
  -- it is added to what was gathered
  pub gathered_is : new ≡ with_printed old printed refuses

-- a command was carried out, and what it prints is gathered
pub record Obeyed (s : State) (c : Command) (old : Gathered) (t : State) (new : Gathered) : Type 0 where
  -- what the command prints, and whether that is a refusal
  pub printed : List ℕ
  pub refuses : Bool
  -- the command does so in this state
  pub obeys : Obeys (rules_for old.printing) s c printed refuses t
  -- what it prints is added to what was gathered
  pub gathered_is : new ≡ with_printed old printed refuses

-- a line was taken, and what it prints is gathered
pub record IsTaken (s : State) (number : ℕ) (line : List ℕ) (group : Option Group) (old : Gathered)
    (t : State) (left : Option Group) (new : Gathered) : Type 0 where
  -- what the line prints, and whether that is a refusal
  pub printed : List ℕ
  pub refuses : Bool
  -- the line does so where it stands
  pub takes : TakesLine (rules_for old.printing) s number line group printed refuses t left
  -- what it prints is added to what was gathered
  pub gathered_is : new ≡ with_printed old printed refuses

-- nothing was gathered, and the state is as it was, since the line is bad
pub record IsLeft (s : State) (line : List ℕ) (group : Option Group) (old : Gathered) (t : State) (new : Gathered) : Type 0 where
  -- the line may not stand there
  pub bad : IsBadIn program_limits group line
  -- the state is as it was
  pub state : t ≡ s
  -- so is what was gathered
  pub gathered_is : new ≡ old

-- The line is `save` and stands in no group. Nothing was gathered, and the state is as it was: the file is to be written.
pub record IsDue (s : State) (line : List ℕ) (group : Option Group) (old : Gathered) (t : State) (left : Option Group) (new : Gathered) : Type 0 where
  -- the line is `save`
  pub spelled : IsSpelled line save
  -- it asks with no expression that passes a limit
  pub free : ¬ PassesLimit program_limits line
  -- no group is open, before or after
  pub outside : group ≡ None
  pub left_is : left ≡ None
  -- the state is as it was
  pub state : t ≡ s
  -- so is what was gathered
  pub gathered_is : new ≡ old

-- what a line comes to
abbrev pub LineComes : State → ℕ → List ℕ → Option Group → Gathered → Outcome → State → Option Group → Gathered → Type 0
LineComes s number line group old Done t left new = IsTaken s number line group old t left new
LineComes s number line group old Bad t left new = IsLeft s line group old t new
LineComes s number line group old Due t left new = IsDue s line group old t left new

-- how far the run has come, by its state, the group that isn't ended, whether some line printed `refused`, and its reader
abbrev pub progress : State → Option Group → Bool → ReaderState → Progress
progress s group refused r = record { state = s; group = group; refused = refused; lines = r.number; bytes = r.taken }

-- the first line of an observable text is bad
abbrev pub FirstIsBad : Rules → Progress → Option (List ℕ) → Type 0
FirstIsBad rules p None = ⊤
FirstIsBad rules p (Some text) = (l : Line) × (ls : List Line) × (cut text ≡ l ∷ ls) × IsBad rules p l

-- the line leads there with each text that is a file of the state
abbrev pub SavesLine : Rules → Progress → Line → Progress → Type 0
SavesLine rules p l q = (text : List ℕ) → ShowsFile p.state text → RunsLine rules p l text q

-- The run takes a line and gathers what it prints; or it takes a `save`, and the file is to be written; or it ends: at a bad line, or at
-- the end of the script. If it ends its state is as it was.
abbrev pub Goes : Rules → Progress → Option (List ℕ) → List ℕ → Next → Progress → Option (List ℕ) → List ℕ → Type 0
Goes rules p before out Taken q after gathered = (l : Line) × (printed : List ℕ)
    × IsFirst l before after × RunsLine rules p l printed q × (gathered ≡ out ++ printed)
Goes rules p before out Saves q after gathered = (l : Line) × IsFirst l before after × SavesLine rules p l q × (q.state ≡ p.state) × (gathered ≡ out)
Goes rules p before out AtBad q after gathered = FirstIsBad rules p before × (q.state ≡ p.state) × (gathered ≡ out ++ bad_line (p.lines + 1))
Goes rules p before out AtEnd q after gathered = IsOver before × (q.state ≡ p.state) × (end_status q ≡ end_status p) × (gathered ≡ out ++ end_text p)

-- a fact for a step after which the run goes on
abbrev pub OnTaken : Next → Type 0 → Type 0
OnTaken Taken P = P
OnTaken Saves P = P
OnTaken AtBad P = ⊤
OnTaken AtEnd P = ⊤

-- the reader can read on
pub record CanRead (r : ReaderState) (is_open : Bool) : Type 0 where
  -- no read has failed
  pub ready : r.failed ≡ false
  -- the limits are those on a line and on a script
  pub line_limit : r.line_limit ≡ LINE_BYTES
  pub text_limit : r.text_limit ≡ SCRIPT_BYTES
  -- a file is open
  pub open_file : IsTrue is_open

-- a prefix of what was gathered is written, and the rest is left
abbrev pub Writes : Option (List ℕ) → Option (List ℕ) → List ℕ → List ℕ → Type 0
Writes old new out left = (prefix : List ℕ) × Appends old new prefix × (out ≡ prefix ++ left)

-- A run of a script: what it prints, its status, and its last state.
use Rattle.std.specs.Prelude.{ℕ, ◌+◌, ◌≡◌, ◌≤◌, ◌⊎◌, Bool, true, false, ◌||◌, List, [], ◌∷◌, ◌++◌, length, if◌then◌else◌, Option, None, Some, is_some, Result, Ok, Err, is_err, IsTrue}
use Rattle.px_base.specs.declared.lines.TheConstants.{LINE_BYTES, SCRIPT_BYTES}
use Rattle.script_interpreter.specs.Rules.{Rules, if_whole}
use Rattle.graph_spec.specs.declared.refusal.Refusal.{Refusal}
use Rattle.graph_spec.specs.declared.refusal.Refusal.TheVariants.{NoNode, Limit, NoIndex}
use Rattle.graph_spec.specs.Lines.{Line, cut}
use Rattle.graph_spec.specs.Graphs.{Graph}
use Rattle.graph_spec.specs.declared.limits.Limits.{Limits}
use Rattle.change_spec.specs.Steps.{Step, apply, is_new}
use Rattle.change_spec.specs.NextOne.{OneStep}
use Rattle.index_api.specs.declared.kinds.Via.{Via}
use Rattle.bisim_spec.specs.declared.kind.Kind.{Kind}
use Rattle.bisim_spec.specs.declared.kind.Kind.TheVariants.{One}
use Rattle.path_spec.specs.Trees.{Expr}
use Rattle.branch_spec.specs.Trees.{Branch}
use Rattle.branch_query.specs.Queries as query
use Rattle.triples_read.specs.declared.term.Triple.{Triple}
use Rattle.triple_names.specs.Names.{AreSameNames}
use Rattle.triple_names.specs.TripleChanges.{insert_steps, placed_in, noted, delete_change}
use Rattle.script_interpreter.specs.declared.group.Scope.{Scope}
use Rattle.script_interpreter.specs.declared.group.Scope.TheVariants.{OneLine as OfLine, LineGroup as OfGroup}
use Rattle.script_interpreter.specs.LineTexts.{reply, refused_line, ok_line, bad_line}
use Rattle.script_interpreter.specs.States.{State, keeps, forgotten}
use Rattle.script_interpreter.specs.Indexes.{ShowsAnswers, ShowsExtents, ShowsSizes, ShowsFile}
use Rattle.script_interpreter.specs.Walks.{ShowsWhy, ShowsCheck}
use Rattle.script_read.specs.Commands.{Command, change, begin, end, insert, delete, path, branch, why, check, extents, sizes, save, forget, IsQuiet, IsSpelled, PassesLimit, SpellsNothing}

-- An accepted change leads from the state s to t, whose graph is h. The same indexes are kept, and no number of a term or a triple
-- changes. A change whose steps are all idle leaves the whole state. Each other one moves the blocks of the 1-index, if it is kept, by one step.
pub record IsChanged (s : State) (c : List Step) (h : Graph) (t : State) : Type 0 where
  -- the new graph is h
  pub graph : t.graph ≡ h
  -- terms and triples keep their numbers
  pub names : t.names ≡ s.names
  -- the same kinds of indexes are kept
  pub kinds : t.kept.kinds ≡ s.kept.kinds
  -- with the same highest level
  pub level : t.kept.k ≡ s.kept.k
  -- where all steps are idle, the whole state stays
  pub same : is_new c s.graph ≡ false → t ≡ s
  -- where some step isn't, the 1-index, if it is kept, moves by one step
  pub step : is_new c s.graph ≡ true → IsTrue (keeps s One) → OneStep s.graph s.kept.one c h t.kept.one
  -- if it isn't kept, what the state has as its blocks stays
  pub none : keeps s One ≡ false → t.kept.one ≡ s.kept.one

-- what a change makes of the state, by its outcome: a refusal leaves it
abbrev pub Becomes : State → List Step → Result Graph Refusal → State → Type 0
Becomes s c (Ok h) t = IsChanged s c h t
Becomes s c (Err r) t = t ≡ s

-- A change, which is a line of its own or a group, may print this, which is a refusal or not, and lead to that state.
pub record Makes (rules : Rules) (scope : Scope) (s : State) (c : List Step) (printed : List ℕ) (refuses : Bool) (t : State) : Type 0 where
  -- the state is the one after the change; a refused change leaves it as it was
  pub becomes : Becomes s c (apply c s.graph rules.limits) t
  -- the reply to the change is printed
  pub printed_is : printed ≡ reply rules.printing scope c s.graph (apply c s.graph rules.limits)
  -- it is a refusal exactly where the change is refused
  pub refuses_is : refuses ≡ is_err (apply c s.graph rules.limits)

-- An insert of a triple may do so too. Its steps are made as those of a group are. If they are accepted, the parts of the triple have
-- the numbers of their nodes from then on; no other number changes.
pub record Inserts (rules : Rules) (s : State) (x : Triple) (printed : List ℕ) (refuses : Bool) (t : State) : Type 0 where
  -- the steps that the triple lacks are made as one change, and printed as those of a group are
  pub makes : Makes rules OfGroup s (insert_steps s.names s.graph x) printed refuses (record t { names = s.names })
  -- a refusal leaves all numbers; else the parts of the triple have the numbers of their nodes, and the other numbers stay
  pub names : AreSameNames t.names (if refuses then s.names else noted x (placed_in s.names s.graph x) s.names)

-- A command in a state may print this, which is a refusal or not, and lead to that state.
pub data Obeys (rules : Rules) (s : State) : Command → List ℕ → Bool → State → Type 0 where
  changes : (x : Step) (printed : List ℕ) (refuses : Bool) (t : State) → Makes rules OfLine s (x ∷ []) printed refuses t
      → Obeys rules s (change x) printed refuses t
  inserts : (x : Triple) (printed : List ℕ) (refuses : Bool) (t : State) → Inserts rules s x printed refuses t
      → Obeys rules s (insert x) printed refuses t
  deletes : (x : Triple) (c : List Step) (printed : List ℕ) (refuses : Bool) (t : State) → delete_change s.names s.graph x ≡ Some c
      → Makes rules OfGroup s c printed refuses t → Obeys rules s (delete x) printed refuses t
  misses : (x : Triple) → delete_change s.names s.graph x ≡ None → Obeys rules s (delete x) (refused_line NoNode) true s
  asks_path : (via : Via) (e : Expr) (text : List ℕ) (refuses : Bool) → ShowsAnswers rules.printing s (query.of_path e) via text refuses
      → Obeys rules s (path via e) text refuses s
  asks_branch : (via : Via) (q : Branch) (text : List ℕ) (refuses : Bool) → ShowsAnswers rules.printing s (query.of_branch q) via text refuses
      → Obeys rules s (branch via q) text refuses s
  explains : (v : ℕ) (e : Expr) (text : List ℕ) (refuses : Bool) → ShowsWhy s v e text refuses → Obeys rules s (why v e) text refuses s
  checks : (nodes : List ℕ) (e : Expr) (text : List ℕ) → ShowsCheck s nodes e text → Obeys rules s (check nodes e) text false s
  lists : (via : Via) (text : List ℕ) (refuses : Bool) → ShowsExtents s via text refuses → Obeys rules s (extents via) text refuses s
  measures : (text : List ℕ) → ShowsSizes s text → Obeys rules s sizes text false s
  saves : (text : List ℕ) → ShowsFile s text → Obeys rules s save text false s
  forgets : (kind : Kind) → keeps s kind ≡ true → Obeys rules s (forget kind) (if_whole rules.printing ok_line) false (forgotten kind s)
  lacks : (kind : Kind) → keeps s kind ≡ false → Obeys rules s (forget kind) (refused_line NoIndex) true s

-- A line in a state may do so too. One that asks with an expression that passes a limit is refused, whatever else it is.
pub data Does (rules : Rules) (s : State) (line : List ℕ) : List ℕ → Bool → State → Type 0 where
  nothing : IsQuiet line → Does rules s line [] false s
  over : PassesLimit rules.limits line → Does rules s line (refused_line Limit) true s
  command : (c : Command) → IsSpelled line c → ¬ PassesLimit rules.limits line → (printed : List ℕ) (refuses : Bool) (t : State)
      → Obeys rules s c printed refuses t → Does rules s line printed refuses t

-- a group that isn't ended
pub record Group : Type 0 where
  -- its steps so far
  pub steps : List Step
  -- the number of the line with its `begin`
  pub line : ℕ

-- the group with one more step
abbrev pub with_step : Group → Step → Group
with_step g x = record g { steps = g.steps ++ x ∷ [] }

-- The line of that number, outside a group or in one, may print this, which is a refusal or not, and lead to that state and that
-- group. The steps of a group are made at its end, as one change.
pub data TakesLine (rules : Rules) (s : State) (number : ℕ) (line : List ℕ) : Option Group → List ℕ → Bool → State → Option Group → Type 0 where
  outside : (printed : List ℕ) (refuses : Bool) (t : State) → Does rules s line printed refuses t → TakesLine rules s number line None printed refuses t None
  begins : IsSpelled line begin → TakesLine rules s number line None [] false s (Some (record { steps = []; line = number }))
  silent : (g : Group) → IsQuiet line → TakesLine rules s number line (Some g) [] false s (Some g)
  adds : (g : Group) (x : Step) → IsSpelled line (change x) → TakesLine rules s number line (Some g) [] false s (Some (with_step g x))
  ends : (g : Group) (printed : List ℕ) (refuses : Bool) (t : State) → IsSpelled line end → Makes rules OfGroup s g.steps printed refuses t
      → TakesLine rules s number line (Some g) printed refuses t None

-- how far a run has come
pub record Progress : Type 0 where
  -- the state after the lines so far
  pub state : State
  -- the group that isn't ended, if the lines so far end in one
  pub group : Option Group
  -- whether some line printed `refused`
  pub refused : Bool
  -- the lines that were taken, and their bytes with their ends
  pub lines : ℕ
  pub bytes : ℕ

-- before the first line
abbrev pub start : State → Progress
start s = record { state = s; group = None; refused = false; lines = 0; bytes = 0 }

-- the bytes of the script up to the end of the line
abbrev pub bytes_with : Progress → Line → ℕ
bytes_with p l = p.bytes + length l.text + length l.end

-- the line passes neither the limit on a line nor the limit on a script
abbrev pub IsWithinScript : Progress → Line → Type 0
IsWithinScript p l = (length l.text ≤ LINE_BYTES) × (bytes_with p l ≤ SCRIPT_BYTES)

-- From here the line may print this and lead there.
pub record RunsLine (rules : Rules) (p : Progress) (l : Line) (printed : List ℕ) (q : Progress) : Type 0 where
  -- the line and the script up to its end are within their limits
  pub within : IsWithinScript p l
  -- whether it prints a refusal
  pub refuses : Bool
  -- it is taken where it stands, outside a group or in one
  pub takes : TakesLine rules p.state (p.lines + 1) l.text p.group printed refuses q.state q.group
  -- some line so far printed a refusal exactly if one did before or this one does
  pub refused : q.refused ≡ (p.refused || refuses)
  -- one more line was taken, with its bytes
  pub lines : q.lines ≡ p.lines + 1
  pub bytes : q.bytes ≡ bytes_with p l

-- the line may stand in a group: it is quiet, a step, or the end
abbrev pub StandsInGroup : List ℕ → Type 0
StandsInGroup line = IsQuiet line ⊎ (((x : Step) × IsSpelled line (change x)) ⊎ IsSpelled line end)

-- Outside a group the line spells nothing, or the end of one; in a group it may not stand.
abbrev pub IsBadIn : Limits → Option Group → List ℕ → Type 0
IsBadIn limits None line = SpellsNothing limits line ⊎ IsSpelled line end
IsBadIn limits (Some g) line = ¬ StandsInGroup line

-- The line ends the run: it passes a limit, or it is within them and bad where it stands.
abbrev pub IsBad : Rules → Progress → Line → Type 0
IsBad rules p l = IsWithinScript p l → IsBadIn rules.limits p.group l.text

-- so may these lines, one after another
abbrev pub RunsLines : Rules → Progress → List Line → List ℕ → Progress → Type 0
RunsLines rules p [] printed q = (printed ≡ []) × (q ≡ p)
RunsLines rules p (l ∷ ls) printed q = (text : List ℕ) × (rest : List ℕ) × (mid : Progress)
    × RunsLine rules p l text mid × RunsLines rules mid ls rest q × (printed ≡ text ++ rest)

-- what the end of the script prints: nothing, unless a group isn't ended, whose first line is then bad
abbrev pub text_at_end : Option Group → List ℕ
text_at_end None = []
text_at_end (Some g) = bad_line g.line

-- what the end of the script prints after these lines
abbrev pub end_text : Progress → List ℕ
end_text p = text_at_end p.group

-- the status there
abbrev pub end_status : Progress → ℕ
end_status p = if is_some p.group then 4 else (if p.refused then 1 else 0)

-- The run ends here, and that prints this and gives the status: at the end of the script, or at a bad line.
abbrev pub EndsRun : Rules → Progress → List Line → List ℕ → ℕ → Type 0
EndsRun rules p [] printed status = (printed ≡ end_text p) × (status ≡ end_status p)
EndsRun rules p (l ∷ ls) printed status = IsBad rules p l × (printed ≡ bad_line (p.lines + 1)) × (status ≡ 4)

-- From the first state the script is run to its end or to a bad line.
pub record IsRun (rules : Rules) (first : State) (script output : List ℕ) (status : ℕ) (last : Progress) : Type 0 where
  -- the lines that are taken, and the others
  pub before : List Line
  pub left : List Line
  -- what the lines print that are taken, and what is printed where the run ends
  pub printed : List ℕ
  pub ending : List ℕ
  -- the lines of the script are those that are taken, and then the others
  pub script_is : cut script ≡ before ++ left
  -- the first ones are taken in order, from the first state on
  pub takes : RunsLines rules (start first) before printed last
  -- there the run ends: no line is left, or the next one is bad
  pub ends : EndsRun rules last left ending status
  -- the output is what the lines print, and then what the end prints
  pub output_is : output ≡ printed ++ ending

-- the next line is taken, and prints this
abbrev pub RunsNext : Rules → Progress → List Line → List ℕ → Type 0
RunsNext rules p [] text = ⊥
RunsNext rules p (l ∷ ls) text = (q : Progress) × RunsLine rules p l text q

-- what comes next prints this: a line that is taken, or the end of the run
abbrev pub PrintsNext : Rules → Progress → List Line → List ℕ → Type 0
PrintsNext rules p left text = RunsNext rules p left text ⊎ ((status : ℕ) × EndsRun rules p left text status)

-- nothing, or a prefix of what comes next prints
abbrev pub PrintsPrefix : Rules → Progress → List Line → List ℕ → Type 0
PrintsPrefix rules p left prefix = (prefix ≡ []) ⊎ ((rest : List ℕ) × PrintsNext rules p left (prefix ++ rest))

-- A prefix of what the lines print: all that some first lines print, and a prefix of what comes next prints.
pub record RunsPrefix (rules : Rules) (p : Progress) (lines : List Line) (output : List ℕ) : Type 0 where
  -- the lines that are taken, and the others
  pub before : List Line
  pub left : List Line
  -- all that the former print, and a prefix of what comes after them prints
  pub printed : List ℕ
  pub prefix : List ℕ
  -- how far the run has come after the lines that are taken
  pub last : Progress
  -- the lines are those that are taken, and then the others
  pub lines_are : lines ≡ before ++ left
  -- the first ones are taken in order
  pub takes : RunsLines rules p before printed last
  -- the prefix is nothing, or begins what the next line or the end of the run prints
  pub next : PrintsPrefix rules last left prefix
  -- the output is what the lines print, and then this prefix
  pub output_is : output ≡ printed ++ prefix

-- a prefix of what a run of the script prints
abbrev pub IsRunPrefix : Rules → State → List ℕ → List ℕ → Type 0
IsRunPrefix rules first script output = RunsPrefix rules (start first) (cut script) output

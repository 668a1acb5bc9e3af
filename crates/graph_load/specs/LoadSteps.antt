-- What the steps of a load do, and what their answers say.
use Rattle.std.specs.Prelude.{◌≡◌, ◌≢◌, ℕ, ◌<◌, ◌≤◌, ⊤, Bool, false, IsTrue, List, [], ◌∷◌, ◌++◌, ◌⊎◌, Option, None, Some, Result, Ok, Err, IfOk, IfErr, IsErrOf}
use Rattle.px_base.specs.Causes.{MayHaveRisen}
use Rattle.px_base.specs.declared.lines.TheConstants.{LINE_BYTES, GRAPH_BYTES}
use Rattle.px_base.specs.Files.{File, content_of}
use Rattle.px_base.specs.ReaderStates.{ReaderState, stream}
use Rattle.graph_spec.specs.Lines.{cut}
use Rattle.graph_spec.specs.declared.limits.Limits.{Limits}
use Rattle.graph_spec.specs.Graphs.{Graph}
use Rattle.triple_names.specs.Names.{Names}
use Rattle.graph_spec.specs.declared.refusal.Refusal.{Refusal}
use Rattle.triples_read.specs.Lines.{SpellsTriple, Empty}
use Rattle.triples_read.specs.declared.term.Triple.{Triple}
use Rattle.graph_load.specs.declared.files.LoadError.{LoadError}
use Rattle.graph_load.specs.declared.files.LoadError.TheVariants as error
use Rattle.graph_load.specs.declared.batch.Next.{Next}
use Rattle.graph_load.specs.declared.batch.Next.TheVariants.{Lines, End, Syntax, Limit}
use Rattle.graph_load.specs.declared.batch.Waiting.{Waiting}
use Rattle.graph_load.specs.declared.loader.Loader.{Loader}
use Rattle.graph_load.specs.TripleGraphs.{LoadState, with_triple}
use Rattle.graph_load.specs.Hashed.{triple_of, hashed}
use Rattle.graph_load.specs.Loads.{OutcomeOf, Outcome, Ending, loaded, syntax, limit, Place, LoadsFrom, Loads, LoadsNamed, RepresentsText, StaysAsLoaded, at_start}
use Rattle.graph_load.specs.Loaders.{load_state, Holds, IsSoundLoader, IsUntaken}

-- The name is that of an observable file whose text loads to this; of opaque files it says nothing.
abbrev pub LoadsObservable : Limits → Option (List File) → List ℕ → Outcome → Type 0
LoadsObservable limits None name o = ⊤
LoadsObservable limits (Some files) name o = (text : List ℕ) × (content_of files name ≡ Some text) × Loads limits text o

-- The name is that of an observable file whose text loads to this graph, with these numbers.
abbrev pub NamesObservable : Limits → Option (List File) → List ℕ → Graph → Names → Type 0
NamesObservable limits None name g n = ⊤
NamesObservable limits (Some files) name g n = (text : List ℕ) × (content_of files name ≡ Some text) × LoadsNamed limits text g n

-- The name is that of an observable file, and the graph with the names represents the triples of its text.
abbrev pub RepresentsFile : Option (List File) → List ℕ → Graph → Names → Type 0
RepresentsFile None name g n = ⊤
RepresentsFile (Some files) name g n = (text : List ℕ) × (content_of files name ≡ Some text) × RepresentsText text g n

-- The name is that of an observable file, and accepted inserts and deletes leave a graph that is, up to the numbers of nodes, the
-- loaded graph of the triples that are present then.
abbrev pub StaysAsFile : Option (List File) → List ℕ → Graph → Names → Type 0
StaysAsFile None name g n = ⊤
StaysAsFile (Some files) name g n = (text : List ℕ) × (content_of files name ≡ Some text) × StaysAsLoaded text g n

-- observable files lack the name
abbrev pub LacksFile : Option (List File) → List ℕ → Type 0
LacksFile None name = ⊤
LacksFile (Some files) name = content_of files name ≡ None

-- the outcome that an error tells; memory that ran out and a call that failed tell none
abbrev pub TellsOutcome : {X : Type 0} → (OutcomeOf X → Type 0) → LoadError → Type 0
TellsOutcome P (error.Syntax l) = P (syntax l)
TellsOutcome P (error.Limit l) = P (limit l)
TellsOutcome P error.Missing = ⊤
TellsOutcome P error.Fault = ⊤
TellsOutcome P error.Memory = ⊤

-- what lies ahead loads to this, where it is observable
abbrev pub LoadsAhead : Limits → Option (List ℕ) → Place → Ending → Type 0
LoadsAhead limits None p o = ⊤
LoadsAhead limits (Some text) p o = LoadsFrom limits (cut text) p o

-- how far a load has come, where this is loaded
abbrev pub place : ReaderState → LoadState → Place
place r l = record { state = l; lines = r.number; bytes = r.taken }

-- what the reader and the shelf have left loads to this outcome from the loader on, where no triple waits
abbrev pub LoadsRest : Limits → ReaderState → Option (List ℕ) → Loader → (Ending → Type 0)
LoadsRest limits r left loader = LoadsAhead limits (stream r left) (place r (load_state loader []))

-- the same, to what the loader has in the end
abbrev pub LoadsTables : Limits → ReaderState → Option (List ℕ) → Loader → Loader → Type 0
LoadsTables limits r left old new = (triples : List (Triple × ℕ)) × Holds new triples × LoadsRest limits r left old (loaded (load_state new triples))

-- what the open file has loads to what the loader has
abbrev pub LoadsWhole : Limits → Option (List ℕ) → Loader → Type 0
LoadsWhole limits left new = (triples : List (Triple × ℕ)) × Holds new triples × LoadsAhead limits left at_start (loaded (load_state new triples))

-- the load of the observable file of that name ends so
abbrev pub FileEnds : Limits → Option (List File) → List ℕ → Ending → Type 0
FileEnds limits None name e = ⊤
FileEnds limits (Some files) name e = (text : List ℕ) × (content_of files name ≡ Some text) × LoadsFrom limits (cut text) at_start e

-- what the file of that name has loads to what the loader has
abbrev pub LoadsWholeFile : Limits → Option (List File) → List ℕ → Loader → Type 0
LoadsWholeFile limits files name new = (triples : List (Triple × ℕ)) × Holds new triples × FileEnds limits files name (loaded (load_state new triples))

-- the reader has the limits of a graph file, and can read on
pub record CanRead (r : ReaderState) (is_open : Bool) : Type 0 where
  -- no read has failed
  pub ready : r.failed ≡ false
  -- the limits are those on a line and on a graph file
  pub line_limit : r.line_limit ≡ LINE_BYTES
  pub text_limit : r.text_limit ≡ GRAPH_BYTES
  -- a file is open
  pub opened : IsTrue is_open

-- a fact of the reader where there may be more lines
abbrev pub OnLines : Next → Type 0 → Type 0
OnLines Lines P = P
OnLines End P = ⊤
OnLines (Syntax n) P = ⊤
OnLines (Limit n) P = ⊤

-- ---- triples that wait

-- what is loaded then, or the number of the line that passes a limit
abbrev pub at_line : ℕ → Result LoadState Refusal → Result LoadState ℕ
at_line n (Ok l) = Ok l
at_line n (Err r) = Err n

-- what is loaded next, unless the number of a line was answered
abbrev pub then_load : Result LoadState ℕ → (LoadState → Result LoadState ℕ) → Result LoadState ℕ
then_load (Ok l) f = f l
then_load (Err n) f = Err n

-- the waiting triple is loaded, or the number of its line is answered
abbrev pub with_one : Limits → Waiting → LoadState → Result LoadState ℕ
with_one limits w l = at_line w.line (with_triple limits (triple_of w.triple) l)

-- one after the other; the first that is refused decides
abbrev pub with_all : Limits → List Waiting → LoadState → Result LoadState ℕ
with_all limits [] l = Ok l
with_all limits (w ∷ ws) l = then_load (with_one limits w l) (with_all limits ws)

-- what is loaded gives this outcome, by what follows the lines that were read
abbrev pub LoadsBehind : Limits → Next → ReaderState → Option (List ℕ) → LoadState → Ending → Type 0
LoadsBehind limits Lines r text l o = LoadsAhead limits text (place r l) o
LoadsBehind limits End r text l o = o ≡ loaded l
LoadsBehind limits (Syntax n) r text l o = o ≡ syntax n
LoadsBehind limits (Limit n) r text l o = o ≡ limit n

-- the same, where one of the triples that waited may be refused
abbrev pub LoadsThen : Limits → Next → ReaderState → Option (List ℕ) → Result LoadState ℕ → Ending → Type 0
LoadsThen limits next r text (Ok l) o = LoadsBehind limits next r text l o
LoadsThen limits next r text (Err n) o = o ≡ limit n

-- a line, of that number, is put behind those that wait where it spells a triple
abbrev pub AddsLine : List ℕ → ℕ → List Waiting → List Waiting → Next → Type 0
AddsLine text n old new Lines =
    (Empty text × (new ≡ old)) ⊎ ((t : Triple) × SpellsTriple text t × (new ≡ old ++ record { triple = hashed t; line = n } ∷ []))
AddsLine text n old new End = ⊥
AddsLine text n old new (Syntax m) = (m ≡ n) × (new ≡ old) × (¬ Empty text) × ((t : Triple) → SpellsTriple text t → ⊥)
AddsLine text n old new (Limit m) = ⊥

-- Lines were read: whatever outcome follows from the triples that wait afterwards and the text that is left then, follows
-- from those that waited before and the text that was left before.
abbrev pub ReadsLines : ReaderState → List Waiting → Option (List ℕ) → Next → ReaderState → List Waiting → Option (List ℕ) → Type 0
ReadsLines r waited before next q waits after =
    (limits : Limits) (l : LoadState) (o : Ending)
    → LoadsThen limits next q after (with_all limits waits l) o → LoadsThen limits Lines r before (with_all limits waited l) o

-- more of the text is taken
abbrev pub IsNearer : ReaderState → ReaderState → Type 0
IsNearer r q = (r.taken < q.taken) × (q.taken ≤ GRAPH_BYTES)

-- What a call that reads on does to the reader, to the triples that wait and to the shelf. Of a shelf the functions
-- give what is left of the open file, whether one is open, the files, and the count of faults.
pub record ReadsOn {S : Type 0} (left : S → Option (List ℕ)) (is_open : S → Bool) (files : S → Option (List File)) (faults : S → ℕ)
    (r q : ReaderState) (waited waits : List Waiting) (old new : S) (result : Result Next LoadError) : Type 0 where
  -- whatever outcome follows from the triples that wait now and the text that is left, followed from those before
  pub reads : IfOk result (λ next. ReadsLines r waited (stream r (left old)) next q waits (stream q (left new)))
  -- if there may be more lines, the reader can read them
  pub can : IfOk result (λ next. OnLines next (CanRead q (is_open new)))
  -- and more of the text was taken, within the limit
  pub nearer : IfOk result (λ next. OnLines next (IsNearer r q))
  -- an error tells nothing of the text
  pub none : IfErr result (TellsOutcome {X = LoadState} (λ _. ⊥))
  -- a file that is read on is never missing
  pub found : result ≢ Err error.Missing
  -- the files stay
  pub same : files new ≡ files old
  -- a fault comes only if the count rose or stands at its last value
  pub fault : IsErrOf result error.Fault → MayHaveRisen (faults old) (faults new)
  -- without one the count is as before
  pub no_fault : result ≢ Err error.Fault → faults new ≡ faults old

-- the triples that waited are loaded
pub record AreLoaded (limits : Limits) (waited : List Waiting) (old new : Loader) : Type 0 where
  -- what holds of each loader holds of this one
  pub sound : IsSoundLoader new
  -- by the definition of the load, what the loader knew and the triples that waited lead to what it knows now
  pub does : (triples : List (Triple × ℕ)) → Holds old triples
      → (more : List (Triple × ℕ)) × Holds new more × (with_all limits waited (load_state old triples) ≡ Ok (load_state new more))

-- a triple is refused, and the number of its line decides
abbrev pub Stops : Limits → Waiting → Loader → Ending → Type 0
Stops limits w r o = (o ≡ limit w.line) × IsUntaken limits (triple_of w.triple) r

-- one of the triples that waited is
abbrev pub OneStops : Limits → List Waiting → Loader → Ending → Type 0
OneStops limits waited r o =
    (triples : List (Triple × ℕ)) → Holds r triples → (n : ℕ) × (o ≡ limit n) × (with_all limits waited (load_state r triples) ≡ Err n)

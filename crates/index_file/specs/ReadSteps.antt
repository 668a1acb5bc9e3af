-- What the steps of reading a file do, and what their answers say.
use Rattle.std.specs.Prelude.{◌≡◌, ◌≢◌, ℕ, ◌<◌, ◌≤◌, ⊤, Bool, true, false, IsTrue, List, Option, None, Some, Result, Err, IfOk, IfErr, IsErrOf}
use Rattle.px_base.specs.declared.lines.TheConstants.{LINE_BYTES, GRAPH_BYTES}
use Rattle.px_base.specs.Causes.{MayHaveRisen}
use Rattle.px_base.specs.Files.{File, content_of}
use Rattle.px_base.specs.ReaderStates.{ReaderState, stream}
use Rattle.graph_spec.specs.Lines.{cut}
use Rattle.graph_spec.specs.declared.limits.Limits.{Limits}
use Rattle.index_file.specs.declared.reading.SavedError.{SavedError}
use Rattle.index_file.specs.declared.reading.SavedError.TheVariants as error
use Rattle.index_file.specs.Readings.{Reading}
use Rattle.index_file.specs.Reads.{ReadOutcome, bad_syntax, past_limit, ReadPlace, EndsFile, ReadsFrom, Reads, ExceedsAt, IsWrong}

-- The name is that of an observable file whose text gives this; of opaque files it says nothing.
abbrev pub ReadsObservable : Limits → Option (List File) → List ℕ → ReadOutcome → Type 0
ReadsObservable limits None name o = ⊤
ReadsObservable limits (Some files) name o = (text : List ℕ) × (content_of files name ≡ Some text) × Reads limits text o

-- observable files lack the name
abbrev pub LacksFile : Option (List File) → List ℕ → Type 0
LacksFile None name = ⊤
LacksFile (Some files) name = content_of files name ≡ None

-- the outcome that an error tells; memory that ran out and a call that failed tell none
abbrev pub TellsOutcome : (ReadOutcome → Type 0) → SavedError → Type 0
TellsOutcome P (error.Syntax l) = P (bad_syntax l)
TellsOutcome P (error.Limit l) = P (past_limit l)
TellsOutcome P error.Missing = ⊤
TellsOutcome P error.Fault = ⊤
TellsOutcome P error.Memory = ⊤

-- why the line of that number isn't taken
abbrev pub TellsLine : Limits → List ℕ → ℕ → Reading → SavedError → Type 0
TellsLine limits line number r (error.Syntax l) = (l ≡ number) × IsWrong limits line r
TellsLine limits line number r (error.Limit l) = (l ≡ number) × ExceedsAt limits line r
TellsLine limits line number r error.Missing = ⊥
TellsLine limits line number r error.Fault = ⊥
TellsLine limits line number r error.Memory = ⊤

-- what lies ahead gives this, where it is observable
abbrev pub ReadsAhead : Limits → Option (List ℕ) → ReadPlace → ReadOutcome → Type 0
ReadsAhead limits None p o = ⊤
ReadsAhead limits (Some text) p o = ReadsFrom limits (cut text) p o

-- how far a file is read, where this is read of it
abbrev pub place : ReaderState → Reading → ReadPlace
place r reading = record { reading = reading; lines = r.number; bytes = r.taken }

-- what the reader and the shelf have left gives this outcome, where this is read
abbrev pub ReadsRest : Limits → ReaderState → Option (List ℕ) → Reading → ReadOutcome → Type 0
ReadsRest limits r left reading o = ReadsAhead limits (stream r left) (place r reading) o

-- the reader has the limits of a graph file, can read on, and took a byte or more with each line
pub record CanRead (r : ReaderState) (is_open : Bool) : Type 0 where
  -- no read has failed
  pub ready : r.failed ≡ false
  -- the limits are those on a line and on a graph file
  pub line_limit : r.line_limit ≡ LINE_BYTES
  pub text_limit : r.text_limit ≡ GRAPH_BYTES
  -- a byte or more was taken with each line
  pub counted : r.number ≤ r.taken
  -- the bytes taken are within the limit
  pub within : r.taken ≤ GRAPH_BYTES
  -- a file is open
  pub opened : IsTrue is_open

-- What became of a line. True: it was taken, and what the text behind it is read as, the whole is read as. False: the
-- text is over, and what a file that ends here is read as, it is read as.
abbrev pub GoesOn : Limits → Option (List ℕ) → ReadPlace → Option (List ℕ) → ReadPlace → Bool → Type 0
GoesOn limits before p after q true = (o : ReadOutcome) → ReadsAhead limits after q o → ReadsAhead limits before p o
GoesOn limits before p after q false = (q.reading ≡ p.reading) × (q.lines ≡ p.lines) × ((o : ReadOutcome) → EndsFile p o → ReadsAhead limits before p o)

-- What a call that reads on does to the reader, to what was read and to the shelf. Of a shelf the functions give what
-- is left of the open file, whether one is open, the files, and the count of faults.
pub record ReadsOn {S : Type 0} (limits : Limits) (left : S → Option (List ℕ)) (is_open : S → Bool) (files : S → Option (List File)) (faults : S → ℕ)
    (r q : ReaderState) (read reads : Reading) (old new : S) (result : Result Bool SavedError) : Type 0 where
  -- the call read on, or came to the end of the text
  pub goes : IfOk result (GoesOn limits (stream r (left old)) (place r read) (stream q (left new)) (place q reads))
  -- if there may be more, the reader can read it
  pub can : IfOk result (λ more. IsTrue more → CanRead q (is_open new))
  -- and took at least a byte, within the limit
  pub nearer : IfOk result (λ more. IsTrue more → (r.taken < q.taken) × (q.taken ≤ GRAPH_BYTES))
  -- an error tells what the rest of the text comes to
  pub refused : IfErr result (TellsOutcome (ReadsAhead limits (stream r (left old)) (place r read)))
  -- a file that is read on is never missing
  pub found : result ≢ Err error.Missing
  -- the files stay
  pub same : files new ≡ files old
  -- a fault comes only if the count rose or stands at its last value
  pub fault : IsErrOf result error.Fault → MayHaveRisen (faults old) (faults new)
  -- without one the count is as before
  pub no_fault : result ≢ Err error.Fault → faults new ≡ faults old

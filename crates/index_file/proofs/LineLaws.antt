-- What a line makes of what lies ahead.
use Rattle.std.proofs.Common.{◌≡◌, ℕ, ◌+◌, ◌<◌, ◌≤◌, List, [], length, Option, None, Some, Bool, true, false, IsTrue, refl, sym, ap, ◌∙◌, subst, inl, inr, arith}
use Rattle.std.specs.Prelude.{◌≢◌, Result, Ok, Err, IfOk, IfErr, IsErrOf}
use Rattle.std.specs.Io.KnownBytes.{prepend_known}
use Rattle.px_base.specs.declared.lines.TheConstants.{LINE_BYTES, GRAPH_BYTES}
use Rattle.px_base.specs.ReaderStates.{ReaderState, new_reader, IsFirst, IsPast, Finishes, stream, ReadsLine as TakesLine, IsOver as IsDone, IsReadable as MayTake}
use Rattle.graph_spec.specs.Lines.{Line, cut}
use Rattle.graph_spec.specs.declared.limits.Limits.{Limits}
use Rattle.index_file.specs.declared.reading.SavedError.{SavedError}
use Rattle.index_file.specs.declared.reading.SavedError.TheVariants as error
use Rattle.index_file.specs.Readings.{Reading, nothing_read, is_complete, file_of}
use Rattle.index_file.specs.Reads.{ReadOutcome, holds, bad_syntax, past_limit, ReadPlace, read_start, read_past, IsWithinIndexFile, IsTaken, ExceedsAt, IsWrong, ReadsLine, takes, over, wrong, EndsFile, complete, early, ReadsFrom}
use Rattle.index_file.specs.ReadSteps.{ReadsAhead, TellsOutcome, TellsLine, place, CanRead, GoesOn}

-- the outcome of the first line decides
follows : (limits : Limits) (p : ReadPlace) (l : Line) (before after : Option (List ℕ)) (q : ReadPlace) (o : ReadOutcome) → IsFirst l before after → IsWithinIndexFile p l
    → ((rest : List Line) → ReadsFrom limits rest q o → ReadsLine limits p l (ReadsFrom limits rest) o) → ReadsAhead limits after q o → ReadsAhead limits before p o
follows limits p l None after q o first within step ahead = tt
follows limits p l (Some text) None q o first within step ahead = absurd first
follows limits p l (Some text) (Some rest) q o first within step ahead = subst (λ ls. ReadsFrom limits ls p o) (sym first) (inr (within, step (cut rest) ahead))

stops : (limits : Limits) (p : ReadPlace) (l : Line) (before after : Option (List ℕ)) (o : ReadOutcome) → IsFirst l before after → IsWithinIndexFile p l
    → ((rest : List Line) → ReadsLine limits p l (ReadsFrom limits rest) o) → ReadsAhead limits before p o
stops limits p l None after o first within step = tt
stops limits p l (Some text) None o first within step = absurd first
stops limits p l (Some text) (Some rest) o first within step = subst (λ ls. ReadsFrom limits ls p o) (sym first) (inr (within, step (cut rest)))

-- a line within the reader's limits is within those of a file
fits : (r : ReaderState) (p : ReadPlace) (l : Line) → r.line_limit ≡ LINE_BYTES → r.text_limit ≡ GRAPH_BYTES → r.taken ≡ p.bytes → MayTake r l → IsWithinIndexFile p l
fits r p l line text taken w = (
  subst (λ n. length l.text ≤ n) line w.0,
  subst (λ n. n + length l.text + length l.end ≤ GRAPH_BYTES) taken (subst (λ n. r.taken + length l.text + length l.end ≤ n) text w.1),
)

place_same : (a b : ReadPlace) → a.reading ≡ b.reading → a.lines ≡ b.lines → a.bytes ≡ b.bytes → a ≡ b
place_same a b e f g = λ i. record { reading = e i; lines = f i; bytes = g i }

module _ (limits : Limits) (r q : ReaderState) (before after : Option (List ℕ)) (reads : TakesLine r q before after)
    (line_limit : r.line_limit ≡ LINE_BYTES) (text_limit : r.text_limit ≡ GRAPH_BYTES) where
  text_is : q.line ≡ reads.first.text
  text_is = ap (λ (x : ReaderState). x.line) reads.passed

  number_is : q.number ≡ r.number + 1
  number_is = ap (λ (x : ReaderState). x.number) reads.passed

  behind : (l m : Reading) → read_past (place r l) reads.first m ≡ place q m
  behind l m = place_same _ _ refl (sym number_is) (sym (ap (λ (x : ReaderState). x.taken) reads.passed))

  within : (l : Reading) → IsWithinIndexFile (place r l) reads.first
  within l = fits r (place r l) reads.first line_limit text_limit refl reads.within

  pub past_taken : (old new : Reading) → IsTaken limits q.line old new → (o : ReadOutcome) → ReadsAhead limits after (place q new) o → ReadsAhead limits before (place r old) o
  past_taken old new t o h =
      follows limits (place r old) reads.first before after (place q new) o reads.observable (within old) (λ rest k.
      takes new (subst (λ x. IsTaken limits x old new) text_is t) o (subst (λ p. ReadsFrom limits rest p o) (sym (behind old new)) k)) h

  past_over : (old : Reading) → ExceedsAt limits q.line old → ReadsAhead limits before (place r old) (past_limit q.number)
  past_over old t =
      subst (λ n. ReadsAhead limits before (place r old) (past_limit n)) (sym number_is)
      (stops limits (place r old) reads.first before after (past_limit (r.number + 1)) reads.observable (within old) (λ rest. over (subst (λ x. ExceedsAt limits x old) text_is t)))

  past_wrong : (old : Reading) → IsWrong limits q.line old → ReadsAhead limits before (place r old) (bad_syntax q.number)
  past_wrong old t =
      subst (λ n. ReadsAhead limits before (place r old) (bad_syntax n)) (sym number_is)
      (stops limits (place r old) reads.first before after (bad_syntax (r.number + 1)) reads.observable (within old) (λ rest. wrong (subst (λ x. IsWrong limits x old) text_is t)))

  -- a line that isn't taken tells the outcome
  pub past_refused : (old : Reading) (e : SavedError) → TellsLine limits q.line q.number old e → TellsOutcome (ReadsAhead limits before (place r old)) e
  past_refused old (error.Syntax n) (number, h) = subst (λ m. ReadsAhead limits before (place r old) (bad_syntax m)) (sym number) (past_wrong old h)
  past_refused old (error.Limit n) (number, h) = subst (λ m. ReadsAhead limits before (place r old) (past_limit m)) (sym number) (past_over old h)
  past_refused old error.Missing h = absurd h
  past_refused old error.Fault h = absurd h
  past_refused old error.Memory h = tt

  -- and the reader can read on
  pub can_again : (is_open : Bool) → q.failed ≡ false → r.number ≤ r.taken → IsTrue is_open → CanRead q is_open
  can_again is_open ready counted opened =
      let size = reads.some in
      let most = reads.within.1 in
      let taken = ap (λ (x : ReaderState). x.taken) reads.passed in
      let number = number_is in
      record {
        ready = ready;
        line_limit = ap (λ (x : ReaderState). x.line_limit) reads.passed ∙ line_limit;
        text_limit = ap (λ (x : ReaderState). x.text_limit) reads.passed ∙ text_limit;
        counted = omega (arith, size, taken, number, counted);
        within = omega (arith, most, taken, text_limit);
        opened = opened;
      }

  pub nearer : (r.taken < q.taken) × (q.taken ≤ GRAPH_BYTES)
  nearer =
      let size = reads.some in
      let most = reads.within.1 in
      let taken = ap (λ (x : ReaderState). x.taken) reads.passed in
      (omega (arith, size, taken), omega (arith, most, taken, text_limit))

  -- what is told of the line is told of the text
  pub goes_result : (old new : Reading) (result : Result Bool SavedError) → IfOk result (λ more. IsTrue more × IsTaken limits q.line old new)
      → IfOk result (GoesOn limits before (place r old) after (place q new))
  goes_result old new (Ok more) (on, t) = subst (GoesOn limits before (place r old) after (place q new)) (sym on) (past_taken old new t)
  goes_result old new (Err e) h = tt

  pub refused_result : (old : Reading) (result : Result Bool SavedError) → IfErr result (TellsLine limits q.line q.number old)
      → IfErr result (TellsOutcome (ReadsAhead limits before (place r old)))
  refused_result old (Ok more) h = tt
  refused_result old (Err e) h = past_refused old e h

  pub can_result : (result : Result Bool SavedError) (is_open : Bool) → q.failed ≡ false → r.number ≤ r.taken → IsTrue is_open
      → IfOk result (λ more. IsTrue more → CanRead q is_open)
  can_result (Ok more) is_open ready counted opened = λ _. can_again is_open ready counted opened
  can_result (Err e) is_open ready counted opened = tt

  pub nearer_result : (result : Result Bool SavedError) → IfOk result (λ more. IsTrue more → (r.taken < q.taken) × (q.taken ≤ GRAPH_BYTES))
  nearer_result (Ok more) = λ _. nearer
  nearer_result (Err e) = tt

-- a line tells neither that a file is missing nor that a call failed
pub never_missing : (limits : Limits) (line : List ℕ) (n : ℕ) (r : Reading) (result : Result Bool SavedError) → IfErr result (TellsLine limits line n r)
    → result ≢ Err error.Missing
never_missing limits line n r result h e = subst (λ x. IfErr x (TellsLine limits line n r)) e h

pub never_fault : (limits : Limits) (line : List ℕ) (n : ℕ) (r : Reading) (result : Result Bool SavedError) → IfErr result (TellsLine limits line n r)
    → IsErrOf result error.Fault → ⊥
never_fault limits line n r result h e = subst (λ x. IfErr x (TellsLine limits line n r)) e h

-- the text is over
pub goes_over : (limits : Limits) (r q : ReaderState) (before after : Option (List ℕ)) (m : Reading) → Finishes r q before after
    → GoesOn limits before (place r m) after (place q m) false
goes_over limits r q before after m f = (refl, ap (λ (x : ReaderState). x.number) f.kept, λ o h. ends_any before o f.over_before h)
  where
    ends_any : (text : Option (List ℕ)) (o : ReadOutcome) → IsDone text → EndsFile (place r m) o → ReadsAhead limits text (place r m) o
    ends_any None o done h = tt
    ends_any (Some text) o done h = subst (λ t. ReadsFrom limits (cut t) (place r m) o) (sym done) h

-- a line passes a limit
pub line_past_limit : (limits : Limits) (r : ReaderState) (before : Option (List ℕ)) (m : Reading) (n : ℕ) → IsPast r before → r.line_limit ≡ LINE_BYTES → r.text_limit ≡ GRAPH_BYTES
    → n ≡ r.number + 1 → ReadsAhead limits before (place r m) (past_limit n)
line_past_limit limits r None m n is_past line text number = tt
line_past_limit limits r (Some text_ahead) m n (l, rest, lines, long) line text number =
    subst (λ ls. ReadsFrom limits ls (place r m) (past_limit n)) (sym lines) (inl (
      (λ w. long (subst (λ k. length l.text ≤ k) (sym line) w.0, subst (λ k. r.taken + length l.text + length l.end ≤ k) (sym text) w.1)),
      ap past_limit number,
    ))

-- what is read where the text is over
module _ (limits : Limits) (before after : Option (List ℕ)) (p q : ReadPlace) (goes : GoesOn limits before p after q false) where
  pub ends_complete : is_complete q.reading ≡ true → ReadsAhead limits before p (holds (file_of q.reading))
  ends_complete whole =
      subst (λ m. ReadsAhead limits before p (holds (file_of m))) (sym goes.0) (goes.2 (holds (file_of p.reading)) (complete (ap is_complete (sym goes.0) ∙ whole)))

  pub ends_early : is_complete q.reading ≡ false → ReadsAhead limits before p (bad_syntax (q.lines + 1))
  ends_early part =
      subst (λ n. ReadsAhead limits before p (bad_syntax (n + 1))) (sym goes.1) (goes.2 (bad_syntax (p.lines + 1)) (early (ap is_complete (sym goes.0) ∙ part)))

pub tells_map : (P Q : ReadOutcome → Type 0) → ((o : ReadOutcome) → P o → Q o) → (e : SavedError) → TellsOutcome P e → TellsOutcome Q e
tells_map P Q f (error.Syntax l) h = f (bad_syntax l) h
tells_map P Q f (error.Limit l) h = f (past_limit l) h
tells_map P Q f error.Missing h = tt
tells_map P Q f error.Fault h = tt
tells_map P Q f error.Memory h = tt

-- a reader that has taken nothing can read, and what it gives is what the file gives
pub start_can : (r : ReaderState) (is_open : Bool) → r ≡ new_reader LINE_BYTES GRAPH_BYTES → IsTrue is_open → CanRead r is_open
start_can r is_open e h = subst (λ x. CanRead x is_open) (sym e) (record {
  ready = refl;
  line_limit = refl;
  text_limit = refl;
  counted = omega arith;
  within = omega arith;
  opened = h;
})

ahead_start : (limits : Limits) (left : Option (List ℕ)) (o : ReadOutcome) → ReadsAhead limits (prepend_known [] left) read_start o → ReadsAhead limits left read_start o
ahead_start limits None o h = tt
ahead_start limits (Some text) o h = h

pub start_leads : (limits : Limits) (r : ReaderState) (m : Reading) (left : Option (List ℕ)) → r ≡ new_reader LINE_BYTES GRAPH_BYTES → m ≡ nothing_read
    → (o : ReadOutcome) → ReadsAhead limits (stream r left) (place r m) o → ReadsAhead limits left read_start o
start_leads limits r m left e f o h =
    ahead_start limits left o (subst (λ x. ReadsAhead limits (stream x left) (place x nothing_read) o) e
    (subst (λ x. ReadsAhead limits (stream r left) (place r x) o) f h))

-- What a line makes of what lies ahead.
use Rattle.std.proofs.Common.{◌≡◌, ℕ, ◌+◌, ◌<◌, ◌≤◌, List, [], ◌∷◌, ◌++◌, length, drop, get_or, Option, None, Some, Result, Ok, Err, refl, sym, ap, ◌∙◌, subst, inl, inr, arith}
use Rattle.std.specs.Prelude.{IsSome, true, IfOk}
use Rattle.std.specs.Io.KnownBytes.{prepend_known}
use Rattle.std.proofs.Math.ListN.{drop_of_length-le}
use Rattle.std.proofs.lemmas.List.{drop_more}
use Rattle.px_base.specs.declared.lines.TheConstants.{LINE_BYTES, GRAPH_BYTES}
use Rattle.px_base.specs.Files.{File, Finds}
use Rattle.px_base.specs.ReaderStates.{ReaderState, ReadsLine, IsFirst, IsOver, IsPast, stream, IsReadable as MayTake}
use Rattle.graph_spec.specs.Lines.{Line, cut}
use Rattle.graph_spec.specs.declared.limits.Limits.{Limits}
use Rattle.triples_read.specs.Lines.{SpellsTriple, Empty}
use Rattle.triples_read.specs.declared.term.Triple.{Triple}
use Rattle.graph_load.specs.declared.files.LoadError.{LoadError}
use Rattle.graph_load.specs.declared.files.LoadError.TheVariants as error
use Rattle.graph_load.specs.declared.batch.Next.{Next}
use Rattle.graph_load.specs.declared.batch.Next.TheVariants.{Lines, End, Syntax, Limit}
use Rattle.graph_load.specs.declared.batch.Waiting.{Waiting}
use Rattle.graph_load.specs.Hashed.{triple_of, hashed}
use Rattle.graph_load.specs.declared.loader.Loader.{Loader}
use Rattle.graph_spec.specs.declared.refusal.Refusal.{Refusal}
use Rattle.graph_load.specs.TripleGraphs.{LoadState, nothing_loaded, with_triple}
use Rattle.graph_load.specs.Loads.{Ending, loaded, syntax, limit, outcome_of, Place, at_start, past, IsWithinFile, LoadsLine, empty, takes, refuses, neither, LoadsFrom}
use Rattle.graph_load.specs.Loaders.{load_state, Holds, IsSoundLoader, IsTaken}
use Rattle.graph_load.specs.LoadSteps.{LoadsObservable, FileEnds, LoadsAhead, TellsOutcome, place, OnLines, at_line, then_load, with_one, with_all, LoadsBehind, LoadsThen, AddsLine, ReadsLines, IsNearer, AreLoaded, Stops, OneStops}

-- the outcome of the first line decides
follows : (limits : Limits) (p : Place) (l : Line) (before after : Option (List ℕ)) (q : Place) (o : Ending) → IsFirst l before after → IsWithinFile p l
    → ((rest : List Line) → LoadsFrom limits rest q o → LoadsLine limits p l (LoadsFrom limits rest) o) → LoadsAhead limits after q o → LoadsAhead limits before p o
follows limits p l None after q o first within step ahead = tt
follows limits p l (Some text) None q o first within step ahead = absurd first
follows limits p l (Some text) (Some rest) q o first within step ahead = subst (λ ls. LoadsFrom limits ls p o) (sym first) (inr (within, step (cut rest) ahead))

stops : (limits : Limits) (p : Place) (l : Line) (before after : Option (List ℕ)) (o : Ending) → IsFirst l before after → IsWithinFile p l
    → ((rest : List Line) → LoadsLine limits p l (LoadsFrom limits rest) o) → LoadsAhead limits before p o
stops limits p l None after o first within step = tt
stops limits p l (Some text) None o first within step = absurd first
stops limits p l (Some text) (Some rest) o first within step = subst (λ ls. LoadsFrom limits ls p o) (sym first) (inr (within, step (cut rest)))

-- a line within the reader's limits is within those of a graph file
fits : (r : ReaderState) (p : Place) (l : Line) → r.line_limit ≡ LINE_BYTES → r.text_limit ≡ GRAPH_BYTES → r.taken ≡ p.bytes → MayTake r l → IsWithinFile p l
fits r p l line text taken w = (
  subst (λ n. length l.text ≤ n) line w.0,
  subst (λ n. n + length l.text + length l.end ≤ GRAPH_BYTES) taken (subst (λ n. r.taken + length l.text + length l.end ≤ n) text w.1),
)

place_same : (a b : Place) → a.state ≡ b.state → a.lines ≡ b.lines → a.bytes ≡ b.bytes → a ≡ b
place_same a b e f g = λ i. record { state = e i; lines = f i; bytes = g i }

-- ---- triples that wait

with_last : (limits : Limits) (ws : List Waiting) (w : Waiting) (l : LoadState) → with_all limits (ws ++ w ∷ []) l ≡ then_load (with_all limits ws l) (with_one limits w)
with_last limits [] w l = alone (with_one limits w l)
  where
    alone : (x : Result LoadState ℕ) → then_load x (λ m. Ok m) ≡ x
    alone (Ok m) = refl
    alone (Err n) = refl
with_last limits (v ∷ ws) w l = behind (with_one limits v l) (with_last limits ws w)
  where
    behind : (x : Result LoadState ℕ) → ((m : LoadState) → with_all limits (ws ++ w ∷ []) m ≡ then_load (with_all limits ws m) (with_one limits w))
        → then_load x (with_all limits (ws ++ w ∷ [])) ≡ then_load (then_load x (with_all limits ws)) (with_one limits w)
    behind (Ok m) rest = rest m
    behind (Err n) rest = refl

-- what holds of all that may be loaded holds of what the triples load to
each : (limits : Limits) (r : ReaderState) (before : Option (List ℕ)) (next : Next) (q : ReaderState) (after : Option (List ℕ))
    → ((m : LoadState) (o : Ending) → LoadsBehind limits next q after m o → LoadsAhead limits before (place r m) o)
    → (x : Result LoadState ℕ) (o : Ending) → LoadsThen limits next q after x o → LoadsThen limits Lines r before x o
each limits r before next q after f (Ok m) o h = f m o h
each limits r before next q after f (Err n) o h = h

-- and of one more
each_last : (limits : Limits) (w : Waiting) (r : ReaderState) (before : Option (List ℕ)) (q : ReaderState) (after : Option (List ℕ))
    → ((m : LoadState) (o : Ending) → LoadsThen limits Lines q after (with_one limits w m) o → LoadsAhead limits before (place r m) o)
    → (x : Result LoadState ℕ) (o : Ending) → LoadsThen limits Lines q after (then_load x (with_one limits w)) o → LoadsThen limits Lines r before x o
each_last limits w r before q after f (Ok m) o h = f m o h
each_last limits w r before q after f (Err n) o h = h

on_lines : (next : Next) {P : Type 0} → P → OnLines next P
on_lines Lines p = p
on_lines End p = tt
on_lines (Syntax n) p = tt
on_lines (Limit n) p = tt

module _ (r q : ReaderState) (before after : Option (List ℕ)) (reads : ReadsLine r q before after)
    (line_limit : r.line_limit ≡ LINE_BYTES) (text_limit : r.text_limit ≡ GRAPH_BYTES) where
  text_is : q.line ≡ reads.first.text
  text_is = ap (λ (x : ReaderState). x.line) reads.passed

  number_is : q.number ≡ r.number + 1
  number_is = ap (λ (x : ReaderState). x.number) reads.passed

  behind : (l m : LoadState) → past (place r l) reads.first m ≡ place q m
  behind l m = place_same _ _ refl (sym number_is) (sym (ap (λ (x : ReaderState). x.taken) reads.passed))

  within : (l : LoadState) → IsWithinFile (place r l) reads.first
  within l = fits r (place r l) reads.first line_limit text_limit refl reads.within

  pub nearer : IsNearer r q
  nearer =
      let size = reads.some in
      let most = reads.within.1 in
      let taken = ap (λ (x : ReaderState). x.taken) reads.passed in
      (omega (arith, size, taken), omega (arith, most, taken, text_limit))

  module _ (limits : Limits) where
    -- a line is empty
    past_empty : Empty q.line → (l : LoadState) (o : Ending) → LoadsAhead limits after (place q l) o → LoadsAhead limits before (place r l) o
    past_empty is_empty l o =
        follows limits (place r l) reads.first before after (place q l) o reads.observable (within l) (λ rest h.
        empty (subst Empty text_is is_empty) o (subst (λ p. LoadsFrom limits rest p o) (sym (behind l l)) h))

    -- a line spells a triple
    past_triple : (t : Triple) → SpellsTriple q.line t → (l : LoadState) (o : Ending) → LoadsThen limits Lines q after (with_one limits (record { triple = hashed t; line = q.number }) l) o → LoadsAhead limits before (place r l) o
    past_triple t spells l o h = by (with_triple limits t l) refl h
      where
        by : (x : Result LoadState Refusal) → with_triple limits t l ≡ x → LoadsThen limits Lines q after (at_line q.number x) o → LoadsAhead limits before (place r l) o
        by (Ok m) is h =
            follows limits (place r l) reads.first before after (place q m) o reads.observable (within l) (λ rest k.
            takes t (subst (λ x. SpellsTriple x t) text_is spells) m is o (subst (λ p. LoadsFrom limits rest p o) (sym (behind l m)) k)) h
        by (Err e) is h =
            subst (LoadsAhead limits before (place r l)) (ap limit (sym number_is) ∙ sym h)
            (stops limits (place r l) reads.first before after (limit (r.number + 1)) reads.observable (within l) (λ rest. refuses t (subst (λ x. SpellsTriple x t) text_is spells) e is))

    -- a line is neither
    past_neither : (¬ Empty q.line) → ((t : Triple) → SpellsTriple q.line t → ⊥) → (l : LoadState) (o : Ending) → o ≡ syntax q.number → LoadsAhead limits before (place r l) o
    past_neither none nothing l o is =
        subst (LoadsAhead limits before (place r l)) (ap syntax (sym number_is) ∙ sym is)
        (stops limits (place r l) reads.first before after (syntax (r.number + 1)) reads.observable (within l)
        (λ rest. neither (λ t s. nothing t (subst (λ x. SpellsTriple x t) (sym text_is) s)) (λ e. none (subst Empty (sym text_is) e))))

  -- a line was read
  pub reads_on : (next : Next) (waited waits : List Waiting) → AddsLine q.line q.number waited waits next → ReadsLines r waited before next q waits after
  reads_on Lines waited waits (inl (is_empty, same)) = λ limits l o h.
      each limits r before Lines q after (past_empty limits is_empty) (with_all limits waited l) o (subst (λ ws. LoadsThen limits Lines q after (with_all limits ws l) o) same h)
  reads_on Lines waited waits (inr (t, spells, is)) = λ limits l o h.
      let w : Waiting = record { triple = hashed t; line = q.number } in
      each_last limits w r before q after (past_triple limits t spells) (with_all limits waited l) o
      (subst (λ x. LoadsThen limits Lines q after x o) (ap (λ ws. with_all limits ws l) is ∙ with_last limits waited w l) h)
  reads_on End waited waits puts = absurd puts
  reads_on (Syntax n) waited waits (number, same, none, nothing) = λ limits l o h.
      each limits r before (Syntax n) q after (λ m o is. past_neither limits none nothing m o (is ∙ ap syntax number)) (with_all limits waited l) o
      (subst (λ ws. LoadsThen limits (Syntax n) q after (with_all limits ws l) o) same h)
  reads_on (Limit n) waited waits puts = absurd puts

  pub reads_result : (result : Result Next LoadError) (waited waits : List Waiting) → IfOk result (AddsLine q.line q.number waited waits) → IfOk result (λ next. ReadsLines r waited before next q waits after)
  reads_result (Ok next) waited waits puts = reads_on next waited waits puts
  reads_result (Err e) waited waits puts = tt

  pub nearer_result : (result : Result Next LoadError) → IfOk result (λ next. OnLines next (IsNearer r q))
  nearer_result (Ok next) = on_lines next nearer
  nearer_result (Err e) = tt

-- the text taken grows
pub further : (next : Next) (r q p : ReaderState) → r.taken ≤ q.taken → OnLines next (IsNearer q p) → OnLines next (IsNearer r p)
further Lines r q p before (less, most) = (omega (arith, before, less), most)
further End r q p before h = tt
further (Syntax n) r q p before h = tt
further (Limit n) r q p before h = tt

-- a line passes a limit
pub reads_past : (r q : ReaderState) (before after : Option (List ℕ)) → IsPast r before → r.line_limit ≡ LINE_BYTES → r.text_limit ≡ GRAPH_BYTES
    → (n : ℕ) → n ≡ r.number + 1 → (waited : List Waiting) → ReadsLines r waited before (Limit n) q waited after
reads_past r q before after is_past line text n number waited limits l o h =
    each limits r before (Limit n) q after (λ m o is. subst (LoadsAhead limits before (place r m)) (sym is) (past_there limits m before is_past)) (with_all limits waited l) o h
  where
    past_there : (limits : Limits) (m : LoadState) (observable : Option (List ℕ)) → IsPast r observable → LoadsAhead limits observable (place r m) (limit n)
    past_there limits m None is_past = tt
    past_there limits m (Some text_ahead) (l, rest, lines, long) =
        subst (λ ls. LoadsFrom limits ls (place r m) (limit n)) (sym lines) (inl (
          (λ w. long (subst (λ m. length l.text ≤ m) (sym line) w.0, subst (λ m. r.taken + length l.text + length l.end ≤ m) (sym text) w.1)),
          ap limit number,
        ))

-- the text is over
pub reads_over : (r q : ReaderState) (before after : Option (List ℕ)) → IsOver before → (waited : List Waiting) → ReadsLines r waited before End q waited after
reads_over r q before after over waited limits l o h =
    each limits r before End q after (λ m o is. subst (LoadsAhead limits before (place r m)) (sym is) (over_there limits m before over)) (with_all limits waited l) o h
  where
    over_there : (limits : Limits) (m : LoadState) (observable : Option (List ℕ)) → IsOver observable → LoadsAhead limits observable (place r m) (loaded m)
    over_there limits m None over = tt
    over_there limits m (Some text) over = subst (λ t. LoadsFrom limits (cut t) (place r m) (loaded m)) (sym over) refl

-- ---- the triples are loaded

-- the first ones are loaded
pub record AreLeft (limits : Limits) (ws : List Waiting) (n : ℕ) (old new : Loader) : Type 0 where
  pub sound : IsSoundLoader new
  pub does : (triples : List (Triple × ℕ)) → Holds old triples → (more : List (Triple × ℕ)) × Holds new more × (with_all limits ws (load_state old triples) ≡ with_all limits (drop n ws) (load_state new more))

pub left_all : (limits : Limits) (ws : List Waiting) (r : Loader) → IsSoundLoader r → AreLeft limits ws 0 r r
left_all limits ws r sound = record { sound = sound; does = λ triples holds. (triples, holds, refl) }

module _ (limits : Limits) (ws : List Waiting) (n : ℕ) (old r : Loader) (left : AreLeft limits ws n old r) where
  pub left_none : length ws ≤ n → AreLoaded limits ws old r
  left_none h = record {
    sound = left.sound;
    does = λ triples holds.
        let d = left.does triples holds in
        (d.0, d.1, d.2 ∙ ap (λ x. with_all limits x (load_state r d.0)) (drop_of_length-le ws h));
  }

  module _ (w : Waiting) (h : n < length ws) (is : w ≡ get_or ws n w) where
    pub left_next : (new : Loader) → IsTaken limits (triple_of w.triple) r new → AreLeft limits ws (n + 1) old new
    left_next new taken = record {
      sound = taken.sound;
      does = λ triples holds.
          let d = left.does triples holds in
          let e = taken.does d.0 d.1 in (
            e.0,
            e.1,
            d.2 ∙ ap (λ x. with_all limits x (load_state r d.0)) (drop_more ws n w h ∙ ap (λ v. v ∷ drop (n + 1) ws) (sym is))
                ∙ ap (λ x. then_load (at_line w.line x) (with_all limits (drop (n + 1) ws))) e.2,
          );
    }

    pub left_stops : (o : Ending) → Stops limits w r o → OneStops limits ws old o
    left_stops o (is_limit, untaken) triples holds =
        let d = left.does triples holds in (
          w.line,
          is_limit,
          d.2 ∙ ap (λ x. with_all limits x (load_state r d.0)) (drop_more ws n w h ∙ ap (λ v. v ∷ drop (n + 1) ws) (sym is))
              ∙ ap (λ x. then_load (at_line w.line x) (with_all limits (drop (n + 1) ws))) (untaken d.0 d.1).1,
        )

-- the outcome of a batch is one of what lay ahead
pub batch_leads : (limits : Limits) (r q : ReaderState) (before after : Option (List ℕ)) (waited waits : List Waiting) (next : Next) (l : LoadState) (x : Result LoadState ℕ) (Q : Ending → Type 0)
    → waited ≡ [] → ReadsLines r waited before next q waits after → with_all limits waits l ≡ x → ((o : Ending) → LoadsAhead limits before (place r l) o → Q o)
    → (o : Ending) → LoadsThen limits next q after x o → Q o
batch_leads limits r q before after waited waits next l x Q none reads does leads o h =
    leads o (subst (λ ws. LoadsThen limits Lines r before (with_all limits ws l) o) none (reads limits l o (subst (λ y. LoadsThen limits next q after y o) (sym does) h)))

pub ahead_start : (limits : Limits) (left : Option (List ℕ)) (p : Place) (o : Ending) → LoadsAhead limits (prepend_known [] left) p o → LoadsAhead limits left p o
ahead_start limits None p o h = tt
ahead_start limits (Some text) p o h = h

pub start_leads : (limits : Limits) (r : ReaderState) (l : Loader) (left : Option (List ℕ)) → r.ahead ≡ [] → r.number ≡ 0 → r.taken ≡ 0 → load_state l [] ≡ nothing_loaded
    → (o : Ending) → LoadsAhead limits (stream r left) (place r (load_state l [])) o → LoadsAhead limits left at_start o
start_leads limits r l left ahead number taken nothing o h =
    ahead_start limits left at_start o (subst (λ (x : List ℕ). LoadsAhead limits (prepend_known x left) at_start o) ahead
    (subst (λ p. LoadsAhead limits (stream r left) p o) (place_same (place r (load_state l [])) at_start nothing number taken) h))

pub tells_map : (P Q : Ending → Type 0) → ((o : Ending) → P o → Q o) → (e : LoadError) → TellsOutcome P e → TellsOutcome Q e
tells_map P Q f (error.Syntax l) h = f (syntax l) h
tells_map P Q f (error.Limit l) h = f (limit l) h
tells_map P Q f error.Missing h = tt
tells_map P Q f error.Fault h = tt
tells_map P Q f error.Memory h = tt

-- an error that tells an outcome is one of those that a call may answer
pub tells_none : (Q : Ending → Type 0) → (e : LoadError) → TellsOutcome {X = LoadState} (λ _. ⊥) e → TellsOutcome Q e
tells_none Q = tells_map (λ _. ⊥) Q (λ o h. absurd h)

-- what the open file loads to, its name loads to
pub file_ends : (limits : Limits) (files : Option (List File)) (name : List ℕ) (left : Option (List ℕ)) → Finds files name true left
    → (e : Ending) → LoadsAhead limits left at_start e → FileEnds limits files name e
file_ends limits None name left finds e h = tt
file_ends limits (Some files) name None finds e h = absurd (none finds.0)
  where
    none : IsSome {T = List ℕ} None → ⊥
    none p = absurd (cc)
file_ends limits (Some files) name (Some text) finds e h = (text, sym finds.1, h)

pub observable_there : (limits : Limits) (files : Option (List File)) (name : List ℕ) (e : Ending) → FileEnds limits files name e → LoadsObservable limits files name (outcome_of e)
observable_there limits None name e h = tt
observable_there limits (Some files) name e (text, there, h) = (text, there, record { ending = e; ends = h; is = refl })

-- so does the outcome that an error tells
pub observable_tells : (limits : Limits) (files : Option (List File)) (name : List ℕ) (left : Option (List ℕ)) → Finds files name true left
    → (e : LoadError) → TellsOutcome (LoadsAhead limits left at_start) e → TellsOutcome (LoadsObservable limits files name) e
observable_tells limits files name left finds (error.Syntax n) h = observable_there limits files name (syntax n) (file_ends limits files name left finds (syntax n) h)
observable_tells limits files name left finds (error.Limit n) h = observable_there limits files name (limit n) (file_ends limits files name left finds (limit n) h)
observable_tells limits files name left finds error.Missing h = tt
observable_tells limits files name left finds error.Fault h = tt
observable_tells limits files name left finds error.Memory h = tt

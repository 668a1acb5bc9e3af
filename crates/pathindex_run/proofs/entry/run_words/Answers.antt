use Rattle.std.proofs.Common.{map, string_bytes, inr, refl}
use Rattle.command_line.specs.Words.{form_of}
use Rattle.index_api.specs.IndexKinds.{kinds_of}
use Rattle.pathindex_core.specs.Engines.{by_meaning}
use Rattle.script_interpreter.specs.EngineStates.{IsIn}
use Rattle.pathindex_run.proofs.CheckLemmas.{none_named, not_run, not_made, not_neither}
use Rattle.pathindex_run.proofs.RunLemmas.{unread}
use Rattle.pathindex_run.proofs.CompleteLemmas.{made_status, made_completes}
use Rattle.pathindex_run.proofs.MadeProper.{made_ends}
use Rattle.pathindex_run.proofs.entry.run_words.Goals as goal

pub returns-in-Err-clause-does : goal.returns-in-Err-clause-does
returns-in-Err-clause-does g c = unread (form_of (map string_bytes c.args.words.now)) _ (g.H.Shelf.files c.args.shelf.now) (g.K.Sink.written c.args.sink.now) _

pub returns-in-Ok-Make-clause-does : goal.returns-in-Ok-Make-clause-does
returns-in-Ok-Make-clause-does g c =
    let e = rw c.in-Ok-Make.field-0-is at c.in-Ok-Make.ensures.exact in
    rw (← e) c.run_seeded.ensures.does

pub returns-in-Ok-Make-clause-status : goal.returns-in-Ok-Make-clause-status
returns-in-Ok-Make-clause-status g c =
    let e = rw c.in-Ok-Make.field-0-is at c.in-Ok-Make.ensures.exact in
    rw (← e) (made_status c.in-Ok-Make.seed (g.H.Shelf.files c.args.shelf.now) _ _ _ _ c.run_seeded.ensures.status)

pub returns-in-Ok-Make-clause-complete : goal.returns-in-Ok-Make-clause-complete
returns-in-Ok-Make-clause-complete g c =
    let e = rw c.in-Ok-Make.field-0-is at c.in-Ok-Make.ensures.exact in
    rw (← e) (made_completes c.in-Ok-Make.seed (kinds_of (map g.B.PathIndex.meaning c.args.engine.now.boxes)) (g.H.Shelf.files c.args.shelf.now) _ _ _ _ _ _
    (IsIn (by_meaning g.B.PathIndex.meaning c.run_seeded.new.engine)) c.run_seeded.ensures.does c.run_seeded.ensures.status)

pub returns-in-Ok-Make-clause-seed : goal.returns-in-Ok-Make-clause-seed
returns-in-Ok-Make-clause-seed g c = λ seed e f.
    made_ends c.in-Ok-Make.seed (kinds_of (map g.B.PathIndex.meaning c.args.engine.now.boxes)) _ _ _ _ _ (IsIn (by_meaning g.B.PathIndex.meaning c.run_seeded.new.engine)) c.run_seeded.ensures.does c.run_seeded.ensures.status f

pub returns-in-Ok-Check-clause-does : goal.returns-in-Ok-Check-clause-does
returns-in-Ok-Check-clause-does g c =
    let e = rw c.in-Ok-Check.field-0-is at c.in-Ok-Check.ensures.exact in
    rw (← e) c.run_check.ensures.does

pub returns-in-Ok-Check-clause-status : goal.returns-in-Ok-Check-clause-status
returns-in-Ok-Check-clause-status g c =
    let e = rw c.in-Ok-Check.field-0-is at c.in-Ok-Check.ensures.exact in
    rw (← e) c.run_check.ensures.status

pub returns-in-Ok-Check-clause-complete : goal.returns-in-Ok-Check-clause-complete
returns-in-Ok-Check-clause-complete g c =
    let e = rw c.in-Ok-Check.field-0-is at c.in-Ok-Check.ensures.exact in
    rw (← e) (λ proper f k. absurd proper)

pub returns-in-Ok-Check-clause-checked : goal.returns-in-Ok-Check-clause-checked
returns-in-Ok-Check-clause-checked g c =
    let e = rw c.in-Ok-Check.field-0-is at c.in-Ok-Check.ensures.exact in
    rw (← e) c.run_check.ensures.whole

-- ---- no other form checks a file

pub returns-in-Ok-Run-clause-checked : goal.returns-in-Ok-Run-clause-checked
returns-in-Ok-Run-clause-checked g c =
    let e = rw c.in-Ok-Run.field-0-is at c.in-Ok-Run.ensures.exact in
    none_named (form_of (map string_bytes c.args.words.now)) (g.H.Shelf.files c.args.shelf.now) _ _ _ _ _ (λ file. not_run _ _ file e)

pub returns-in-Ok-Run-clause-dropped : goal.returns-in-Ok-Run-clause-dropped
returns-in-Ok-Run-clause-dropped g c =
    let e = rw c.in-Ok-Run.field-0-is at c.in-Ok-Run.ensures.exact in
    λ file f n. absurd (not_run _ _ file e f)

pub returns-in-Ok-Make-clause-checked : goal.returns-in-Ok-Make-clause-checked
returns-in-Ok-Make-clause-checked g c =
    let e = rw c.in-Ok-Make.field-0-is at c.in-Ok-Make.ensures.exact in
    none_named (form_of (map string_bytes c.args.words.now)) (g.H.Shelf.files c.args.shelf.now) _ _ _ _ _ (λ file. not_made _ _ file e)

pub returns-in-Ok-Make-clause-dropped : goal.returns-in-Ok-Make-clause-dropped
returns-in-Ok-Make-clause-dropped g c =
    let e = rw c.in-Ok-Make.field-0-is at c.in-Ok-Make.ensures.exact in
    λ file f n. absurd (not_made _ _ file e f)

pub returns-in-Ok-Neither-clause-checked : goal.returns-in-Ok-Neither-clause-checked
returns-in-Ok-Neither-clause-checked g c =
    let e = rw c.in-Ok-Neither.field-0-is at c.in-Ok-Neither.ensures.exact in
    none_named (form_of (map string_bytes c.args.words.now)) (g.H.Shelf.files c.args.shelf.now) _ _ _ _ _ (λ file. not_neither _ file e)

pub returns-in-Ok-Neither-clause-dropped : goal.returns-in-Ok-Neither-clause-dropped
returns-in-Ok-Neither-clause-dropped g c =
    let e = rw c.in-Ok-Neither.field-0-is at c.in-Ok-Neither.ensures.exact in
    λ file f n. absurd (not_neither _ file e f)

pub returns-in-Err-clause-checked : goal.returns-in-Err-clause-checked
returns-in-Err-clause-checked g c = λ w f k. inr (inr refl)

pub returns-in-Err-clause-dropped : goal.returns-in-Err-clause-dropped
returns-in-Err-clause-dropped g c = λ file f n. absurd (n refl)

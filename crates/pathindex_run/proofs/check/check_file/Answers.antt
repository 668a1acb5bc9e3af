use Rattle.std.proofs.Common.{◌≡◌, ℕ, List, inl, inr, refl, subst, arith, rules}
use Rattle.px_base.specs.Causes.{MayHaveRisen}
use Rattle.graph_spec.specs.declared.limits.Limits.{Limits}
use Rattle.command_line.specs.Forms.{checks}
use Rattle.index_file.specs.Reads.{ReadOutcome, Reads, holds, bad_syntax, past_limit}
use Rattle.index_file.specs.ReadSteps.{ReadsObservable, LacksFile}
use Rattle.index_file.specs.SavedFiles.{SavedFile}
use Rattle.pathindex_run.proofs.CheckLemmas.{check_shown, check_stopped, check_missing, views_status, refused_status, missing_status, views_whole, refused_whole, missing_whole, fault_whole}
use Rattle.pathindex_run.proofs.check.check_file.Goals as goal

no_syntax : (n : ℕ) (s : SavedFile) → bad_syntax n ≡ holds s → ⊥
no_syntax n s e = cc

no_limit : (n : ℕ) (s : SavedFile) → past_limit n ≡ holds s → ⊥
no_limit n s e = cc

abbrev OneOutcome : Limits → Type 0
OneOutcome m = (text : List ℕ) (a b : ReadOutcome) → Reads m text a → Reads m text b → a ≡ b

-- ---- the file was read

pub returns-in-Ok-clause-does : goal.returns-in-Ok-clause-does
returns-in-Ok-clause-does g c =
    let files = g.H.Shelf.files c.args.shelf.now in
    let name = c.args.name.now in
    check_shown files name (holds c.in-Ok.saved) _ _ _
    (subst (λ (m : Limits). ReadsObservable m files name (holds c.in-Ok.saved)) c.program.ensures c.in-Ok.ensures.read) c.check_views.ensures.does

pub returns-in-Ok-clause-status : goal.returns-in-Ok-clause-status
returns-in-Ok-clause-status g c =
    let same : g.H.Shelf.faults c.read.new.shelf ≡ g.H.Shelf.faults c.args.shelf.now = search rules in
    views_status c.args.name.now (g.H.Shelf.files c.args.shelf.now) _ _ _ _ _ c.check_views.ensures.ends same c.check_views.ensures.sink c.check_views.ensures.kept

pub returns-in-Ok-clause-whole : goal.returns-in-Ok-clause-whole
returns-in-Ok-clause-whole g c =
    views_whole (checks c.args.name.now) (g.H.Shelf.files c.args.shelf.now) _ _ _ _ _ c.check_views.ensures.ends c.check_views.ensures.sink

-- ---- a line of it was refused

pub returns-in-Err-Syntax-clause-does : goal.returns-in-Err-Syntax-clause-does
returns-in-Err-Syntax-clause-does g c =
    let files = g.H.Shelf.files c.args.shelf.now in
    let name = c.args.name.now in
    let line = c.in-Err-Syntax.line in
    check_shown files name (bad_syntax line) _ _ _
    (subst (λ (m : Limits). ReadsObservable m files name (bad_syntax line)) c.program.ensures (rw c.in-Err-Syntax.field-0-is at c.in-Err-Syntax.ensures.refused))
    (inl c.show_refusal.ensures.does)

pub returns-in-Err-Syntax-clause-status : goal.returns-in-Err-Syntax-clause-status
returns-in-Err-Syntax-clause-status g c =
    let same : g.H.Shelf.faults c.read.new.shelf ≡ g.H.Shelf.faults c.args.shelf.now = search rules in
    refused_status c.args.name.now _ _ _ (g.H.Shelf.files c.args.shelf.now) _ _ _ _ _ c.show_refusal.ensures.does same c.show_refusal.ensures.sink c.show_refusal.ensures.kept

pub returns-in-Err-Syntax-clause-whole : goal.returns-in-Err-Syntax-clause-whole
returns-in-Err-Syntax-clause-whole g c =
    let files = g.H.Shelf.files c.args.shelf.now in
    let name = c.args.name.now in
    let line = c.in-Err-Syntax.line in
    refused_whole files name (bad_syntax line) _ _ _ _ _
    (subst (λ (m : Limits). ReadsObservable m files name (bad_syntax line)) c.program.ensures (rw c.in-Err-Syntax.field-0-is at c.in-Err-Syntax.ensures.refused))
    (no_syntax line) (subst OneOutcome c.program.ensures c.read.ensures.once)

pub returns-in-Err-Limit-clause-does : goal.returns-in-Err-Limit-clause-does
returns-in-Err-Limit-clause-does g c =
    let files = g.H.Shelf.files c.args.shelf.now in
    let name = c.args.name.now in
    let line = c.in-Err-Limit.line in
    check_shown files name (past_limit line) _ _ _
    (subst (λ (m : Limits). ReadsObservable m files name (past_limit line)) c.program.ensures (rw c.in-Err-Limit.field-0-is at c.in-Err-Limit.ensures.refused))
    (inl c.show_refusal-in-Err-Limit.ensures.does)

pub returns-in-Err-Limit-clause-status : goal.returns-in-Err-Limit-clause-status
returns-in-Err-Limit-clause-status g c =
    let same : g.H.Shelf.faults c.read.new.shelf ≡ g.H.Shelf.faults c.args.shelf.now = search rules in
    refused_status c.args.name.now _ _ _ (g.H.Shelf.files c.args.shelf.now) _ _ _ _ _ c.show_refusal-in-Err-Limit.ensures.does same
    c.show_refusal-in-Err-Limit.ensures.sink c.show_refusal-in-Err-Limit.ensures.kept

pub returns-in-Err-Limit-clause-whole : goal.returns-in-Err-Limit-clause-whole
returns-in-Err-Limit-clause-whole g c =
    let files = g.H.Shelf.files c.args.shelf.now in
    let name = c.args.name.now in
    let line = c.in-Err-Limit.line in
    refused_whole files name (past_limit line) _ _ _ _ _
    (subst (λ (m : Limits). ReadsObservable m files name (past_limit line)) c.program.ensures (rw c.in-Err-Limit.field-0-is at c.in-Err-Limit.ensures.refused))
    (no_limit line) (subst OneOutcome c.program.ensures c.read.ensures.once)

-- ---- it isn't there, couldn't be read, or memory ran out

pub returns-in-Err-Missing-clause-does : goal.returns-in-Err-Missing-clause-does
returns-in-Err-Missing-clause-does g c = check_stopped (g.H.Shelf.files c.args.shelf.now) c.args.name.now (g.K.Sink.written c.args.sink.now) 5 (inl refl)

pub returns-in-Err-Missing-clause-status : goal.returns-in-Err-Missing-clause-status
returns-in-Err-Missing-clause-status g c =
    let files = g.H.Shelf.files c.args.shelf.now in
    let same : g.H.Shelf.faults c.read.new.shelf ≡ g.H.Shelf.faults c.args.shelf.now = search rules in
    let lacks : LacksFile files c.args.name.now = search rules in
    missing_status c.args.name.now files _ _ _ (inr (same, check_missing files c.args.name.now lacks))

pub returns-in-Err-Missing-clause-whole : goal.returns-in-Err-Missing-clause-whole
returns-in-Err-Missing-clause-whole g c =
    let files = g.H.Shelf.files c.args.shelf.now in
    let lacks : LacksFile files c.args.name.now = search rules in
    missing_whole files c.args.name.now _ _ _ _ _ lacks

pub returns-in-Err-Fault-clause-does : goal.returns-in-Err-Fault-clause-does
returns-in-Err-Fault-clause-does g c = check_stopped (g.H.Shelf.files c.args.shelf.now) c.args.name.now (g.K.Sink.written c.args.sink.now) 5 (inl refl)

pub returns-in-Err-Fault-clause-status : goal.returns-in-Err-Fault-clause-status
returns-in-Err-Fault-clause-status g c =
    let rose : MayHaveRisen (g.H.Shelf.faults c.args.shelf.now) (g.H.Shelf.faults c.read.new.shelf) = search rules in
    missing_status c.args.name.now (g.H.Shelf.files c.args.shelf.now) _ _ _ (inl rose)

pub returns-in-Err-Fault-clause-whole : goal.returns-in-Err-Fault-clause-whole
returns-in-Err-Fault-clause-whole g c =
    let rose : MayHaveRisen (g.H.Shelf.faults c.args.shelf.now) (g.H.Shelf.faults c.read.new.shelf) = search rules in
    fault_whole (checks c.args.name.now) (g.H.Shelf.files c.args.shelf.now) _ _ _ _ _ rose

pub returns-in-Err-Memory-clause-does : goal.returns-in-Err-Memory-clause-does
returns-in-Err-Memory-clause-does g c = check_stopped (g.H.Shelf.files c.args.shelf.now) c.args.name.now (g.K.Sink.written c.args.sink.now) 7 (inr refl)

pub returns-in-Err-Memory-clause-status : goal.returns-in-Err-Memory-clause-status
returns-in-Err-Memory-clause-status g c =
    let same : g.H.Shelf.faults c.read.new.shelf ≡ g.H.Shelf.faults c.args.shelf.now = search rules in
    views_status c.args.name.now (g.H.Shelf.files c.args.shelf.now) _ _ _ _ _ (inr (inr (inr refl))) same (λ e. absurd (omega (arith, e))) (λ _. refl)

pub returns-in-Err-Memory-clause-whole : goal.returns-in-Err-Memory-clause-whole
returns-in-Err-Memory-clause-whole g c = λ w f k. inr (inr refl)

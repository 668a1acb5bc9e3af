use Rattle.std.proofs.Common.{◌≡◌, ℕ, ◌+◌, ◌≤◌, arith, false, sym, refl, subst, ◌∙◌, rules}
use Rattle.px_base.specs.ReaderStates.{stream}
use Rattle.index_file.specs.Readings.{is_complete, file_of}
use Rattle.index_file.specs.Reads.{holds, bad_syntax}
use Rattle.index_file.specs.ReadSteps.{ReadsRest, ReadsAhead, TellsOutcome, place}
use Rattle.index_file.proofs.Matches.{on_ok_then, if_err_then}
use Rattle.index_file.proofs.LineLaws.{ends_complete, ends_early, tells_map}
use Rattle.index_file.proofs.reading.read_lines.Goals as goal

pub lines-init : goal.lines-init
lines-init g c = record { leads = λ o h. h; can = c.requires.can; files = refl; faults = refl }

pub lines-preserved : goal.lines-preserved
lines-preserved g c =
    let inv = c.lines.invariant in
    let goes = rw (c.in-Ok-true.is, c.in-Ok-true.field-0-test) at c.read_next.ensures.goes in
    let can = rw c.in-Ok-true.is at c.read_next.ensures.can in
    record {
      leads = λ o h. inv.leads o (goes o h);
      can = can c.in-Ok-true.field-0-test;
      files = c.read_next.ensures.same ∙ inv.files;
      faults = search rules;
    }

pub check_end-requires : goal.check_end-requires
check_end-requires g c =
    let goes = rw (c.in-Ok-false.is, c.in-Ok-false.field-0-test) at c.read_next.ensures.goes in
    let can = c.lines.invariant.can in
    let number = c.number.ensures in
    let same = goes.1 in
    let counted = can.counted in
    let within : c.lines.reader.taken ≤ 1073741824 = can.within in
    omega (arith, number, same, counted, within)

pub returns-in-Ok-false-clause-read : goal.returns-in-Ok-false-clause-read
returns-in-Ok-false-clause-read g c =
    let goes = rw (c.in-Ok-false.is, c.in-Ok-false.field-0-test) at c.read_next.ensures.goes in
    on_ok_then c.check_end.result _ _ (λ whole.
    c.lines.invariant.leads (holds (file_of c.read_next.new.draft))
    (ends_complete c.args.limits.now (stream c.lines.reader (g.H.Shelf.left c.lines.shelf)) (stream c.read_next.new.reader (g.H.Shelf.left c.read_next.new.shelf))
    (place c.lines.reader c.lines.draft) (place c.read_next.new.reader c.read_next.new.draft) goes whole)) c.check_end.ensures.complete

pub returns-in-Ok-false-clause-refused : goal.returns-in-Ok-false-clause-refused
returns-in-Ok-false-clause-refused g c =
    let goes = rw (c.in-Ok-false.is, c.in-Ok-false.field-0-test) at c.read_next.ensures.goes in
    let before = stream c.lines.reader (g.H.Shelf.left c.lines.shelf) in
    let here = ends_early c.args.limits.now before (stream c.read_next.new.reader (g.H.Shelf.left c.read_next.new.shelf)) (place c.lines.reader c.lines.draft)
    (place c.read_next.new.reader c.read_next.new.draft) goes in
    let told : (n : ℕ) → n ≡ c.read_next.new.reader.number → is_complete c.read_next.new.draft ≡ false
    → ReadsAhead c.args.limits.now before (place c.lines.reader c.lines.draft) (bad_syntax (n + 1)) =
    λ n e part. subst (λ k. ReadsAhead c.args.limits.now before (place c.lines.reader c.lines.draft) (bad_syntax (k + 1))) (sym e) (here part) in
    if_err_then c.check_end.result _ _ (λ e h.
    subst (TellsOutcome (ReadsRest c.args.limits.now c.args.reader.now (g.H.Shelf.left c.args.shelf.now) c.args.draft.now)) (sym h.0)
    (c.lines.invariant.leads (bad_syntax (c.number.result + 1)) (told c.number.result c.number.ensures h.1))) c.check_end.ensures.early

pub returns-in-Err-clause-refused : goal.returns-in-Err-clause-refused
returns-in-Err-clause-refused g c =
    tells_map _ _ c.lines.invariant.leads c.in-Err.error (rw c.in-Err.is at c.read_next.ensures.refused)

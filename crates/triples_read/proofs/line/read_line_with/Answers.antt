use Rattle.std.proofs.Common.{◌≡◌, ◌∙◌, sym, ap, inl, Ok, Some, List, ℕ}
use Rattle.triples_read.specs.ByteReaders.{past_blanks}
use Rattle.triples_read.proofs.Basics.{no_both}
use Rattle.triples_read.proofs.LineLaws.{line-stands, line-empty, empty-found, line-found}
use Rattle.triples_read.proofs.line.read_line_with.Goals as goal

-- the blanks of the line are those of its text
rest_of : (line text rest : List ℕ) → text ≡ line → rest ≡ past_blanks text → rest ≡ past_blanks line
rest_of line text rest same is = is ∙ ap past_blanks same

pub returns-then-is_over-clause-none : goal.returns-then-is_over-clause-none
returns-then-is_over-clause-none c =
    empty-found c.args.line.now c.skip_blanks-rest.result.now c.in-Ok.ensures.1 (rest_of c.args.line.now c.in-Ok.text.now c.skip_blanks-rest.result.now c.in-Ok.ensures.0 c.skip_blanks-rest.ensures) (sym c.is_over.ensures ∙ c.if-is_over.true)

pub returns-then-is_over-clause-spelled : goal.returns-then-is_over-clause-spelled
returns-then-is_over-clause-spelled c t spelled =
    let (rest, text, parts, over) = line-stands c.args.line.now c.skip_blanks-rest.result.now t (rest_of c.args.line.now c.in-Ok.text.now c.skip_blanks-rest.result.now c.in-Ok.ensures.0 c.skip_blanks-rest.ensures) spelled in
    absurd (no_both _ (sym c.is_over.ensures ∙ c.if-is_over.true) over)

pub returns-in-Ok-Some-clause-triple : goal.returns-in-Ok-Some-clause-triple
returns-in-Ok-Some-clause-triple c =
    let found = rw c.in-Ok-Some.field-0-is at c.in-Ok-Some.ensures.found in
    line-found c.args.line.now c.skip_blanks-rest.result.now c.in-Ok-Some.triple c.in-Ok.ensures.1 (rest_of c.args.line.now c.in-Ok.text.now c.skip_blanks-rest.result.now c.in-Ok.ensures.0 c.skip_blanks-rest.ensures) found

pub returns-in-Ok-Some-clause-spelled : goal.returns-in-Ok-Some-clause-spelled
returns-in-Ok-Some-clause-spelled c t spelled =
    let (rest, text, parts, over) = line-stands c.args.line.now c.skip_blanks-rest.result.now t (rest_of c.args.line.now c.in-Ok.text.now c.skip_blanks-rest.result.now c.in-Ok.ensures.0 c.skip_blanks-rest.ensures) spelled in
    let whole = rw c.in-Ok-Some.field-0-is at c.in-Ok-Some.ensures.whole in
    inl (ap (λ u. Ok (Some u)) (whole rest t text parts))

pub returns-in-Ok-Some-clause-empty : goal.returns-in-Ok-Some-clause-empty
returns-in-Ok-Some-clause-empty c empty =
    absurd (no_both _ (line-empty c.args.line.now c.skip_blanks-rest.result.now (rest_of c.args.line.now c.in-Ok.text.now c.skip_blanks-rest.result.now c.in-Ok.ensures.0 c.skip_blanks-rest.ensures) empty) (sym c.is_over.ensures ∙ c.if-is_over.false))

-- no triple is spelled where none was read
pub returns-in-Ok-None-clause-spelled : goal.returns-in-Ok-None-clause-spelled
returns-in-Ok-None-clause-spelled c t spelled =
    let (rest, text, parts, over) = line-stands c.args.line.now c.skip_blanks-rest.result.now t (rest_of c.args.line.now c.in-Ok.text.now c.skip_blanks-rest.result.now c.in-Ok.ensures.0 c.skip_blanks-rest.ensures) spelled in
    let whole = rw c.in-Ok-None.field-0-is at c.in-Ok-None.ensures.whole in
    absurd (whole rest t text parts)

pub returns-in-Ok-None-clause-empty : goal.returns-in-Ok-None-clause-empty
returns-in-Ok-None-clause-empty c empty =
    absurd (no_both _ (line-empty c.args.line.now c.skip_blanks-rest.result.now (rest_of c.args.line.now c.in-Ok.text.now c.skip_blanks-rest.result.now c.in-Ok.ensures.0 c.skip_blanks-rest.ensures) empty) (sym c.is_over.ensures ∙ c.if-is_over.false))

pub returns-in-Ok-None-clause-syntax : goal.returns-in-Ok-None-clause-syntax
returns-in-Ok-None-clause-syntax c e = (
  λ empty. no_both _ (line-empty c.args.line.now c.skip_blanks-rest.result.now (rest_of c.args.line.now c.in-Ok.text.now c.skip_blanks-rest.result.now c.in-Ok.ensures.0 c.skip_blanks-rest.ensures) empty) (sym c.is_over.ensures ∙ c.if-is_over.false),
  λ t spelled.
      let (rest, text, parts, over) = line-stands c.args.line.now c.skip_blanks-rest.result.now t (rest_of c.args.line.now c.in-Ok.text.now c.skip_blanks-rest.result.now c.in-Ok.ensures.0 c.skip_blanks-rest.ensures) spelled in
      let whole = rw c.in-Ok-None.field-0-is at c.in-Ok-None.ensures.whole in
      whole rest t text parts,
)

use Rattle.std.proofs.Common.{◌∙◌, sym}
use Rattle.triples_read.proofs.Basics.{no_both}
use Rattle.triples_read.proofs.LineLaws.{dot-found, dot-stands}
use Rattle.triples_read.proofs.line.ends_triple.Goals as goal

pub returns-in_default-clause-whole : goal.returns-in_default-clause-whole
returns-in_default-clause-whole c cs is over =
    let stands = dot-stands c.args.text.now c.skip_blanks.result.now cs is c.skip_blanks.ensures over in
    absurd (no_both _ stands.0 c.in_default.ensures)

pub returns-clause-found : goal.returns-clause-found
returns-clause-found c cs is over =
    dot-found c.args.text.now c.skip_blanks.result.now c.in-Some.behind.now c.skip_blanks-2.result.now cs is c.skip_blanks.ensures c.in-Some.ensures c.skip_blanks-2.ensures (sym c.is_over.ensures ∙ over)

pub returns-clause-whole : goal.returns-clause-whole
returns-clause-whole c cs is over =
    let stands = dot-stands c.args.text.now c.skip_blanks.result.now cs is c.skip_blanks.ensures over in
    c.is_over.ensures ∙ stands.1 c.in-Some.behind.now c.skip_blanks-2.result.now c.in-Some.ensures c.skip_blanks-2.ensures

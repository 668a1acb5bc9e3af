use Rattle.std.proofs.Common.{sym, refl}
use Rattle.keyed_quotient.proofs.Numbered.{numbered_yes, numbered_no, blockless_no}
use Rattle.keyed_quotient.proofs.keyed.block_with_number.Goals as goal

pub returns-then-has_number-clause-leads : goal.returns-then-has_number-clause-leads
returns-then-has_number-clause-leads c =
    let numbered = c.if-has_number.ensures.yes in
    numbered_yes c.args.summary.now.blocks.labels c.args.numbers.now c.args.k c.in-Some.b c.args.key.now c.requires.numbering c.requires.key (sym c.in-Some.ensures) (numbered refl).0 (numbered refl).1

pub returns-else-has_number-clause-leads : goal.returns-else-has_number-clause-leads
returns-else-has_number-clause-leads c =
    numbered_no c.args.summary.now.blocks.labels c.args.numbers.now c.args.k c.in-Some.b c.args.key.now c.requires.numbering c.requires.key (sym c.in-Some.ensures) (c.if-has_number.ensures.no refl)

pub returns-in-None-clause-leads : goal.returns-in-None-clause-leads
returns-in-None-clause-leads c = blockless_no c.args.summary.now.blocks.labels c.args.numbers.now c.args.k c.args.key.now c.requires.numbering c.requires.key (sym c.in-None.ensures)

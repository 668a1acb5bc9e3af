use Rattle.triples_read.proofs.Basics.{no_both}
use Rattle.triples_read.proofs.LineLaws.{last-found, last-stands, text-behind}
use Rattle.triples_read.proofs.line.read_last.Goals as goal

pub returns-in_default-clause-whole : goal.returns-in_default-clause-whole
returns-in_default-clause-whole c cs object is spelled =
    let (s, r, text, named, over) = last-stands c.args.text.now c.skip_blanks.result.now cs object is c.skip_blanks.ensures spelled in
    let whole = rw c.in_default.is at c.in_ok-object.ensures.whole in
    whole s r object text named over

pub returns-then-not-ends_triple-clause-whole : goal.returns-then-not-ends_triple-clause-whole
returns-then-not-ends_triple-clause-whole c cs object is spelled =
    let (s, r, text, named, over) = last-stands c.args.text.now c.skip_blanks.result.now cs object is c.skip_blanks.ensures spelled in
    let whole = rw c.in-Some.is at c.in_ok-object.ensures.whole in
    let both = whole s r object text named over in
    no_both _ (c.ends_triple.ensures.whole r (text-behind c.skip_blanks.result.now c.in-Some.rest.now s r text both.1) over) c.if-not-ends_triple.true

pub returns-clause-found : goal.returns-clause-found
returns-clause-found c cs is =
    let found = rw c.in-Some.is at c.in_ok-object.ensures.found in
    last-found c.args.text.now c.skip_blanks.result.now cs c.in-Some.rest.now c.in-Some.object is c.skip_blanks.ensures found
    (λ r text. c.ends_triple.ensures.found r text c.if-not-ends_triple.false)

pub returns-clause-whole : goal.returns-clause-whole
returns-clause-whole c cs object is spelled =
    let (s, r, text, named, over) = last-stands c.args.text.now c.skip_blanks.result.now cs object is c.skip_blanks.ensures spelled in
    let whole = rw c.in-Some.is at c.in_ok-object.ensures.whole in
    (whole s r object text named over).0

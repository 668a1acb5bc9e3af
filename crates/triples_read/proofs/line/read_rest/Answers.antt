use Rattle.triples_read.proofs.LineLaws.{rest-found, rest-stands, text-behind}
use Rattle.triples_read.proofs.line.read_rest.Goals as goal

pub returns-in_default-clause-whole : goal.returns-in_default-clause-whole
returns-in_default-clause-whole c cs predicate object is spelled =
    let (s, r, text, named, over) = rest-stands c.args.text.now c.skip_blanks.result.now cs predicate object is c.skip_blanks.ensures spelled in
    let whole = rw c.in_default.is at c.in_ok-predicate.ensures.whole in
    whole s r predicate text named

pub returns-in_default-2-clause-whole : goal.returns-in_default-2-clause-whole
returns-in_default-2-clause-whole c cs predicate object is spelled =
    let (s, r, text, named, over) = rest-stands c.args.text.now c.skip_blanks.result.now cs predicate object is c.skip_blanks.ensures spelled in
    let whole = rw c.in-Some.is at c.in_ok-predicate.ensures.whole in
    let both = whole s r predicate text named in
    let next = rw c.in_default-2.is at c.in_ok-object.ensures.whole in
    next r object (text-behind c.skip_blanks.result.now c.in-Some.rest.now s r text both.1) over

pub returns-clause-found : goal.returns-clause-found
returns-clause-found c cs is =
    let found = rw c.in-Some.is at c.in_ok-predicate.ensures.found in
    let next = rw c.in-Some-2.is at c.in_ok-object.ensures.found in
    rest-found c.args.text.now c.skip_blanks.result.now cs c.in-Some.rest.now c.in-Some.predicate c.in-Some-2.object is c.skip_blanks.ensures found next

pub returns-clause-whole : goal.returns-clause-whole
returns-clause-whole c cs predicate object is spelled =
    let (s, r, text, named, over) = rest-stands c.args.text.now c.skip_blanks.result.now cs predicate object is c.skip_blanks.ensures spelled in
    let whole = rw c.in-Some.is at c.in_ok-predicate.ensures.whole in
    let both = whole s r predicate text named in
    let next = rw c.in-Some-2.is at c.in_ok-object.ensures.whole in
    (both.0, next r object (text-behind c.skip_blanks.result.now c.in-Some.rest.now s r text both.1) over)

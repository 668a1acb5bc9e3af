use Rattle.std.proofs.Common.{◌∙◌, sym}
use Rattle.triples_read.proofs.OpeningQuotes.{iri-found, iri-whole}
use Rattle.triples_read.proofs.iri.read_iri.Goals as goal

pub returns-in_default-clause-whole : goal.returns-in_default-clause-whole
returns-in_default-clause-whole c s r iri is spelled =
    let (v, iri_is, quoted) = iri-whole c.args.text.now s r iri is.0 spelled in
    let only = rw c.in_default.is at c.in_ok-iri.ensures.only in
    only v _ quoted

pub returns-clause-found : goal.returns-clause-found
returns-clause-found c cs is =
    let found = rw c.in-Some.is at c.in_ok-iri.ensures.found in
    iri-found c.args.text.now cs found.0 c.in-Some.rest.now c.from_string.result is (c.from_string.ensures ∙ found.1) found.2

pub returns-clause-whole : goal.returns-clause-whole
returns-clause-whole c s r iri is spelled =
    let (v, iri_is, quoted) = iri-whole c.args.text.now s r iri is.0 spelled in
    let only = rw c.in-Some.is at c.in_ok-iri.ensures.only in
    let both = only v _ quoted in
    (c.from_string.ensures ∙ both.0 ∙ sym iri_is, both.1)

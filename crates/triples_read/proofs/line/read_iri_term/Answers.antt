use Rattle.std.proofs.Common.{ap}
use Rattle.triples_read.specs.declared.term.Term.TheVariants.{Iri}
use Rattle.triples_read.proofs.line.read_iri_term.Goals as goal

pub returns-in_default-clause-whole : goal.returns-in_default-clause-whole
returns-in_default-clause-whole c = rw c.in_default.is at c.in_ok-iri.ensures.whole

pub returns-clause-whole : goal.returns-clause-whole
returns-clause-whole c s r iri is spelled =
    let whole = rw c.in-Some.is at c.in_ok-iri.ensures.whole in
    let both = whole s r iri is spelled in
    (ap Iri both.0, both.1)

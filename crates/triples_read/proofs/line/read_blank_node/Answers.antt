use Rattle.std.proofs.Common.{ap}
use Rattle.triples_read.specs.declared.term.Term.TheVariants.{Blank}
use Rattle.triples_read.proofs.line.read_blank_node.Goals as goal

pub returns-in_default-clause-whole : goal.returns-in_default-clause-whole
returns-in_default-clause-whole c = rw c.in_default.is at c.in_ok-label.ensures.whole

pub returns-clause-whole : goal.returns-clause-whole
returns-clause-whole c s r label is spelled ends =
    let whole = rw c.in-Some.is at c.in_ok-label.ensures.whole in
    let both = whole s r label is spelled ends in
    (ap Blank both.0, both.1)

use Rattle.triple_names.proofs.PlaceLaws.{begins_same}
use Rattle.triple_names.proofs.StagedLaws.{interned}
use Rattle.triple_names.proofs.noting.reserve_predicate.Goals as goal

pub returns-clause-begins : goal.returns-clause-begins
returns-clause-begins c = interned c.intern.result c.args.predicates.now c.intern.new.self c.args.iri.now c.intern.ensures.added c.intern.ensures.err

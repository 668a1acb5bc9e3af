use Rattle.std.proofs.Common.{subst}
use Rattle.triples_read.specs.Lines.{IsIri}
use Rattle.triples_read.proofs.triple_test.has_predicate_and_object.Goals as goal

pub returns-then-is_iri-clause-sound : goal.returns-then-is_iri-clause-sound
returns-then-is_iri-clause-sound c e =
    let iri = c.is_iri.ensures.spelled in
    let object = c.is_object.ensures.sound e in
    (iri.0, object.0, subst (IsIri iri.0) c.as_str.ensures iri.1, object.1)

use Rattle.std.proofs.Math.Utf8.{encodes}
use Rattle.triples_read.specs.Canonical.{triple_text}
use Rattle.triples_read.proofs.CanonicalLaws.{parts_spelled, spelled-parts}
use Rattle.triples_read.proofs.triple_test.is_triple.Goals as goal

pub returns-then-is_subject-clause-sound : goal.returns-then-is_subject-clause-sound
returns-then-is_subject-clause-sound c e =
    let subject = c.is_subject.ensures.sound c.if-is_subject.true in
    let rest = c.has_predicate_and_object.ensures.sound e in
    (encodes (triple_text c.args.t.now), parts_spelled c.args.t.now subject.0 rest.0 rest.1 subject.1 rest.2 rest.3)

pub returns-then-is_subject-clause-complete : goal.returns-then-is_subject-clause-complete
returns-then-is_subject-clause-complete c spelled =
    let parts = spelled-parts c.args.t.now spelled in
    c.has_predicate_and_object.ensures.complete parts.1 parts.3

pub returns-else-is_subject-clause-complete : goal.returns-else-is_subject-clause-complete
returns-else-is_subject-clause-complete c spelled =
    let parts = spelled-parts c.args.t.now spelled in
    c.is_subject.ensures.complete parts.0 parts.2

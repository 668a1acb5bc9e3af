use Rattle.triples_read.proofs.CanonicalLaws.{iri_of_text}
use Rattle.triples_read.proofs.triple_test.is_iri.Goals as goal

pub returns-clause-spelled : goal.returns-clause-spelled
returns-clause-spelled c = iri_of_text c.args._text.now c.utf8._text

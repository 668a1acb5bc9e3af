use Rattle.triples_read.proofs.CanonicalLaws.{string_of_text}
use Rattle.triples_read.proofs.triple_test.is_string.Goals as goal

pub returns-clause-spelled : goal.returns-clause-spelled
returns-clause-spelled c = string_of_text c.args._text.now c.utf8._text

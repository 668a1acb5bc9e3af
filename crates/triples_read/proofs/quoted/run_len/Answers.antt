use Rattle.triples_read.proofs.BodyPieces.{position-none}
use Rattle.triples_read.proofs.quoted.run_len.Goals as goal

pub returns-in-None-clause-is : goal.returns-in-None-clause-is
returns-in-None-clause-is c = position-none _ c.args.bytes.now c.in-None.ensures

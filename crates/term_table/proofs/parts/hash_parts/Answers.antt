use Rattle.std.proofs.Common.{rules}
use Rattle.term_table.specs.TermParts.{hash_of}
use Rattle.term_table.proofs.parts.hash_parts.Goals as goal

pub returns : goal.returns
unfolding hash_of
returns c = search rules

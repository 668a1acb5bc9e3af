use Rattle.std.proofs.Common.{rules}
use Rattle.key_table.specs.Hashes.{hash_of}
use Rattle.key_table.proofs.hashing.hash_key.Goals as goal

pub returns : goal.returns
unfolding hash_of
returns c = search rules

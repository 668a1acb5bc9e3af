use Rattle.std.proofs.Common.{refl}
use Rattle.key_table.specs.Hashes.{spread_of}
use Rattle.key_table.proofs.hashing.spread.Goals as goal

pub returns : goal.returns
unfolding spread_of
returns c = refl

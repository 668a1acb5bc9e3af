use Rattle.std.proofs.Common.{refl}
use Rattle.key_table.specs.Hashes.{mix_of}
use Rattle.key_table.proofs.hashing.mix.Goals as goal

pub returns : goal.returns
unfolding mix_of
returns c = refl

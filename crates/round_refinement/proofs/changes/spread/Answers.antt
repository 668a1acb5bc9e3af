use Rattle.std.proofs.Common.{refl}
use Rattle.round_refinement.specs.Changes.{spread_of}
use Rattle.round_refinement.proofs.changes.spread.Goals as goal

pub returns : goal.returns
unfolding spread_of
returns c = refl

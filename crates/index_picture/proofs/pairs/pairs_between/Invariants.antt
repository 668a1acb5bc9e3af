use Rattle.std.proofs.Common.{◌≡◌, take}
use Rattle.std.specs.List.{flat_map}
use Rattle.index_picture.specs.DrawnBlocks.{pair_of}
use Rattle.index_picture.proofs.pairs.pairs_between.Given as goal

abbrev pub invariant-loop-from : goal.invariant-loop-from
invariant-loop-from l = l.pairs.items ≡ flat_map (λ a. flat_map (pair_of l.summary a) l.blocks) (take l.from-index l.blocks)

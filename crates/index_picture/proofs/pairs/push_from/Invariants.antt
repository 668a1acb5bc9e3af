use Rattle.std.proofs.Common.{◌≡◌, ◌++◌, take}
use Rattle.std.specs.List.{flat_map}
use Rattle.index_picture.specs.DrawnBlocks.{pair_of}
use Rattle.index_picture.proofs.pairs.push_from.Given as goal

abbrev pub invariant-loop-onto : goal.invariant-loop-onto
invariant-loop-onto l = l.pairs.items ≡ l.fn.pairs.items ++ flat_map (pair_of l.summary l.from) (take l.onto-index l.blocks)

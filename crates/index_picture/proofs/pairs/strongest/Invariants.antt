use Rattle.std.proofs.Common.{◌≡◌, drop}
use Rattle.index_picture.specs.DrawnBlocks.{heaviest_with, heaviest, no_pair}
use Rattle.index_picture.proofs.pairs.strongest.Given as goal

abbrev pub invariant-loop-pair : goal.invariant-loop-pair
invariant-loop-pair l =
    heaviest_with l.most (λ p. p.support) no_pair l.kept.items (drop l.pair-index l.pairs) ≡ heaviest l.most (λ p. p.support) no_pair l.pairs

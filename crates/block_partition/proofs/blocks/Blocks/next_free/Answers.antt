use Rattle.std.proofs.Common.{◌≡◌, ◌∙◌, sym, arith, length}
use Rattle.block_partition.proofs.FreedNumbers.{all_counted}
use Rattle.block_partition.proofs.blocks.Blocks.next_free.Goals as goal

pub returns-then-len-clause-passed : goal.returns-then-len-clause-passed
returns-then-len-clause-passed c = rw (← c.self.view_is) (λ d low high.
    let s = c.self.inside in
    let len : length s.live.numbers ≡ length s.labels.items = omega arith in
    let end = c.max.ensures in
    all_counted s.labels.items (sym c.self.invariant.counted.count_is ∙ len) d (omega (arith, low, high, end, len)))

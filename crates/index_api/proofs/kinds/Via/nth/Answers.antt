use Rattle.std.proofs.Common.{◌+◌, ◌*◌, ◌-◌, sym, arith}
use Rattle.index_api.proofs.ListedIndexes.{level_stands, one_stands, fb_stands, bounded_stands, nothing_past}
use Rattle.index_api.proofs.kinds.Via.nth.Goals as goal

pub returns-then-n-k : goal.returns-then-n-k
returns-then-n-k c = sym (level_stands c.args.k c.args.n c.if-n-k.true)

pub returns-then-n-k-2 : goal.returns-then-n-k-2
returns-then-n-k-2 c = sym (one_stands c.args.k c.args.n c.if-n-k-2.true)

pub returns-then-n-k-3 : goal.returns-then-n-k-3
returns-then-n-k-3 c = sym (fb_stands c.args.k c.args.n c.if-n-k-3.true)

pub returns-then-n-k-4 : goal.returns-then-n-k-4
returns-then-n-k-4 c =
    sym (bounded_stands c.args.k (c.args.n - c.args.k - 3) c.args.n (omega (arith, c.if-n-k.false, c.if-n-k-2.false, c.if-n-k-3.false)) (omega (arith, c.if-n-k-4.true)))

pub returns-else-n-k-4 : goal.returns-else-n-k-4
returns-else-n-k-4 c =
    sym (nothing_past c.args.k (c.args.n - (2 * c.args.k + 4)) c.args.n (omega (arith, c.if-n-k.false, c.if-n-k-2.false, c.if-n-k-3.false, c.if-n-k-4.false)))

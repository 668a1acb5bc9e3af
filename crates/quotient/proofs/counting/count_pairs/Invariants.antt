use Rattle.std.proofs.Common.{ℕ, ◌≡◌, ◌+◌, take}
use Rattle.bisim_spec.specs.IndexGraphs.{support_at}
use Rattle.quotient.specs.QuotientNeighbours.{pairs_with}
use Rattle.quotient.proofs.counting.count_pairs.Given as goal

abbrev pub invariant-loop-a : goal.invariant-loop-a
invariant-loop-a l = (x y : ℕ) → support_at l.supports.pairs x y ≡ support_at l.fn.supports.pairs x y + pairs_with (take l.a-index l.pairs) x y

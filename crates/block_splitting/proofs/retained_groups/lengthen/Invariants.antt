use Rattle.std.proofs.Common.{◌≤◌, vec_len}
use Rattle.block_splitting.proofs.retained_groups.lengthen.Given as goal

abbrev pub invariant-places : goal.invariant-places
invariant-places l = l.counter ≤ vec_len l.retained

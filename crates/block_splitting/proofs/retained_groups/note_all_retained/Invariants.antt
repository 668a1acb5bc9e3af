use Rattle.std.proofs.Common.{◌≤◌, vec_len}
use Rattle.block_splitting.specs.Chosen.{RetainedBelow}
use Rattle.block_splitting.proofs.retained_groups.note_all_retained.Given as goal

abbrev pub invariant-loop-k : goal.invariant-loop-k
invariant-loop-k l = record {
  long : l.span ≤ vec_len l.retained;
  retained_groups : RetainedBelow l.keys l.k l.retained.items;
}

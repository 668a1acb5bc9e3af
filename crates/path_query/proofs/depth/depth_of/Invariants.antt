use Rattle.std.proofs.Common.{◌≡◌, ◌≤◌, max, drop}
use Rattle.path_query.specs.Depths.{nesting, nesting_from}
use Rattle.path_query.proofs.depth.depth_of.Given as goal

abbrev pub invariant-loop-byte : goal.invariant-loop-byte
invariant-loop-byte l = record {
  so_far : max l.most (nesting_from l.nesting (drop l.byte-index l.text)) ≡ nesting l.text;
  opened : l.nesting.opened ≤ l.byte-index;
  closed : l.nesting.closed ≤ l.byte-index;
}

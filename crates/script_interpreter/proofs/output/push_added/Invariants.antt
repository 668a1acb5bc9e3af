use Rattle.std.proofs.Common.{◌≡◌, ◌++◌, ◌+◌, ◌≤◌}
use Rattle.extent_report.specs.ListedBlocks.{texts_below}
use Rattle.script_interpreter.specs.LineTexts.{added_line}
use Rattle.script_interpreter.proofs.output.push_added.Given as goal

abbrev pub invariant-nodes : goal.invariant-nodes
invariant-nodes l = record {
  written : l.out.items ≡ l.fn.out.items ++ texts_below l.i (λ i. added_line (l.fn.applied.first + i));
  applied : l.applied ≡ l.fn.applied;
  last : l.i-end ≡ l.fn.applied.added;
  most : l.i ≤ l.i-end;
}

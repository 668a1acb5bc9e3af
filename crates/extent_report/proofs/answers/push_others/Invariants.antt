use Rattle.std.proofs.Common.{◌≡◌, ◌++◌, ◌-◌, ◌≤◌, ◌+◌}
use Rattle.std.specs.Prelude.{string_bytes}
use Rattle.extent_report.specs.NodeTexts.{others_text, members_from}
use Rattle.extent_report.proofs.answers.push_others.Given as goal

abbrev pub invariant-loop-node : goal.invariant-loop-node
invariant-loop-node l = record {
  text : string_bytes l.out ++ others_text (members_from l.nodes.members l.from) ≡ string_bytes l.fn.out ++ others_text (members_from l.nodes.members (l.first + 1));
  within : l.from ≤ l.nodes.size;
}

abbrev pub decreases-loop-node : goal.decreases-loop-node
decreases-loop-node l = l.nodes.size - l.from

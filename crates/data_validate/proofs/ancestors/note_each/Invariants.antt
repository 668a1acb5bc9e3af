use Rattle.std.proofs.Common.{◌≡◌, take}
use Rattle.graph_spec.specs.Members.{has}
use Rattle.data_validate.specs.Ancestors.{IsNoted}
use Rattle.data_validate.proofs.ancestors.note_each.Given as goal

abbrev pub invariant-loop-i : goal.invariant-loop-i
invariant-loop-i l = record {
  size : l.met.size ≡ l.initial.met.size;
  noted : IsNoted (has (take l.i l.nodes)) l.initial.met.members l.initial.found.items l.met.members l.found.items;
}

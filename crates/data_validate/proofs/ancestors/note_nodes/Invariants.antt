use Rattle.std.proofs.Common.{◌≡◌, ◌≤◌, ◌-◌}
use Rattle.std.specs.Prelude.{is_some}
use Rattle.data_validate.specs.Ancestors.{IsNoted}
use Rattle.data_validate.proofs.RisingTests.{is_kept}
use Rattle.data_validate.proofs.ancestors.note_nodes.Given as goal

abbrev pub invariant-members : goal.invariant-members
invariant-members g l = record {
  within : l.from ≤ l.set.size;
  size : l.met.size ≡ l.initial.met.size;
  noted : IsNoted (is_kept l.set.members (λ c. is_some (g.G.Digraph.label_at l.g c)) l.from) l.initial.met.members l.initial.found.items l.met.members l.found.items;
}

abbrev pub decreases-members : goal.decreases-members
decreases-members g l = l.set.size - l.from

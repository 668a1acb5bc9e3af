use Rattle.std.proofs.Common.{◌≡◌, length}
use Rattle.std.specs.List.{list_all}
use Rattle.graph_spec.specs.Members.{has}
use Rattle.block_splitting.proofs.choosing.all_contained.Given as goal

abbrev pub invariant-members : goal.invariant-members
invariant-members l = list_all (has l.active_nodes.nodes) l.members ≡ list_all (has l.active_nodes.nodes) l.initial.members

abbrev pub decreases-members : goal.decreases-members
decreases-members l = length l.members

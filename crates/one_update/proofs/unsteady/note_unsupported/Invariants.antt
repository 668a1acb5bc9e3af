use Rattle.std.proofs.Common.{◌≡◌, ◌++◌, length}
use Rattle.one_update.specs.UnsteadyNodes.{unsupported_ends}
use Rattle.one_update.proofs.unsteady.note_unsupported.Given as goal

abbrev pub invariant-loop-edge : goal.invariant-loop-edge
invariant-loop-edge l = l.nodes.items ++ unsupported_ends l.base l.left ≡ l.initial.nodes.items ++ unsupported_ends l.base l.added

abbrev pub decreases-loop-edge : goal.decreases-loop-edge
decreases-loop-edge l = length l.left

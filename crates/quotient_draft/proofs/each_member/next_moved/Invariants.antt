use Rattle.std.proofs.Common.{◌≡◌, length, filter}
use Rattle.quotient_draft.specs.PutLogs.{is_moved_to}
use Rattle.quotient_draft.proofs.each_member.next_moved.Given as goal

abbrev pub invariant-nodes : goal.invariant-nodes
invariant-nodes l = filter (is_moved_to l.moves.moves l.b) l.nodes.now ≡ filter (is_moved_to l.moves.moves l.b) l.initial.nodes.now

abbrev pub decreases-nodes : goal.decreases-nodes
decreases-nodes l = length l.nodes.now

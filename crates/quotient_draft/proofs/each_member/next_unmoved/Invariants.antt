use Rattle.std.proofs.Common.{◌≡◌, length, filter}
use Rattle.quotient_draft.specs.ShownMembers.{is_unmoved}
use Rattle.quotient_draft.proofs.each_member.next_unmoved.Given as goal

abbrev pub invariant-members : goal.invariant-members
invariant-members l = filter (is_unmoved l.moves.moves) l.members ≡ filter (is_unmoved l.moves.moves) l.initial.members

abbrev pub decreases-members : goal.decreases-members
decreases-members l = length l.members

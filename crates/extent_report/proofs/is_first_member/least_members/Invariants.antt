use Rattle.std.proofs.Common.{◌≡◌, ℕ, take}
use Rattle.std.specs.List.{list_any}
use Rattle.graph_spec.specs.Members.{has}
use Rattle.extent_report.specs.FirstMembers.{first_member_block}
use Rattle.extent_report.proofs.is_first_member.least_members.Given as goal

abbrev pub invariant-loop-b : goal.invariant-loop-b
invariant-loop-b l = (n : ℕ) → has l.list.items n ≡ list_any (λ b. first_member_block l.summary.blocks b n) (take l.b-index l.b-items)

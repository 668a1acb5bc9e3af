use Rattle.std.proofs.Common.{◌||◌, ap, ◌∙◌}
use Rattle.graph_spec.specs.Members.{has}
use Rattle.block_partition.specs.LabelledPartitions.{is_member}
use Rattle.graph_spec.proofs.MemberLaws.{or_false}
use Rattle.extent_report.proofs.is_first_member.fill_members.Goals as goal

pub returns-clause-members : goal.returns-clause-members
returns-clause-members c = λ n.
    c.sort_dedup.ensures.same n ∙ c.in_ok-push_members.ensures n
    ∙ ap (λ l. is_member c.args.summary.now.blocks c.args.b n || has l n) c.clear.ensures.items
    ∙ or_false (is_member c.args.summary.now.blocks c.args.b n)

use Rattle.std.proofs.Common.{◌||◌, ◌∙◌, ap}
use Rattle.std.proofs.lemmas.Result.{on_ok_weaker}
use Rattle.graph_spec.specs.Members.{has}
use Rattle.extent_report.proofs.LeastMembers.{least_is}
use Rattle.extent_report.proofs.is_first_member.push_least.Goals as goal

pub returns : goal.returns
returns c =
    let least = least_is c.args.summary.now.blocks c.args.b c.fill_members.new.list.items c.deref.result.now c.requires.block
    c.in_ok-fill_members.ensures.rising c.in_ok-fill_members.ensures.members c.deref.ensures.value in
    on_ok_weaker c.push_head.result (λ h n. h n ∙ ap (λ t. t || has c.args.list.now.items n) (least n)) c.push_head.ensures

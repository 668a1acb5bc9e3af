use Rattle.std.proofs.Common.{◌≡◌, ◌∙◌, ap, arith, length, take}
use Rattle.std.proofs.Math.Seq.{take-length}
use Rattle.std.specs.List.{list_any}
use Rattle.extent_report.specs.FirstMembers.{first_member_block}
use Rattle.extent_report.proofs.LeastMembers.{first_member_some}
use Rattle.extent_report.proofs.is_first_member.least_members.Goals as goal

pub returns : goal.returns
returns c =
    let p = c.args.summary.now.blocks in
    let live = c.live-b-items.result.now in
    let end : c.loop-b.b-index ≡ length live = (let a = c.loop-b-test.false in let b = c.loop-b.auto.b-index-end in omega (arith, a, b)) in
    λ n.
    c.loop-b.invariant n
    ∙ ap (λ k. list_any (λ b. first_member_block p b n) (take k live)) end
    ∙ ap (list_any (λ b. first_member_block p b n)) (take-length live)
    ∙ first_member_some p live n c.live-b-items.ensures.blocks.members

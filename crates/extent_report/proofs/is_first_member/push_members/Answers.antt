use Rattle.std.proofs.Common.{◌||◌, ap, sym, ◌∙◌}
use Rattle.std.specs.Prelude.{nat_eq}
use Rattle.graph_spec.specs.Members.{has}
use Rattle.block_partition.specs.LabelledPartitions.{is_member}
use Rattle.graph_spec.proofs.MemberLaws.{has_push}
use Rattle.extent_report.proofs.RisingLists.{moved_over}
use Rattle.extent_report.proofs.is_first_member.push_members.Goals as goal

pub loop-n-preserved : goal.loop-n-preserved
loop-n-preserved c =
    let n = c.in-Some.n in
    let rest = c.next.new.self in
    let list = c.loop-n.list.items in
    record {
      next = tt;
      finite = tt;
      members = λ m.
          ap (λ t. has rest m || t) (ap (λ l. has l m) c.in_ok-push.ensures.items ∙ has_push list n m)
          ∙ moved_over (nat_eq m n) (has rest m) (has list m) (is_member c.args.summary.now.blocks c.args.b m || has c.args.list.now.items m)
          (ap (λ l. has l m || has list m) (sym c.in-Some.ensures.steps) ∙ c.loop-n.invariant.members m);
    }

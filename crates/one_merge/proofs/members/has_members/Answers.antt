use Rattle.std.proofs.Common.{◌<◌, arith, count_by, nat_lt}
use Rattle.std.proofs.lemmas.Bool.{both_ways}
use Rattle.std.proofs.lemmas.Bool.Decides.{Decides-ltb}
use Rattle.graph_spec.specs.Members.{is_this}
use Rattle.quotient_draft.specs.Drafts.{shown_blocks}
use Rattle.one_merge.proofs.Counted.{counted_member, member_get, none_counted}
use Rattle.one_merge.proofs.members.has_members.Goals as goal

pub returns-clause-yes : goal.returns-clause-yes
returns-clause-yes c = λ h.
    let block = shown_blocks c.args.base.now c.args.draft.now in
    let more = (Decides-ltb 0 c.member_count.result).0 h in
    let e = c.member_count.ensures.count in
    let some : 0 < count_by (is_this c.args.b) block = omega (arith, more, e) in
    member_get block c.args.b (counted_member block c.args.b some)

pub returns-clause-no : goal.returns-clause-no
returns-clause-no c = λ h n.
    none_counted (shown_blocks c.args.base.now c.args.draft.now) c.args.b n (λ some.
    let e = c.member_count.ensures.count in
    let more : 0 < c.member_count.result = omega (arith, some, e) in
    both_ways (nat_lt 0 c.member_count.result) h ((Decides-ltb 0 c.member_count.result).1 more))

use Rattle.std.proofs.Common.{sym, ◌∙◌, arith}
use Rattle.bisim_spec.proofs.Together.{block_below}
use Rattle.extent_report.proofs.Chained.{first_member_first, first_member_not, read, same_value}
use Rattle.extent_report.proofs.member_chains.Chains.block_begun_by.Goals as goal

pub returns-then-eq-clause-is_first_member : goal.returns-then-eq-clause-is_first_member
returns-then-eq-clause-is_first_member c =
    let p = c.self.inside.summary.now.blocks in
    let first = c.self.inside.first.items in
    let b = c.in_ok-b.b in
    let span = block_below p.labels b c.in_ok-b.ensures.live in
    let all = c.self.invariant.all in
    let v = read first b c.index.result.now (omega (arith, span, all)) c.index.ensures in
    rw (← c.self.view_is)
    (sym (first_member_first p first c.self.inside.next.items c.args.n b c.self.invariant.chained (sym c.in_ok-b.ensures.block) c.in_ok-b.ensures.live
    (v ∙ (same_value c.index.result.now c.args.n c.eq.result c.eq.ensures).0 c.if-eq.true)))

pub returns-else-eq-clause-is_first_member : goal.returns-else-eq-clause-is_first_member
returns-else-eq-clause-is_first_member c =
    let p = c.self.inside.summary.now.blocks in
    let first = c.self.inside.first.items in
    let b = c.in_ok-b.b in
    let span = block_below p.labels b c.in_ok-b.ensures.live in
    let all = c.self.invariant.all in
    let v = read first b c.index.result.now (omega (arith, span, all)) c.index.ensures in
    rw (← c.self.view_is)
    (sym (first_member_not p first c.self.inside.next.items c.args.n b c.self.invariant.chained (sym c.in_ok-b.ensures.block)
    (λ e. (same_value c.index.result.now c.args.n c.eq.result c.eq.ensures).1 c.if-eq.false (sym v ∙ e))))

use Rattle.std.specs.Prelude.{nat_lt}
use Rattle.bisim_spec.specs.IndexGraphs.{support_at}
use Rattle.quotient_draft.specs.Drafts.{with_supports}
use Rattle.quotient_draft.proofs.NextBlocks.{next_start, next_more, next_all}
use Rattle.quotient_draft.proofs.next.next_child_in.Goals as goal

pub loop-i-init : goal.loop-i-init
loop-i-init c = λ seen. next_start seen (λ b. nat_lt 0 (support_at (with_supports c.args.base.now.supports c.args.changed.now) c.args.a b)) c.args.blocks.now c.args.from c.args.next

pub loop-i-preserved : goal.loop-i-preserved
loop-i-preserved c = λ seen first.
    next_more seen (λ b. nat_lt 0 (support_at (with_supports c.args.base.now.supports c.args.changed.now) c.args.a b)) c.args.blocks.now c.loop-i.i 0 c.args.from c.loop-i.found c.lesser_child-found.result
    c.loop-i-test.true c.lesser_child-found.ensures (c.loop-i.invariant seen first)

pub returns : goal.returns
returns c = λ seen first.
    next_all seen (λ b. nat_lt 0 (support_at (with_supports c.args.base.now.supports c.args.changed.now) c.args.a b)) c.args.blocks.now c.loop-i.i c.args.from c.loop-i.found
    c.loop-i-test.false (c.loop-i.invariant seen first)

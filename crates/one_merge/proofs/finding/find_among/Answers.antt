use Rattle.std.proofs.Common.{rules}
use Rattle.one_merge.specs.ShownMerges.{AreShownNotMergeable}
use Rattle.one_merge.proofs.MergePairLaws.{more_hold, take_end}
use Rattle.one_merge.proofs.finding.find_among.Goals as goal

pub loop-i-preserved : goal.loop-i-preserved
loop-i-preserved c =
    more_hold (AreShownNotMergeable c.args.base.now c.args.draft.now c.args.a) c.args.blocks.now c.loop-i.i 0 c.loop-i-test.true c.loop-i.invariant (c.is_mergeable.ensures.no (search rules))

pub returns-clause-none : goal.returns-clause-none
returns-clause-none c = λ b h. c.loop-i.invariant b (take_end c.args.blocks.now c.loop-i.i b c.loop-i-test.false h)

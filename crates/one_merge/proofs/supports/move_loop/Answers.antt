use Rattle.std.proofs.Common.{rules, arith}
use Rattle.quotient_draft.specs.Drafts.{shown_support}
use Rattle.one_merge.proofs.MergedLoops.{loop_none, loop_set}
use Rattle.one_merge.proofs.supports.move_loop.Goals as goal

pub returns-then-gone-eq0-clause-supports : goal.returns-then-gone-eq0-clause-supports
returns-then-gone-eq0-clause-supports c = λ x y.
    loop_none c.args.a c.args.b (shown_support c.args.base.now c.args.draft.now) x y c.requires.apart (search rules)

pub returns-clause-supports : goal.returns-clause-supports
returns-clause-supports c =
    let first = c.support.ensures in
    let second = c.support-gone.ensures in
    loop_set c.args.a c.args.b _ (shown_support c.args.base.now c.args.draft.now) (shown_support c.args.base.now c.set_support.new.self)
    (shown_support c.args.base.now c.set_support-2.new.self) (omega (arith, first, second)) c.in_ok-set_support.ensures.set c.in_ok-set_support-2.ensures.set

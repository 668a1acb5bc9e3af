use Rattle.std.proofs.Common.{arith}
use Rattle.one_update.proofs.PendingChanges.{unlink_unsteady, unlink_light, unlink_still}
use Rattle.one_update.proofs.drafting.drop_edge.Goals as goal

pub returns-in_err-draft_unlink-clause-cost : goal.returns-in_err-draft_unlink-clause-cost
returns-in_err-draft_unlink-clause-cost g c =
    let light = unlink_light c.args.after.now c.args.base.now c.args.u c.args.v c.requires.before c.requires.unlinks in
    let cost = c.draft_unlink.ensures.cost in
    omega (arith, light, cost)

pub returns-then-branch-clause-drafted : goal.returns-then-branch-clause-drafted
returns-then-branch-clause-drafted g c =
    unlink_still c.args.after.now c.args.base.now c.draft_unlink.new.draft c.args.u c.args.v c.requires.before c.requires.unlinks c.in_ok-draft_unlink.ensures.alone
    (c.in_ok-draft_unlink.ensures.yes c.if-branch.true) c.in_ok-draft_unlink.ensures.changed

pub returns-then-branch-clause-cost : goal.returns-then-branch-clause-cost
returns-then-branch-clause-cost g c =
    let light = unlink_light c.args.after.now c.args.base.now c.args.u c.args.v c.requires.before c.requires.unlinks in
    let cost = c.draft_unlink.ensures.cost in
    omega (arith, light, cost)

pub returns-clause-cost : goal.returns-clause-cost
returns-clause-cost g c =
    let light = unlink_light c.args.after.now c.args.base.now c.args.u c.args.v c.requires.before c.requires.unlinks in
    let cost = c.draft_unlink.ensures.cost in
    let rest = c.resettle.ensures.cost in
    omega (arith, light, cost, rest)

pub resettle-requires-clause-targets : goal.resettle-requires-clause-targets
resettle-requires-clause-targets g c = unlink_unsteady c.args.after.now c.args.base.now c.args.u c.args.v c.requires.before c.requires.unlinks

pub returns-in_err-note_touched-clause-cost : goal.returns-in_err-note_touched-clause-cost
returns-in_err-note_touched-clause-cost g c =
    let light = unlink_light c.args.after.now c.args.base.now c.args.u c.args.v c.requires.before c.requires.unlinks in
    let cost = c.draft_unlink.ensures.cost in
    omega (arith, light, cost)

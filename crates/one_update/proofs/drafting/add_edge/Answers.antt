use Rattle.one_update.proofs.PendingChanges.{link_unsteady, link_still}
use Rattle.one_update.proofs.drafting.add_edge.Goals as goal

pub returns-then-branch-clause-drafted : goal.returns-then-branch-clause-drafted
returns-then-branch-clause-drafted g c =
    link_still c.args.after.now c.args.base.now c.draft_link.new.draft c.args.u c.args.v c.requires.before c.requires.links c.in_ok-draft_link.ensures.alone
    (c.in_ok-draft_link.ensures.yes c.if-branch.true) c.in_ok-draft_link.ensures.changed

pub resettle-requires-clause-targets : goal.resettle-requires-clause-targets
resettle-requires-clause-targets g c = link_unsteady c.args.after.now c.args.base.now c.args.u c.args.v c.requires.before c.requires.links

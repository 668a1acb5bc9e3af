use Rattle.std.proofs.Common.{◌∙◌, ap, subst}
use Rattle.graph_update.specs.PendingChanges.{Pending}
use Rattle.one_update.specs.OneDrafts.{IsDrafted}
use Rattle.one_update.proofs.SettledDrafts.{drafted_fits, drafted_from, drafted_onto}
use Rattle.one_update.proofs.drafting.draft_change.Goals as goal

pub returns-clause-drafted : goal.returns-clause-drafted
returns-clause-drafted g c = subst (λ (a : Pending). IsDrafted a.before a.change c.args.base.now c.draft_pending.new.draft) c.new-after.ensures.pending c.in_ok-draft_pending.ensures.drafted

pub returns-clause-fits : goal.returns-clause-fits
returns-clause-fits g c =
    drafted_fits c.args.graph.now.graph c.args.change.now c.args.base.now c.draft_pending.new.draft
    (subst (λ (a : Pending). IsDrafted a.before a.change c.args.base.now c.draft_pending.new.draft) c.new-after.ensures.pending c.in_ok-draft_pending.ensures.drafted)

pub returns-clause-from : goal.returns-clause-from
returns-clause-from g c =
    drafted_from c.args.graph.now.graph c.args.change.now c.args.base.now c.draft_pending.new.draft
    (subst (λ (a : Pending). IsDrafted a.before a.change c.args.base.now c.draft_pending.new.draft) c.new-after.ensures.pending c.in_ok-draft_pending.ensures.drafted)

pub returns-clause-onto : goal.returns-clause-onto
returns-clause-onto g c =
    drafted_onto c.args.graph.now.graph c.args.change.now c.args.base.now c.draft_pending.new.draft
    (subst (λ (a : Pending). IsDrafted a.before a.change c.args.base.now c.draft_pending.new.draft) c.new-after.ensures.pending c.in_ok-draft_pending.ensures.drafted)

pub returns-in_err-draft_pending-clause-free : goal.returns-in_err-draft_pending-clause-free
returns-in_err-draft_pending-clause-free g c = λ u v e s. c.draft_pending.ensures.free u v (ap (λ (a : Pending). a.change) c.new-after.ensures.pending ∙ e) s

pub returns-clause-free : goal.returns-clause-free
returns-clause-free g c = λ u v e s. c.draft_pending.ensures.free u v (ap (λ (a : Pending). a.change) c.new-after.ensures.pending ∙ e) s

use Rattle.std.proofs.Common.{Some, [], ◌∷◌, ◌++◌, ◌∙◌, ap, sym, subst}
use Rattle.index_file.specs.declared.due.Due.TheVariants.{Nodes}
use Rattle.index_file.specs.SavedFiles.{seen_of}
use Rattle.index_file.specs.Readings.{Reading}
use Rattle.index_file.specs.ReadLabels.{IsOneTooMany, is_too_many}
use Rattle.index_file.proofs.DraftLaws.{live_taken, live_over, live_wrong, draft_node, same_nodes}
use Rattle.index_file.proofs.draft.Draft.take_live.Goals as goal

pub returns-in-Ok-clause-taken : goal.returns-in-Ok-clause-taken
returns-in-Ok-clause-taken c =
    let s = c.self.inside in
    let (t, spells, within, pushed) = c.in-Ok.ensures.ok in
    live_taken c.args.limits.now c.args.word.now c.args.self.now _ c.args.left t c.requires.due spells
    (ap (λ (r : Reading). is_too_many c.args.limits.now.labels (seen_of r.allocated) t) (sym c.self.view_is) ∙ within)
    (ap (λ a. record { due = Nodes c.args.left; k = s.k; allocated = a; pairs = s.pairs.items; views = s.views }) pushed
    ∙ ap (λ (r : Reading). record r { due = Nodes c.args.left; allocated = r.allocated ++ Some t ∷ [] }) c.self.view_is)

pub returns-in-Err-clause-over : goal.returns-in-Err-clause-over
returns-in-Err-clause-over c = λ h.
    live_over c.args.limits.now c.args.word.now c.args.self.now c.args.left c.requires.due
    (subst (λ (r : Reading). IsOneTooMany c.args.word.now c.args.limits.now.labels (seen_of r.allocated)) c.self.view_is (c.in-Err.ensures.over h))

pub returns-in-Err-clause-wrong : goal.returns-in-Err-clause-wrong
returns-in-Err-clause-wrong c = λ h. live_wrong c.args.limits.now c.args.word.now c.args.self.now c.args.left c.requires.due (c.in-Err.ensures.wrong h)

pub invariant_of-self : goal.invariant_of-self
invariant_of-self c =
    let (t, spells, within, pushed) = c.in-Ok.ensures.ok in
    draft_node _ c.self.invariant c.args.left _ (Some t) (ap (λ (r : Reading). r.due) c.self.view_is ∙ c.requires.due) pushed

pub invariant_of-self-in-Err : goal.invariant_of-self-in-Err
invariant_of-self-in-Err c = same_nodes _ c.self.invariant _ c.in-Err.ensures.err

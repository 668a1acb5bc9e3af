use Rattle.std.proofs.Common.{◌≤◌, [], ◌∷◌, ◌++◌, ◌∙◌, ap, sym, subst}
use Rattle.index_file.specs.declared.due.Due.TheVariants.{Ranks}
use Rattle.index_file.specs.Readings.{Reading}
use Rattle.index_file.specs.Readings.{live_in, can_take_view}
use Rattle.index_file.proofs.DraftLaws.{view_taken, view_refused, view_wrong, draft_view, same_views}
use Rattle.index_file.proofs.draft.Draft.take_view.Goals as goal

pub returns-in_default-clause-wrong : goal.returns-in_default-clause-wrong
returns-in_default-clause-wrong c = λ _.
    view_wrong c.args.limits.now c.args.line.now c.args.self.now c.args.count c.requires.due (subst (λ (r : Reading). r.k ≤ 8) c.self.view_is c.self.invariant.level) c.in_default.ensures.none

pub returns-then-not-can_begin-clause-wrong : goal.returns-then-not-can_begin-clause-wrong
returns-then-not-can_begin-clause-wrong c = λ _.
    view_refused c.args.limits.now c.args.line.now c.args.self.now c.args.count c.requires.due c.in-Some.via c.in-Some.ensures.found (sym c.can_begin.ensures ∙ c.if-not-can_begin.true)

pub returns-in-Ok-clause-taken : goal.returns-in-Ok-clause-taken
returns-in-Ok-clause-taken c =
    let s = c.self.inside in
    let n = c.args.count in
    view_taken c.args.limits.now c.args.line.now c.args.self.now n c.requires.due _ c.in-Some.via c.in-Some.ensures.found (sym c.can_begin.ensures ∙ c.if-not-can_begin.false)
    (ap (λ l. record { due = Ranks l n; k = s.k; allocated = s.nodes; pairs = s.pairs.items; views = c.begin.new.self }) c.live-ranks.ensures
    ∙ ap (λ vs. record { due = Ranks (live_in s.nodes) n; k = s.k; allocated = s.nodes; pairs = s.pairs.items; views = vs }) c.in-Ok.ensures.ok
    ∙ ap (λ (r : Reading). record r { due = Ranks (live_in r.allocated) n; views = r.views ++ record { via = c.in-Some.via; ranks = [] } ∷ [] }) c.self.view_is)

pub invariant_of-self : goal.invariant_of-self
invariant_of-self c =
    draft_view _ c.self.invariant c.live-ranks.result c.args.count c.in-Some.via _ (ap (λ (r : Reading). r.due) c.self.view_is ∙ c.requires.due)
    (ap (λ (r : Reading). can_take_view r c.args.count c.in-Some.via) c.self.view_is ∙ sym c.can_begin.ensures ∙ c.if-not-can_begin.false) c.live-ranks.ensures c.in-Ok.ensures.ok

pub invariant_of-self-in-Err : goal.invariant_of-self-in-Err
invariant_of-self-in-Err c = same_views _ c.self.invariant _ c.in-Err.ensures.err

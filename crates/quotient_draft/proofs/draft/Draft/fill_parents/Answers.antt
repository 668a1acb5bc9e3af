use Rattle.std.proofs.Common.{◌∙◌, ℕ, List, nat_lt, ap, subst}
use Rattle.graph_spec.specs.Members.{Lists, has}
use Rattle.bisim_spec.specs.IndexGraphs.{support_at}
use Rattle.quotient_draft.specs.Drafts.{Drafted, with_supports}
use Rattle.quotient_draft.proofs.SupportLists.{kept_lists, kept_rising}
use Rattle.quotient_draft.proofs.draft.Draft.fill_parents.Goals as goal

pub returns-clause-parents : goal.returns-clause-parents
returns-clause-parents c =
    let t = c.args.base.now.supports in
    let b = c.args.b in
    let kept = c.keep_parents.new.list.items in
    subst (λ (s : List ((ℕ × ℕ) × ℕ)). Lists (λ a. nat_lt 0 (support_at (with_supports t s) a b)) kept) (ap (λ (d : Drafted). d.supports) c.self.view_is)
    (kept_lists (λ a. nat_lt 0 (support_at (with_supports t c.self.inside.changed) a b)) (λ a. nat_lt 0 (support_at t a b)) c.base_parents.result.now c.parents.result.now
    c.sort_dedup.new.numbers.items kept c.base_parents.ensures (λ a h. ap (nat_lt 0) (c.parents.ensures t a h)) c.sort_dedup.ensures.rising
    (λ a. c.sort_dedup.ensures.same a ∙ ap (λ xs. has xs a) c.in_ok-join_lists.ensures) c.keep_parents.ensures)

pub returns-clause-rising : goal.returns-clause-rising
returns-clause-rising c = kept_rising _ _ _ c.sort_dedup.ensures.rising c.keep_parents.ensures

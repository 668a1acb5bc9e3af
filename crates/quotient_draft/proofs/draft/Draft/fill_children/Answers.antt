use Rattle.std.proofs.Common.{◌∙◌, ℕ, List, nat_lt, ap, subst}
use Rattle.graph_spec.specs.Members.{Lists, has}
use Rattle.bisim_spec.specs.IndexGraphs.{support_at}
use Rattle.quotient_draft.specs.Drafts.{Drafted, with_supports}
use Rattle.quotient_draft.proofs.SupportLists.{kept_lists, kept_rising}
use Rattle.quotient_draft.proofs.draft.Draft.fill_children.Goals as goal

pub returns-clause-children : goal.returns-clause-children
returns-clause-children c =
    let t = c.args.base.now.supports in
    let a = c.args.a in
    let kept = c.keep_children.new.list.items in
    subst (λ (s : List ((ℕ × ℕ) × ℕ)). Lists (λ b. nat_lt 0 (support_at (with_supports t s) a b)) kept) (ap (λ (d : Drafted). d.supports) c.self.view_is)
    (kept_lists (λ b. nat_lt 0 (support_at (with_supports t c.self.inside.changed) a b)) (λ b. nat_lt 0 (support_at t a b)) c.base_children.result.now c.children.result.now
    c.sort_dedup.new.numbers.items kept c.base_children.ensures (λ b h. ap (nat_lt 0) (c.children.ensures t b h)) c.sort_dedup.ensures.rising
    (λ b. c.sort_dedup.ensures.same b ∙ ap (λ xs. has xs b) c.in_ok-join_lists.ensures) c.keep_children.ensures)

pub returns-clause-rising : goal.returns-clause-rising
returns-clause-rising c = kept_rising _ _ _ c.sort_dedup.ensures.rising c.keep_children.ensures

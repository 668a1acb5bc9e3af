use Rattle.std.proofs.Common.{sym, ◌∙◌}
use Rattle.graph_spec.specs.Members.{at}
use Rattle.bisim_spec.specs.IndexGraphs.{support_at}
use Rattle.quotient_draft.specs.Drafts.{shown_labels, shown_blocks, shown_support}
use Rattle.one_merge.proofs.MergePairLaws.{has_none, unmergeable_by_unshared, unmergeable_by_nonadjacent}
use Rattle.one_merge.proofs.finding.has_unshared_parent.Goals as goal

pub returns-then-is_long : goal.returns-then-is_long
returns-then-is_long c = λ h.
    let q = c.args.base.now in
    let d = c.args.draft.now in
    unmergeable_by_nonadjacent (shown_blocks q d) (at (shown_labels q d)) (shown_support q d) (support_at q.supports) c.args.a c.args.b c.base_parents-parents.result.now c.base_parents-parents.ensures
    (λ x. c.requires.drafted q.supports x (has_none c.args.onto.now x c.if-not-is_empty.ensures)) (sym c.any_nonadjacent.ensures ∙ h)

pub returns : goal.returns
returns c = λ h.
    let q = c.args.base.now in
    let d = c.args.draft.now in
    unmergeable_by_unshared (shown_blocks q d) (at (shown_labels q d)) (shown_support q d) (support_at q.supports) c.args.a c.args.b c.base_parents-parents.result.now c.base_parents-own.result.now
    c.drafted_parents-drafted.result.now c.base_parents-parents.ensures c.base_parents-own.ensures
    (λ x. c.requires.drafted q.supports x (has_none c.args.onto.now x c.if-not-is_empty.ensures))
    (λ x off. c.drafted_parents-drafted.ensures q.supports x off) (sym c.any_unshared.ensures ∙ h)

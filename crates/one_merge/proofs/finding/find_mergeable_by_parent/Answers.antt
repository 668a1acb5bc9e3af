use Rattle.std.proofs.Common.{rules}
use Rattle.graph_spec.specs.Members.{at}
use Rattle.bisim_spec.specs.IndexGraphs.{support_at}
use Rattle.quotient_draft.specs.Drafts.{shown_labels, shown_blocks, shown_support}
use Rattle.one_merge.proofs.MergePairLaws.{none_mergeable_by_parent, if_none}
use Rattle.one_merge.proofs.finding.find_mergeable_by_parent.Goals as goal

pub returns-clause-none : goal.returns-clause-none
returns-clause-none c =
    let q = c.args.base.now in
    let d = c.args.draft.now in
    none_mergeable_by_parent c.find_among-2.result (shown_blocks q d) (at (shown_labels q d)) (shown_support q d) (support_at q.supports) c.args.a c.args.x c.base_children.result.now c.drafted_children.result.now
    c.requires.parent.0 c.requires.parent.1 (c.is_mergeable.ensures.no (search rules)) c.base_children.ensures (λ b off. c.drafted_children.ensures q.supports b off)
    (if_none c.find_among.result _ c.in_default-find_among.is c.find_among.ensures.none) c.find_among-2.ensures.none

use Rattle.quotient_draft.specs.Drafts.{shown_blocks}
use Rattle.one_merge.proofs.MergePairLaws.{candidates_same}
use Rattle.one_merge.proofs.merging.merge.Goals as goal

pub returns-clause-merged : goal.returns-clause-merged
returns-clause-merged c = λ s v h.
    c.in_ok-merge_pairs.ensures.merged s v (
    candidates_same s (shown_blocks c.args.base.now c.args.draft.now) c.args.merge_candidates.items c.of-worklist.result c.of-worklist.ensures h)

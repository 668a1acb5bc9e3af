use Rattle.std.proofs.Common.{sym, ◌∙◌, ap, subst}
use Rattle.graph_spec.specs.Members.{at, is_this, Lists}
use Rattle.bisim_spec.specs.IndexGraphs.{support_at}
use Rattle.one_spec.specs.Merges.{IsMerged}
use Rattle.one_spec.specs.Viewed.{IsViewed}
use Rattle.quotient_draft.specs.Drafts.{shown_labels, shown_blocks, shown_support, with_added, with_moves, with_supports}
use Rattle.one_merge.specs.MergeTests.{shown_adjacent}
use Rattle.one_merge.specs.Merged.{HasGraph}
use Rattle.one_merge.proofs.MergedSupports.{graph_merged, supports_merged, viewed_merged, merged_by}
use Rattle.one_merge.proofs.one_block.merge_pair.Goals as goal

pub returns-clause-merged : goal.returns-clause-merged
returns-clause-merged c =
    let block = c.args.base.now.blocks.block_of in
    subst (λ ms. IsMerged c.args.a c.args.b (with_moves block ms) (shown_blocks c.args.base.now c.move_all.new.draft)) c.in_ok-merge_supports.ensures.moves
    (merged_by c.args.a c.args.b (shown_blocks c.args.base.now c.merge_supports.new.draft) (shown_blocks c.args.base.now c.move_all.new.draft) c.deref.result.now
    (subst (Lists (λ n. is_this c.args.b (at (shown_blocks c.args.base.now c.merge_supports.new.draft) n))) (sym c.deref.ensures.value) c.in_ok-fill_members.ensures.members)
    c.in_ok-move_all.ensures.blocks)

pub returns-clause-pairs : goal.returns-clause-pairs
returns-clause-pairs c = λ x y.
    ap (λ ts. support_at (with_supports c.args.base.now.supports ts) x y) c.move_all.ensures.supports ∙ c.in_ok-merge_supports.ensures.supports x y

pub returns-clause-graph : goal.returns-clause-graph
returns-clause-graph c =
    subst (λ es. HasGraph (shown_blocks c.args.base.now c.move_all.new.draft) (at (with_added c.args.base.now.blocks.labels es)) (shown_support c.args.base.now c.move_all.new.draft))
    (sym (c.move_all.ensures.added ∙ c.in_ok-merge_supports.ensures.added))
    (graph_merged (shown_blocks c.args.base.now c.args.draft.now) (shown_blocks c.args.base.now c.move_all.new.draft) (at (shown_labels c.args.base.now c.args.draft.now))
    (shown_support c.args.base.now c.args.draft.now) (shown_support c.args.base.now c.move_all.new.draft) c.args.a c.args.b c.requires.mergeable_pair.apart
    (c.requires.graph.live c.requires.mergeable_pair.first.0 c.args.a c.requires.mergeable_pair.first.1) (returns-clause-merged c) (returns-clause-pairs c) c.requires.graph)

pub returns-clause-supports : goal.returns-clause-supports
returns-clause-supports c = λ g supports.
    supports_merged g (shown_blocks c.args.base.now c.args.draft.now) (shown_blocks c.args.base.now c.move_all.new.draft) (shown_support c.args.base.now c.args.draft.now)
    (shown_support c.args.base.now c.move_all.new.draft) c.args.a c.args.b c.requires.mergeable_pair.apart (returns-clause-merged c)
    (returns-clause-pairs c) supports

pub returns-clause-viewed : goal.returns-clause-viewed
returns-clause-viewed c = λ s viewed.
    subst (λ es. IsViewed s (shown_blocks c.args.base.now c.move_all.new.draft) (at (with_added c.args.base.now.blocks.labels es)) (shown_adjacent c.args.base.now c.move_all.new.draft))
    (sym (c.move_all.ensures.added ∙ c.in_ok-merge_supports.ensures.added))
    (viewed_merged s (shown_blocks c.args.base.now c.args.draft.now) (shown_blocks c.args.base.now c.move_all.new.draft) (at (shown_labels c.args.base.now c.args.draft.now))
    (shown_support c.args.base.now c.args.draft.now) (shown_support c.args.base.now c.move_all.new.draft) c.args.a c.args.b c.requires.mergeable_pair (returns-clause-merged c)
    (returns-clause-pairs c) viewed)

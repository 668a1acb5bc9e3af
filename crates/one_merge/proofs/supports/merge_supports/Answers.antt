use Rattle.std.proofs.Common.{sym, subst, ◌∙◌}
use Rattle.std.specs.Prelude.{IsSome}
use Rattle.graph_spec.specs.Members.{at}
use Rattle.quotient_draft.specs.Drafts.{shown_labels, shown_blocks, shown_support, with_added}
use Rattle.one_merge.proofs.MergedSupports.{two_steps}
use Rattle.one_merge.proofs.MergedLoops.{loop_merged, loops_few, parents_few_after, children_few_after, parent_live_after, child_live_after}
use Rattle.one_merge.proofs.supports.merge_supports.Goals as goal

pub move_loop-requires-clause-few : goal.move_loop-requires-clause-few
move_loop-requires-clause-few c =
    loops_few c.requires.graph.graph (shown_blocks c.args.base.now c.args.draft.now) (shown_support c.args.base.now c.args.draft.now) c.args.a c.args.b c.requires.graph.supports
    c.requires.graph.few c.requires.apart

pub merge_side-requires-clause-neighbours : goal.merge_side-requires-clause-neighbours
merge_side-requires-clause-neighbours c = λ x more.
    subst (λ es. IsSome (at (with_added c.args.base.now.blocks.labels es) x)) (sym c.in_ok-move_loop.ensures.added)
    (parent_live_after (shown_blocks c.args.base.now c.args.draft.now) (at (shown_labels c.args.base.now c.args.draft.now)) (shown_support c.args.base.now c.args.draft.now)
    (shown_support c.args.base.now c.move_loop.new.draft) c.args.a c.args.b x c.requires.graph c.requires.apart c.in_ok-move_loop.ensures.supports more)

pub merge_side-requires-clause-few : goal.merge_side-requires-clause-few
merge_side-requires-clause-few c = λ x.
    parents_few_after c.requires.graph.graph (shown_blocks c.args.base.now c.args.draft.now) (shown_support c.args.base.now c.args.draft.now)
    (shown_support c.args.base.now c.move_loop.new.draft) c.args.a c.args.b x c.requires.graph.supports c.requires.graph.few c.requires.apart c.in_ok-move_loop.ensures.supports

pub merge_side-requires-2-clause-neighbours : goal.merge_side-requires-2-clause-neighbours
merge_side-requires-2-clause-neighbours c = λ y more.
    subst (λ es. IsSome (at (with_added c.args.base.now.blocks.labels es) y)) (sym (c.in_ok-merge_side.ensures.added ∙ c.in_ok-move_loop.ensures.added))
    (child_live_after (shown_blocks c.args.base.now c.args.draft.now) (at (shown_labels c.args.base.now c.args.draft.now)) (shown_support c.args.base.now c.args.draft.now)
    (shown_support c.args.base.now c.move_loop.new.draft) (shown_support c.args.base.now c.merge_side.new.draft) c.args.a c.args.b y c.requires.graph c.requires.stays c.requires.apart
    c.in_ok-move_loop.ensures.supports c.in_ok-merge_side.ensures.supports more)

pub merge_side-requires-2-clause-few : goal.merge_side-requires-2-clause-few
merge_side-requires-2-clause-few c = λ y.
    children_few_after c.requires.graph.graph (shown_blocks c.args.base.now c.args.draft.now) (shown_support c.args.base.now c.args.draft.now)
    (shown_support c.args.base.now c.move_loop.new.draft) (shown_support c.args.base.now c.merge_side.new.draft) c.args.a c.args.b y c.requires.graph.supports c.requires.graph.few
    c.requires.apart c.in_ok-move_loop.ensures.supports c.in_ok-merge_side.ensures.supports

pub returns-clause-supports : goal.returns-clause-supports
returns-clause-supports c = λ x y.
    two_steps c.args.a c.args.b (shown_support c.args.base.now c.move_loop.new.draft) (shown_support c.args.base.now c.merge_side.new.draft)
    (shown_support c.args.base.now c.merge_side-2.new.draft) c.in_ok-merge_side.ensures.supports (λ u v. c.in_ok-merge_side-2.ensures.supports v u) x y
    ∙ loop_merged c.args.a c.args.b (shown_support c.args.base.now c.args.draft.now) (shown_support c.args.base.now c.move_loop.new.draft) x y c.requires.apart c.in_ok-move_loop.ensures.supports

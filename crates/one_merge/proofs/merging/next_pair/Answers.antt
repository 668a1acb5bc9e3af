use Rattle.std.proofs.Common.{◌≡◌, ℕ, None, rules}
use Rattle.graph_spec.specs.Members.{at}
use Rattle.quotient_draft.specs.Drafts.{shown_labels, shown_blocks}
use Rattle.one_merge.specs.MergeTests.{shown_adjacent}
use Rattle.one_merge.specs.ShownMerges.{AreShownNotMergeable}
use Rattle.one_merge.proofs.MergePairLaws.{cleared, candidates_or, candidates_none, if_none}
use Rattle.one_merge.proofs.merging.next_pair.Goals as goal

pub returns-in-Some-2-clause-rest : goal.returns-in-Some-2-clause-rest
returns-in-Some-2-clause-rest c = λ s v h.
    candidates_or s (shown_blocks c.args.base.now c.args.draft.now) c.take.new.self c.look.merge_candidates c.in-Some.a c.larger_first-pair.result.0 c.larger_first-pair.result.1 c.in-Some.ensures.some
    c.larger_first-pair.ensures.one (c.look.invariant s v h)

pub look-preserved : goal.look-preserved
look-preserved c = λ s v h.
    let none : c.in_ok-b.field-0 ≡ None = search rules in
    cleared s (shown_blocks c.args.base.now c.args.draft.now) (at (shown_labels c.args.base.now c.args.draft.now)) (shown_adjacent c.args.base.now c.args.draft.now) c.take.new.self c.look.merge_candidates
    c.in-Some.a v c.in-Some.ensures.some (if_none c.in_ok-b.field-0 ((b : ℕ) → AreShownNotMergeable c.args.base.now c.args.draft.now c.in-Some.a b) none c.in_ok-b.ensures.none) (c.look.invariant s v h)

pub returns-clause-none : goal.returns-clause-none
returns-clause-none c = λ s v h.
    candidates_none s (shown_blocks c.args.base.now c.args.draft.now) c.look.merge_candidates c.in_default.ensures.none (c.look.invariant s v h)

use Rattle.std.proofs.Common.{rules}
use Rattle.graph_spec.specs.Members.{at}
use Rattle.quotient_draft.specs.Drafts.{shown_labels, shown_blocks}
use Rattle.one_merge.specs.MergeTests.{shown_adjacent}
use Rattle.one_merge.proofs.MergeTestLaws.{mergeable_from, unmergeable_swap, unmergeable_unsatisfied, satisfied_swap}
use Rattle.one_merge.proofs.mergeable_pair.have_same_parents.Goals as goal

pub returns-then-has_unsatisfied_parent-clause-no : goal.returns-then-has_unsatisfied_parent-clause-no
returns-then-has_unsatisfied_parent-clause-no c = λ _.
    unmergeable_unsatisfied (shown_blocks c.args.base.now c.args.draft.now) (at (shown_labels c.args.base.now c.args.draft.now)) (shown_adjacent c.args.base.now c.args.draft.now) c.args.a c.args.b
    (c.has_unsatisfied_parent.ensures.yes (search rules))

pub returns-clause-yes : goal.returns-clause-yes
returns-clause-yes c = λ h.
    let adjacent = shown_adjacent c.args.base.now c.args.draft.now in
    mergeable_from (shown_blocks c.args.base.now c.args.draft.now) (at (shown_labels c.args.base.now c.args.draft.now)) adjacent c.args.a c.args.b c.requires.apart c.requires.first c.requires.second
    c.requires.label (satisfied_swap adjacent c.args.a c.args.b c.args.a c.args.b (c.has_unsatisfied_parent-2.ensures.no (search rules))) (c.has_unsatisfied_parent.ensures.no (search rules))

pub returns-clause-no : goal.returns-clause-no
returns-clause-no c = λ h.
    let p = shown_blocks c.args.base.now c.args.draft.now in
    let labels = at (shown_labels c.args.base.now c.args.draft.now) in
    let adjacent = shown_adjacent c.args.base.now c.args.draft.now in
    unmergeable_swap p labels adjacent c.args.a c.args.b (unmergeable_unsatisfied p labels adjacent c.args.b c.args.a (c.has_unsatisfied_parent-2.ensures.yes (search rules)))

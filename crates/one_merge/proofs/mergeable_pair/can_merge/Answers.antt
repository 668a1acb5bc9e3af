use Rattle.graph_spec.specs.Members.{at}
use Rattle.quotient_draft.specs.Drafts.{shown_labels, shown_blocks}
use Rattle.one_merge.specs.MergeTests.{shown_adjacent}
use Rattle.one_merge.proofs.MergePairLaws.{mergeable_swap}
use Rattle.one_merge.proofs.MergeTestLaws.{unmergeable_swap}
use Rattle.one_merge.proofs.mergeable_pair.can_merge.Goals as goal

pub returns-then-drafted-gt-MANY-clause-yes : goal.returns-then-drafted-gt-MANY-clause-yes
returns-then-drafted-gt-MANY-clause-yes c = λ h.
    mergeable_swap (shown_blocks c.args.base.now c.args.draft.now) (at (shown_labels c.args.base.now c.args.draft.now)) (shown_adjacent c.args.base.now c.args.draft.now) c.args.b c.args.a
    (c.have_same_parents.ensures.yes h)

pub returns-then-drafted-gt-MANY-clause-no : goal.returns-then-drafted-gt-MANY-clause-no
returns-then-drafted-gt-MANY-clause-no c = λ h.
    unmergeable_swap (shown_blocks c.args.base.now c.args.draft.now) (at (shown_labels c.args.base.now c.args.draft.now)) (shown_adjacent c.args.base.now c.args.draft.now) c.args.a c.args.b
    (c.have_same_parents.ensures.no h)

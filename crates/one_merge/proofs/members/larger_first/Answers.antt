use Rattle.graph_spec.specs.Members.{at}
use Rattle.quotient_draft.specs.Drafts.{shown_labels, shown_blocks}
use Rattle.one_merge.specs.MergeTests.{shown_adjacent}
use Rattle.one_merge.proofs.MergePairLaws.{mergeable_swap}
use Rattle.one_merge.proofs.members.larger_first.Goals as goal

pub returns-then-is_smaller-clause-mergeable_pair : goal.returns-then-is_smaller-clause-mergeable_pair
returns-then-is_smaller-clause-mergeable_pair c =
    mergeable_swap (shown_blocks c.args.base.now c.args.draft.now) (at (shown_labels c.args.base.now c.args.draft.now)) (shown_adjacent c.args.base.now c.args.draft.now) c.args.a c.args.b c.requires.mergeable_pair

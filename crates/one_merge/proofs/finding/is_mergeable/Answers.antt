use Rattle.std.proofs.Common.{rules}
use Rattle.graph_spec.specs.Members.{at}
use Rattle.quotient_draft.specs.Drafts.{shown_labels, shown_blocks}
use Rattle.one_merge.specs.MergeTests.{shown_adjacent}
use Rattle.one_merge.proofs.MergePairLaws.{unmergeable_label}
use Rattle.one_merge.proofs.finding.is_mergeable.Goals as goal

pub returns-then-not-is_labelled-clause-no : goal.returns-then-not-is_labelled-clause-no
returns-then-not-is_labelled-clause-no c = λ _.
    unmergeable_label (shown_blocks c.args.base.now c.args.draft.now) (at (shown_labels c.args.base.now c.args.draft.now)) (shown_adjacent c.args.base.now c.args.draft.now) c.args.a c.args.b
    c.args.label c.requires.label (c.is_labelled.ensures.no (search rules))

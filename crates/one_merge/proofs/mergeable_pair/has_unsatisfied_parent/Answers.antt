use Rattle.std.proofs.Common.{sym, ◌∙◌, rules}
use Rattle.bisim_spec.specs.IndexGraphs.{support_at}
use Rattle.quotient_draft.specs.Drafts.{shown_support}
use Rattle.one_merge.specs.MergeTests.{shown_adjacent}
use Rattle.one_merge.proofs.MergeTestLaws.{unsatisfied_get, all_satisfied}
use Rattle.one_merge.proofs.mergeable_pair.has_unsatisfied_parent.Goals as goal

pub returns-then-is_any_unsatisfied-clause-yes : goal.returns-then-is_any_unsatisfied-clause-yes
returns-then-is_any_unsatisfied-clause-yes c = λ _.
    unsatisfied_get (shown_adjacent c.args.base.now c.args.draft.now) c.args.a c.args.b c.base_parents.result.now (sym c.is_any_unsatisfied.ensures ∙ search rules)

pub returns-clause-yes : goal.returns-clause-yes
returns-clause-yes c = λ h.
    unsatisfied_get (shown_adjacent c.args.base.now c.args.draft.now) c.args.a c.args.b c.args.drafted.now (sym c.is_any_unsatisfied-2.ensures ∙ h)

pub returns-clause-no : goal.returns-clause-no
returns-clause-no c = λ h.
    let q = c.args.base.now in
    all_satisfied (shown_support q c.args.draft.now) (support_at q.supports) c.args.a c.args.b c.base_parents.result.now c.args.drafted.now c.base_parents.ensures
    (λ x off. c.requires.drafted q.supports x off) (sym c.is_any_unsatisfied.ensures ∙ search rules) (sym c.is_any_unsatisfied-2.ensures ∙ h)

use Rattle.std.proofs.Common.{◌++◌}
use Rattle.one_merge.proofs.ParentlessLaws.{none_mergeable_lone, candidates_both}
use Rattle.quotient_draft.specs.Drafts.{shown_support}
use Rattle.one_merge.proofs.finding.find_mergeable_lone.Goals as goal

pub returns-clause-none : goal.returns-clause-none
returns-clause-none c =
    let q = c.args.base.now in
    let d = c.args.draft.now in
    let own = c.deref.result.now in
    let noted = c.noted-noted.result.now in
    none_mergeable_lone c.find_in_either.result q d c.args.parentless.now c.args.a c.label-label.result (own ++ noted) c.requires.lone c.label-label.ensures c.requires.covers
    (candidates_both (shown_support q d) c.args.parentless.now c.args.a c.label-label.result c.fill_own_children.new.list.items own noted c.in_ok-fill_own_children.ensures c.deref.ensures.value c.noted-noted.ensures)
    c.find_in_either.ensures.none

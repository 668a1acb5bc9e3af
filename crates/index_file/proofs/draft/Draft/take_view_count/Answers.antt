use Rattle.std.proofs.Common.{ap, ◌∙◌}
use Rattle.index_file.specs.declared.due.Due.TheVariants.{Ranks}
use Rattle.index_file.specs.Readings.{Reading}
use Rattle.index_file.proofs.StepLaws.{wrong_view_count}
use Rattle.index_file.proofs.DraftLaws.{view_count_taken, draft_views}
use Rattle.index_file.proofs.draft.Draft.take_view_count.Goals as goal

pub returns-in_default-clause-wrong : goal.returns-in_default-clause-wrong
returns-in_default-clause-wrong c = λ _. wrong_view_count c.args.limits.now c.args.line.now c.args.self.now c.requires.due c.in_default.ensures.none

pub returns-clause-taken : goal.returns-clause-taken
returns-clause-taken c =
    view_count_taken c.args.limits.now c.args.line.now c.args.self.now _ c.in-Some.count c.requires.due c.in-Some.ensures.found
    (ap (λ (r : Reading). record r { due = Ranks 0 c.in-Some.count }) c.self.view_is)

pub invariant_of-self : goal.invariant_of-self
invariant_of-self c = draft_views _ c.self.invariant c.in-Some.count (ap (λ (r : Reading). r.due) c.self.view_is ∙ c.requires.due)

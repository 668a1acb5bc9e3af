use Rattle.std.proofs.Common.{Some, sym, ap, refl, ◌∙◌, rules}
use Rattle.index_file.specs.declared.due.Due.TheVariants.{Title, Allocated}
use Rattle.index_file.specs.Statements.{title}
use Rattle.index_file.specs.Readings.{Reading}
use Rattle.index_file.proofs.StepLaws.{taken_at}
use Rattle.index_file.proofs.DraftLaws.{draft_title}
use Rattle.index_file.proofs.draft.Draft.take_title.Goals as goal

pub returns-clause-taken : goal.returns-clause-taken
returns-clause-taken c =
    taken_at c.args.limits.now c.args.line.now c.args.self.now _ Title title c.requires.due (c.is_word.ensures.0 (search rules)) refl
    (ap (λ (r : Reading). Some (record r { due = Allocated })) (sym c.self.view_is))

pub invariant_of-self : goal.invariant_of-self
invariant_of-self c = draft_title _ c.self.invariant (ap (λ (r : Reading). r.due) c.self.view_is ∙ c.requires.due)

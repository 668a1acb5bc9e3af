use Rattle.std.proofs.Common.{◌∙◌}
use Rattle.quotient_draft.proofs.Forgotten.{last_gone}
use Rattle.quotient_draft.proofs.added.Added.forget.Goals as goal

pub returns : goal.returns
returns c = λ es e h. last_gone _ _ es e c.pop.result c.pop.ensures.entries (λ some. c.pop.ensures.found.1 some) (c.self.view_is ∙ h)

use Rattle.keyed_quotient.proofs.Numbered.{numbering_keyed}
use Rattle.keyed_quotient.proofs.keyed.KeyedSummary.summary.Goals as goal

pub returns-clause-keyed : goal.returns-clause-keyed
returns-clause-keyed c = rw (← c.self.view_is) (numbering_keyed _ _ c.self.invariant)

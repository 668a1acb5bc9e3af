use Rattle.keyed_quotient.proofs.keyed.KeyedSummary.find.Goals as goal

pub returns-clause-leads : goal.returns-clause-leads
returns-clause-leads c = rw (← c.self.view_is) c.find_in.ensures.leads

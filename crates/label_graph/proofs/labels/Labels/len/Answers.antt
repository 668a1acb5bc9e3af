use Rattle.label_graph.proofs.Tables.{texts-distinct}
use Rattle.label_graph.proofs.labels.Labels.len.Goals as goal

pub returns-clause-distinct : goal.returns-clause-distinct
returns-clause-distinct c = rw (← c.self.view_is) (texts-distinct c.self.inside.effective c.self.inside.table.keys c.self.invariant.once)

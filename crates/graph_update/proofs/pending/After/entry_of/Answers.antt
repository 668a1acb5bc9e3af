use Rattle.std.proofs.Common.{rules, ◌∙◌, ap, sym}
use Rattle.label_graph.specs.LabelTable.{entries}
use Rattle.graph_update.specs.PendingChanges.{Pending, graph_after}
use Rattle.graph_update.proofs.LabelsAhead.{entry_number}
use Rattle.graph_update.proofs.pending.After.entry_of.Goals as goal

pub returns-then-self : goal.returns-then-self
returns-then-self c =
    let there = c.self.invariant.ahead_are (search rules) in
    entry_number (entries c.self.inside.labels.now) (graph_after c.args.self.now).seen there.count c.args.label.now c.entry.result
    (ap (λ (q : Pending). (graph_after q).seen) (sym c.self.view_is) ∙ there.seen) c.entry.ensures c.requires

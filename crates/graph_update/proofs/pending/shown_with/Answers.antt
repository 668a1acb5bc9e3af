use Rattle.std.proofs.Common.{◌∙◌, sym}
use Rattle.label_graph.specs.LabelTable.{entries}
use Rattle.graph_update.proofs.LabelsAhead.{shown_found}
use Rattle.graph_update.proofs.pending.shown_with.Goals as goal

pub returns-in-Some : goal.returns-in-Some
returns-in-Some c = shown_found (entries c.args.labels.now) c.args.shown c.in-Some.number c.args.text.now c.shown_past.result (sym c.entry.ensures ∙ c.in-Some.is) c.shown_past.ensures

use Rattle.std.proofs.Common.{◌∙◌, ap, sym}
use Rattle.std.specs.Prelude.{position, bytes_eq}
use Rattle.graph_steps.specs.StepLists.{steps_of}
use Rattle.graph_update.proofs.LabelLaws.{not_found, number_stays}
use Rattle.graph_update.proofs.pending.added_number.Goals as goal

pub new_number-requires-clause-unseen : goal.new_number-requires-clause-unseen
new_number-requires-clause-unseen c =
    not_found c.args.graph.now.graph.seen c.args.label.now (ap (position (bytes_eq c.args.label.now)) (sym c.labels.ensures.seen) ∙ sym c.find.ensures.place ∙ c.in-None.is)

pub returns-in-Some : goal.returns-in-Some
returns-in-Some c =
    number_stays (steps_of c.args.steps.now) c.args.graph.now.graph (bytes_eq c.args.label.now) c.in-Some.number
    (ap (position (bytes_eq c.args.label.now)) (sym c.labels.ensures.seen) ∙ sym c.find.ensures.place ∙ c.in-Some.is)

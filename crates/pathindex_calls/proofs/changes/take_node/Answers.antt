use Rattle.std.proofs.Common.{◌∙◌, ap, Ok}
use Rattle.change_spec.specs.Steps.{node}
use Rattle.pathindex_calls.proofs.TextLaws.{label_read}
use Rattle.pathindex_calls.proofs.changes.take_node.Goals as goal

pub returns-in-Ok-Some : goal.returns-in-Ok-Some
returns-in-Ok-Some c =
    label_read (λ l. node l) c.args.text.now c.in-Ok-Some.label c.args.session.now c.take_step.new.session c.args.group.now c.take_step.new.group c.take_step.result c.read_label.result
    (c.in-Ok-Some.is ∙ ap (λ o. Ok o) c.in-Ok-Some.field-0-is) c.read_label.ensures.found c.take_step.ensures

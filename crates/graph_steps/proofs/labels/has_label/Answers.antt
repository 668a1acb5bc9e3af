use Rattle.std.proofs.Common.{◌∙◌, ap, sym}
use Rattle.std.specs.Prelude.{option_map}
use Rattle.std.specs.Option.{option_or}
use Rattle.graph_spec.specs.Graphs.{label_of}
use Rattle.change_spec.specs.Steps.{is_text}
use Rattle.graph_steps.proofs.labels.has_label.Goals as goal

pub returns-in-Some : goal.returns-in-Some
returns-in-Some c =
    c.is_same.ensures
    ∙ sym (ap (is_text c.args.text.now) (c.label_after.ensures ∙ ap (λ o. option_or (option_map (λ t. t.now) o) (label_of c.args.graph.now.graph c.args.u)) c.in-Some.is))

pub returns-in-None : goal.returns-in-None
returns-in-None c =
    c.label_before.ensures
    ∙ sym (ap (is_text c.args.text.now) (c.label_after.ensures ∙ ap (λ o. option_or (option_map (λ t. t.now) o) (label_of c.args.graph.now.graph c.args.u)) c.in-None.is))

use Rattle.std.proofs.Common.{◌∙◌, ap, sym}
use Rattle.std.specs.Prelude.{◌||◌}
use Rattle.graph_spec.specs.Graphs.{is_seen}
use Rattle.change_spec.specs.Steps.{made}
use Rattle.graph_steps.specs.StepLists.{step_of}
use Rattle.graph_steps.specs.declared.changes.Step.{Step as Asked}
use Rattle.graph_steps.proofs.GrownCounts.{seen_with}
use Rattle.graph_steps.proofs.reads.seen_after.Goals as goal

pub returns-in-Node : goal.returns-in-Node
returns-in-Node c = λ h e.
    c.either.ensures ∙ ap (λ b. b || c.is_same.result) e ∙ ap (λ b. is_seen h.seen c.args.text.now || b) c.is_same.ensures
    ∙ sym (seen_with h.seen c.in-Node.label c.args.text.now) ∙ ap (λ (s : Asked). is_seen (made (step_of s) h).seen c.args.text.now) (sym c.in-Node.is)

pub returns-in-Relabel : goal.returns-in-Relabel
returns-in-Relabel c = λ h e.
    c.either-in-Relabel.ensures ∙ ap (λ b. b || c.is_same-in-Relabel.result) e ∙ ap (λ b. is_seen h.seen c.args.text.now || b) c.is_same-in-Relabel.ensures
    ∙ sym (seen_with h.seen c.in-Relabel.label c.args.text.now) ∙ ap (λ (s : Asked). is_seen (made (step_of s) h).seen c.args.text.now) (sym c.in-Relabel.is)

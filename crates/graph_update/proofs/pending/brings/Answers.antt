use Rattle.std.proofs.Common.{◌≡◌, ◌∙◌, ap, sym}
use Rattle.std.specs.Prelude.{◌||◌}
use Rattle.std.proofs.Math.Bool.{or-false}
use Rattle.std.proofs.lemmas.Slice.Eq.{bytes_eq-Decides}
use Rattle.graph_spec.specs.Graphs.{is_seen}
use Rattle.graph_spec.specs.Changes.{with_label}
use Rattle.change_spec.specs.Steps.{made}
use Rattle.graph_steps.specs.StepLists.{step_of}
use Rattle.graph_steps.specs.declared.changes.Step.{Step as Asked}
use Rattle.graph_steps.proofs.GrownCounts.{seen_with}
use Rattle.graph_update.proofs.pending.brings.Goals as goal

pub returns-in-Node-clause-some : goal.returns-in-Node-clause-some
returns-in-Node-clause-some c = λ on h.
    let same : c.args.label.now ≡ c.in-Node.text = (bytes_eq-Decides c.args.label.now c.in-Node.text).0 (sym c.eq.ensures ∙ on) in
    ap (λ (s : Asked). (made (step_of s) h).seen) c.in-Node.is ∙ ap (with_label h.seen) (sym same)

pub returns-in-Node-clause-none : goal.returns-in-Node-clause-none
returns-in-Node-clause-none c = λ off h.
    ap (λ (s : Asked). is_seen (made (step_of s) h).seen c.args.label.now) c.in-Node.is ∙ seen_with h.seen c.in-Node.text c.args.label.now
    ∙ ap (λ b. is_seen h.seen c.args.label.now || b) (sym c.eq.ensures ∙ off) ∙ or-false (is_seen h.seen c.args.label.now)

pub returns-in-Relabel-clause-some : goal.returns-in-Relabel-clause-some
returns-in-Relabel-clause-some c = λ on h.
    let same : c.args.label.now ≡ c.in-Relabel.text = (bytes_eq-Decides c.args.label.now c.in-Relabel.text).0 (sym c.eq-in-Relabel.ensures ∙ on) in
    ap (λ (s : Asked). (made (step_of s) h).seen) c.in-Relabel.is ∙ ap (with_label h.seen) (sym same)

pub returns-in-Relabel-clause-none : goal.returns-in-Relabel-clause-none
returns-in-Relabel-clause-none c = λ off h.
    ap (λ (s : Asked). is_seen (made (step_of s) h).seen c.args.label.now) c.in-Relabel.is ∙ seen_with h.seen c.in-Relabel.text c.args.label.now
    ∙ ap (λ b. is_seen h.seen c.args.label.now || b) (sym c.eq-in-Relabel.ensures ∙ off) ∙ or-false (is_seen h.seen c.args.label.now)

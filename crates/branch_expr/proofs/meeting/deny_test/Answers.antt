use Rattle.std.proofs.Common.{◌↔◌, ℕ, IsTrue}
use Rattle.std.specs.Prelude.{slice_get, IsSome}
use Rattle.graph_spec.specs.Members.{has}
use Rattle.branch_expr.proofs.LabelNames.{label_text}
use Rattle.branch_expr.proofs.SetLaws.{node_label}
use Rattle.branch_expr.proofs.meeting.deny_test.Goals as goal

pub returns-in-Any-clause-spared : goal.returns-in-Any-clause-spared
returns-in-Any-clause-spared g c =
    let label_at = g.G.Digraph.label_at c.args.g.now in
    let edge = g.G.Digraph.edge c.args.g.now in
    let texts = c.args.labels.now.texts in
    let old = c.args.set.now.members in
    let new = c.remove_passing_children.new.set.members in
    let h : (x : ℕ) → IsTrue (has new x) ↔ (IsTrue (has old x) × (((v : ℕ) × IsSome (label_at v) × IsTrue (edge v x)) → ⊥)) = c.remove_passing_children.ensures.members in
    rw c.in-Any.is
    (λ x. (
      λ m. let p = (h x).0 m in (p.0, λ led. p.1 (led.0, node_label (λ l. slice_get texts l) (label_at led.0) led.1, led.2)),
      λ p. (h x).1 (p.0, λ led. p.1 (led.0, label_text texts (label_at led.0) (c.requires.labelled led.0) led.1, led.2)),
    ))

pub returns-in-Label-clause-spared : goal.returns-in-Label-clause-spared
returns-in-Label-clause-spared g c = rw c.in-Label.is c.deny_label.ensures.spared

use Rattle.std.proofs.Common.{◌↔◌, ℕ, IsTrue}
use Rattle.graph_spec.specs.Members.{has}
use Rattle.graph_spec.specs.Shapes.{shape_by}
use Rattle.branch_spec.specs.BranchAnswers.{Passes}
use Rattle.branch_expr.specs.QueryTrees.{test_of}
use Rattle.branch_expr.proofs.LabelNames.{passes_by}
use Rattle.branch_expr.proofs.meeting.deny_axis.Goals as goal

pub returns-in-Child-clause-spared : goal.returns-in-Child-clause-spared
returns-in-Child-clause-spared g c = rw c.in-Child.is c.deny_test.ensures.spared

pub returns-in-Parent-clause-spared : goal.returns-in-Parent-clause-spared
returns-in-Parent-clause-spared g c =
    let size = g.G.Digraph.span c.args.g.now in
    let label_at = g.G.Digraph.label_at c.args.g.now in
    let edge = g.G.Digraph.edge c.args.g.now in
    let back : ℕ → ℕ → _ = λ u v. edge v u in
    let texts = c.args.labels.now.texts in
    let test = test_of c.args.test.now in
    let old = c.args.set.now.members in
    let new = c.deny_test-in-Parent.new.set.members in
    let h : (x : ℕ) → IsTrue (has new x) ↔ (IsTrue (has old x) × (((v : ℕ) × Passes (shape_by texts size label_at back) test v × IsTrue (back v x)) → ⊥)) = c.deny_test-in-Parent.ensures.spared in
    rw c.in-Parent.is
    (λ x. (
      λ m. let p = (h x).0 m in (p.0, λ led. p.1 (led.0, passes_by texts size label_at edge back test led.0 led.1, led.2)),
      λ p. (h x).1 (p.0, λ led. p.1 (led.0, passes_by texts size label_at back edge test led.0 led.1, led.2)),
    ))

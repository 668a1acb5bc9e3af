use Rattle.std.proofs.Common.{◌↔◌, ℕ, IsTrue}
use Rattle.std.proofs.lemmas.Result.{IfOk-weaker}
use Rattle.graph_spec.specs.Members.{has}
use Rattle.graph_spec.specs.Shapes.{shape_by}
use Rattle.branch_spec.specs.BranchAnswers.{Along}
use Rattle.branch_expr.specs.Axes.{axis_of}
use Rattle.branch_expr.specs.QueryTrees.{test_of}
use Rattle.branch_expr.proofs.SetLaws.{set_led}
use Rattle.branch_expr.proofs.meeting.far_leading.Goals as goal

pub returns-clause-image : goal.returns-clause-image
returns-clause-image g c =
    let label_at = g.G.Digraph.label_at c.args.g.now in
    let edge = g.G.Digraph.edge c.args.g.now in
    let s = shape_by c.args.labels.now.texts (g.G.Digraph.span c.args.g.now) label_at edge in
    let met = c.in_ok-met.met.members in
    IfOk-weaker c.along.result (λ b. (x : ℕ) → IsTrue (has b.members x) ↔ ((v : ℕ) × IsTrue (has met v) × Along edge (axis_of c.args.axis) v x)) _
    (λ b h. set_led label_at s (g.met.G.Digraph.ends c.args.g.now) (axis_of c.args.axis) (test_of c.args.test.now) met b.members c.in_ok-met.ensures.set h) c.along.ensures.image

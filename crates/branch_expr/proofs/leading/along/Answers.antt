use Rattle.std.proofs.Common.{◌↔◌, ℕ, IsTrue}
use Rattle.std.proofs.lemmas.Result.{IfOk-weaker}
use Rattle.graph_spec.specs.Members.{has}
use Rattle.branch_spec.specs.BranchAnswers.{Reaches}
use Rattle.branch_expr.proofs.ImageLaws.{reaches_back}
use Rattle.branch_expr.proofs.leading.along.Goals as goal

pub returns-in-Above-clause-image : goal.returns-in-Above-clause-image
returns-in-Above-clause-image g c =
    let edge = g.G.Digraph.edge c.args.g.now in
    let back : ℕ → ℕ → Type 0 = λ v x. Reaches (λ a b. edge b a) v x in
    rw c.in-Above.is (IfOk-weaker c.descendants_of_set-in-Above.result (λ b. (x : ℕ) → IsTrue (has b.members x) ↔ ((v : ℕ) × IsTrue (has c.args.set.now.members v) × back v x)) _
    (λ b h x. (
      λ m. let n = (h x).0 m in (n.0, n.1, reaches_back edge n.0 x n.2),
      λ n. (h x).1 (n.0, n.1, reaches_back (λ a b. edge b a) x n.0 n.2),
    ))
    c.descendants_of_set-in-Above.ensures.image)

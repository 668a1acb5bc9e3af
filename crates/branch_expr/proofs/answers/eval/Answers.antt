use Rattle.std.proofs.Common.{◌∙◌, ℕ, subst, arith}
use Rattle.std.specs.Prelude.{slice_get}
use Rattle.std.proofs.lemmas.List.{take_all}
use Rattle.graph_spec.specs.Shapes.{shape_by}
use Rattle.branch_spec.specs.BranchAnswers.{Meets, Ends, AreBranchAnswers}
use Rattle.branch_expr.specs.QueryTrees.{step_of, chain_of}
use Rattle.branch_expr.specs.Sets.{IsSetOf}
use Rattle.branch_expr.proofs.SetLaws.{set_query, end_node, node_label}
use Rattle.branch_expr.proofs.answers.eval.Goals as goal

pub loop-j-preserved : goal.loop-j-preserved
loop-j-preserved g c =
    let span = g.G.Digraph.span c.args.g.now in
    let label_at = g.G.Digraph.label_at c.args.g.now in
    let s = shape_by c.args.labels.now.texts span label_at (g.G.Digraph.edge c.args.g.now) in
    record {
      size = c.intersect.ensures.size ∙ c.in_ok-set-2.ensures.size;
      holds = set_query label_at s (g.met.G.Digraph.ends c.args.g.now) (step_of c.query.inside.first) c.query.inside.rest.items c.loop-j.j c.index-hop.result.now (omega arith) c.index-hop.ensures
          c.loop-j.set.members c.in_ok-reached.reached.members c.in_ok-set-2.set.members c.intersect.new.set.members c.loop-j.invariant.holds c.in_ok-reached.ensures.image c.in_ok-set-2.ensures.set c.intersect.ensures.members;
    }

pub returns-clause-answers : goal.returns-clause-answers
returns-clause-answers g c =
    let span = g.G.Digraph.span c.args.g.now in
    let label_at = g.G.Digraph.label_at c.args.g.now in
    let texts = c.args.labels.now.texts in
    let s = shape_by texts span label_at (g.G.Digraph.edge c.args.g.now) in
    let first = step_of c.query.inside.first in
    let hs = c.query.inside.rest.items in
    let all = subst (λ y. IsSetOf label_at c.loop-j.set.members (λ v. (u : ℕ) × Meets s first u × Ends s (chain_of y) u v)) (take_all c.loop-j.j hs (omega arith)) c.loop-j.invariant.holds in
    subst (λ t. AreBranchAnswers s t c.loop-j.set.members) c.query.view_is (record {
      rising = c.size-known.ensures.rising;
      sound = λ v h. ((all v).0 h).1;
      complete = λ v a.
          (all v).1 (end_node label_at s (g.met.G.Digraph.ends c.args.g.now) (λ n h. node_label (λ l. slice_get texts l) (label_at n) h) first (chain_of hs) a.0 v a.1 a.2, a);
    })

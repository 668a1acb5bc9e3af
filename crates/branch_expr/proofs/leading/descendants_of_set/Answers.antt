use Rattle.std.proofs.Common.{◌↔◌, ◌∙◌, ℕ, List, sym, subst, IsTrue}
use Rattle.std.specs.Prelude.{slice_get}
use Rattle.std.proofs.lemmas.Result.{IfOk-weaker}
use Rattle.graph_spec.specs.Members.{has}
use Rattle.path_automaton.specs.ProductSteps.{AreEnds}
use Rattle.branch_expr.proofs.ImageLaws.{far_image}
use Rattle.branch_expr.proofs.leading.descendants_of_set.Goals as goal

pub returns-clause-image : goal.returns-clause-image
returns-clause-image g c =
    let span = g.G.Digraph.span c.args.g.now in
    let label_at = g.G.Digraph.label_at c.args.g.now in
    let edge = g.G.Digraph.edge c.args.g.now in
    let same = subst (λ (l : List ℕ). (v : ℕ) → IsTrue (has l v) ↔ IsTrue (has c.args.set.now.members v)) (sym (c.deref.ensures.value ∙ c.in_ok-places.ensures)) (λ v. (λ h. h, λ h. h)) in
    let First : ℕ → Type 0 = λ v. IsTrue (has c.deref.result.now v) in
    IfOk-weaker c.search.result (λ b. AreEnds (λ k. slice_get c.in_ok-program.program k) span label_at edge First 1 b.members) _
    (λ b h x.
    let i = far_image span label_at edge First (g.met.G.Digraph.below c.args.g.now) (g.met.G.Digraph.ends c.args.g.now)
    (λ v f. c.requires v ((same v).0 f)) b.members (subst (λ p. AreEnds (λ k. slice_get p k) span label_at edge First 1 b.members) c.in_ok-program.ensures h) x in (
      λ m. let n = i.0 m in (n.0, (same n.0).0 n.1, n.2),
      λ n. i.1 (n.0, (same n.0).1 n.1, n.2),
    ))
    c.search.ensures.ends

use Rattle.std.proofs.Common.{ℕ, inl, inr, subst}
use Rattle.std.specs.Prelude.{slice_get}
use Rattle.std.proofs.lemmas.Bool.{cases_eq}
use Rattle.walk_proof.specs.Marking.{IsMarked, Among}
use Rattle.walk_proof.specs.Layering.{IsCandidateBy, IsLeastOf}
use Rattle.walk_proof.proofs.tracing.next_node.Goals as goal

pub returns-clause-candidate : goal.returns-clause-candidate
returns-clause-candidate g c =
    let at = λ (k : ℕ). slice_get c.args.program.now k in
    let size = g.G.Digraph.span c.args.g.now in
    let label_at = g.G.Digraph.label_at c.args.g.now in
    let edge = g.G.Digraph.edge c.args.g.now in
    let P : ℕ → Type 0 = λ x. IsCandidateBy at size label_at edge (Among c.args.layer.now) c.args.states.now c.args.place x in
    let Q : ℕ → Type 0 = λ x. IsCandidateBy at size label_at edge (IsMarked c.args.rows.now) c.args.states.now c.args.place x in
    elim (cases_eq c.args.place size) [
      | inl e ↦ (subst (IsLeastOf P) c.in-Some.is (c.in_ok-found.ensures.first e)).0
      | inr o ↦ (c.requires.marked c.in-Some.node).1 (subst (IsLeastOf Q) c.in-Some.is (c.in_ok-found.ensures.next o)).0
    ]

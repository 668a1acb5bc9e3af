use Rattle.std.proofs.Common.{◌≡◌, ◌↔◌, ◌∙◌, ℕ, sym, ap, subst, Some, IsTrue, true≢false}
use Rattle.std.specs.Prelude.{slice_get, option_and_then, IsSome}
use Rattle.std.proofs.lemmas.Result.{IfOk-weaker}
use Rattle.graph_spec.specs.Members.{has}
use Rattle.path_expr.proofs.LabelNumbers.{text_is}
use Rattle.branch_expr.proofs.LabelNames.{number_of}
use Rattle.branch_expr.proofs.meeting.label_leading.Goals as goal

pub returns-in-Some-clause-image : goal.returns-in-Some-clause-image
returns-in-Some-clause-image g c =
    let label_at = g.G.Digraph.label_at c.args.g.now in
    let edge = g.G.Digraph.edge c.args.g.now in
    let texts = c.args.labels.now.texts in
    let t = c.args.text.now in
    IfOk-weaker c.passing_children.result (λ b. (x : ℕ) → IsTrue (has b.members x) ↔ ((v : ℕ) × (label_at v ≡ Some c.in-Some.label) × IsTrue (edge v x))) _
    (λ b h x. (
      λ m. let p = (h x).0 m in (p.0, ap (λ o. option_and_then (λ l. slice_get texts l) o) p.1 ∙ text_is t texts c.in-Some.label (sym c.find.ensures.place ∙ c.in-Some.is), p.2),
      λ p. (h x).1 (p.0, number_of texts t (label_at p.0) c.find.ensures.distinct (g.met.G.Digraph.ends c.args.g.now p.0 x p.2).0 p.1 ∙ (sym c.find.ensures.place ∙ c.in-Some.is), p.2),
    ))
    c.passing_children.ensures.image

pub returns-in-None-clause-image : goal.returns-in-None-clause-image
returns-in-None-clause-image g c =
    let label_at = g.G.Digraph.label_at c.args.g.now in
    let texts = c.args.labels.now.texts in
    let t = c.args.text.now in
    IfOk-weaker c.new.result _ _
    (λ b h x. (
      λ m. absurd (true≢false (sym (subst (λ y. IsTrue (has y.members x)) h m))),
      λ p.
          let node = (g.met.G.Digraph.ends c.args.g.now p.0 x p.2).0 in
          let none = number_of texts t (label_at p.0) c.find.ensures.distinct node p.1 ∙ (sym c.find.ensures.place ∙ c.in-None.is) in
          absurd (true≢false (sym (subst (λ o. IsSome o) none node))),
    ))
    c.new.ensures

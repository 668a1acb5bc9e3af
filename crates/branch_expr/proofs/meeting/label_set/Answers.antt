use Rattle.std.proofs.Common.{◌≡◌, ◌↔◌, ◌∙◌, ℕ, sym, ap, subst, Some, IsTrue, true≢false}
use Rattle.std.specs.Prelude.{slice_get, option_and_then, is_some, IsSome}
use Rattle.std.proofs.lemmas.Result.{IfOk-weaker}
use Rattle.graph_spec.specs.Members.{has}
use Rattle.path_expr.proofs.LabelNumbers.{text_is}
use Rattle.branch_expr.proofs.LabelNames.{number_of}
use Rattle.branch_expr.proofs.meeting.label_set.Goals as goal

pub returns-in-Some-clause-set : goal.returns-in-Some-clause-set
returns-in-Some-clause-set g c =
    let label_at = g.G.Digraph.label_at c.args.g.now in
    let texts = c.args.labels.now.texts in
    let t = c.args.text.now in
    IfOk-weaker c.passing.result (λ b. (n : ℕ) → IsTrue (has b.members n) ↔ (label_at n ≡ Some c.in-Some.label)) _
    (λ b h v. (
      λ m. let e = (h v).0 m in (ap is_some e, ap (λ o. option_and_then (λ l. slice_get texts l) o) e ∙ text_is t texts c.in-Some.label (sym c.find.ensures.place ∙ c.in-Some.is)),
      λ p. (h v).1 (number_of texts t (label_at v) c.find.ensures.distinct p.0 p.1 ∙ (sym c.find.ensures.place ∙ c.in-Some.is)),
    ))
    c.passing.ensures.members

pub returns-in-None-clause-set : goal.returns-in-None-clause-set
returns-in-None-clause-set g c =
    let label_at = g.G.Digraph.label_at c.args.g.now in
    let texts = c.args.labels.now.texts in
    let t = c.args.text.now in
    IfOk-weaker c.new.result _ _
    (λ b h v. (
      λ m. absurd (true≢false (sym (subst (λ y. IsTrue (has y.members v)) h m))),
      λ p.
          let none = number_of texts t (label_at v) c.find.ensures.distinct p.0 p.1 ∙ (sym c.find.ensures.place ∙ c.in-None.is) in
          absurd (true≢false (sym (subst (λ o. IsSome o) none p.0))),
    ))
    c.new.ensures

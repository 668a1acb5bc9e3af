use Rattle.std.proofs.Common.{◌≡◌, ◌↔◌, ◌∙◌, ℕ, sym, ap, subst, Some, IsTrue, true≢false}
use Rattle.std.specs.Prelude.{slice_get, option_and_then, IsSome}
use Rattle.graph_spec.specs.Members.{has}
use Rattle.path_expr.proofs.LabelNumbers.{text_is}
use Rattle.branch_expr.proofs.LabelNames.{number_of}
use Rattle.branch_expr.proofs.meeting.keep_label.Goals as goal

pub returns-in-Some-clause-keeps : goal.returns-in-Some-clause-keeps
returns-in-Some-clause-keeps g c v =
    let label_at = g.G.Digraph.label_at c.args.g.now in
    let texts = c.args.labels.now.texts in
    let t = c.args.text.now in
    let number = sym c.find.ensures.place ∙ c.in-Some.is in
    let k : (v : ℕ) → IsTrue (has c.keep_labelled.new.set.members v) ↔ (IsTrue (has c.args.set.now.members v) × (label_at v ≡ Some c.in-Some.label)) = c.keep_labelled.ensures.members in (
      λ m.
          let p = (k v).0 m in
          (p.0, ap (λ o. option_and_then (λ l. slice_get texts l) o) p.1 ∙ text_is t texts c.in-Some.label number),
      λ p. (k v).1 (p.0, number_of texts t (label_at v) c.find.ensures.distinct (c.requires.nodes v p.0) p.1 ∙ number),
    )

pub returns-in_ok-none-in-None-clause-keeps : goal.returns-in_ok-none-in-None-clause-keeps
returns-in_ok-none-in-None-clause-keeps g c v =
    let label_at = g.G.Digraph.label_at c.args.g.now in
    let texts = c.args.labels.now.texts in
    let t = c.args.text.now in (
      λ m. absurd (true≢false (sym (subst (λ y. IsTrue (has y.members v)) c.in_ok-none-in-None.ensures ((c.intersect.ensures.members v).0 m).1))),
      λ p.
          let node = c.requires.nodes v p.0 in
          let none = number_of texts t (label_at v) c.find.ensures.distinct node p.1 ∙ (sym c.find.ensures.place ∙ c.in-None.is) in
          absurd (true≢false (sym (subst (λ o. IsSome o) none node))),
    )

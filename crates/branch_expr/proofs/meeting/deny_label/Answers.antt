use Rattle.std.proofs.Common.{◌≡◌, ◌↔◌, ◌∙◌, ℕ, sym, ap, subst, Some, IsTrue, true≢false}
use Rattle.std.specs.Prelude.{slice_get, option_and_then, IsSome}
use Rattle.graph_spec.specs.Members.{has}
use Rattle.path_expr.proofs.LabelNumbers.{text_is}
use Rattle.branch_expr.proofs.LabelNames.{number_of}
use Rattle.branch_expr.proofs.meeting.deny_label.Goals as goal

pub returns-in-Some-clause-spared : goal.returns-in-Some-clause-spared
returns-in-Some-clause-spared g c x =
    let label_at = g.G.Digraph.label_at c.args.g.now in
    let edge = g.G.Digraph.edge c.args.g.now in
    let texts = c.args.labels.now.texts in
    let t = c.args.text.now in
    let old = c.args.set.now.members in
    let new = c.remove_passing_children.new.set.members in
    let number = sym c.find.ensures.place ∙ c.in-Some.is in
    let h : (x : ℕ) → IsTrue (has new x) ↔ (IsTrue (has old x) × (((v : ℕ) × (label_at v ≡ Some c.in-Some.label) × IsTrue (edge v x)) → ⊥)) = c.remove_passing_children.ensures.members in (
      λ m.
          let p = (h x).0 m in
          (p.0, λ led. p.1 (led.0, number_of texts t (label_at led.0) c.find.ensures.distinct (g.met.G.Digraph.ends c.args.g.now led.0 x led.2).0 led.1 ∙ number, led.2)),
      λ p. (h x).1 (p.0, λ led. p.1 (led.0, ap (λ o. option_and_then (λ l. slice_get texts l) o) led.1 ∙ text_is t texts c.in-Some.label number, led.2)),
    )

pub returns-in_default-clause-spared : goal.returns-in_default-clause-spared
returns-in_default-clause-spared g c x =
    let label_at = g.G.Digraph.label_at c.args.g.now in
    let texts = c.args.labels.now.texts in
    let t = c.args.text.now in (
      λ m. (
        m,
        λ led.
            let node = (g.met.G.Digraph.ends c.args.g.now led.0 x led.2).0 in
            let none = number_of texts t (label_at led.0) c.find.ensures.distinct node led.1 ∙ (sym c.find.ensures.place ∙ c.in_default.is) in
            absurd (true≢false (sym (subst (λ o. IsSome o) none node))),
      ),
      λ p. p.0,
    )

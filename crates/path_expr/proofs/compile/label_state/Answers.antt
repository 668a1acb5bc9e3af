use Rattle.std.proofs.Common.{◌≡◌, ◌∙◌, sym, refl, inl, inr, None, Some, Option, ℕ}
use Rattle.path_expr.proofs.LabelNumbers.{number_is, text_is}
use Rattle.path_expr.proofs.compile.label_state.Goals as goal

pub returns-in-Some : goal.returns-in-Some
returns-in-Some c = inl (c.in-Some.number, refl, text_is c.args.label.now c.args.labels.now.texts c.in-Some.number (sym c.find.ensures.place ∙ c.in-Some.is))

pub returns-in-None : goal.returns-in-None
returns-in-None c = inr (
  refl,
  λ k.
      let is = number_is c.args.label.now c.args.labels.now.texts k.0 c.find.ensures.distinct k.1 in
      let clash : ◌≡◌ {A = Option ℕ} None (Some k.0) = sym c.in-None.is ∙ c.find.ensures.place ∙ is in cc,
)

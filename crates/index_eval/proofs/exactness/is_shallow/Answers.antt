use Rattle.std.proofs.Common.{◌≡◌, ◌≤◌, sym, ◌∙◌, subst, arith}
use Rattle.std.proofs.lemmas.Bool.Decides.{nat_tests}
use Rattle.branch_spec.specs.Depths.{IsUpTo}
use Rattle.index_eval.proofs.exactness.is_shallow.Goals as goal

pub returns-in-Some : goal.returns-in-Some
returns-in-Some c =
    let is = sym c.depth.ensures ∙ c.in-Some.is in (
      λ t. subst (λ o. IsUpTo o c.args.level) (sym is) (grind (arith, nat_tests)),
      λ h.
          let few : c.in-Some.edges ≤ c.args.level = subst (λ o. IsUpTo o c.args.level) is h in
          grind (arith, nat_tests),
    )

pub returns-in-None : goal.returns-in-None
returns-in-None c =
    let none = sym c.depth.ensures ∙ c.in-None.is in (
      λ t. absurd (cc (t)),
      λ h. absurd (subst (λ o. IsUpTo o c.args.level) none h),
    )

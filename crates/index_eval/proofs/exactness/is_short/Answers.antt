use Rattle.std.proofs.Common.{◌≡◌, Some, None, subst, arith}
use Rattle.std.proofs.lemmas.Bool.Decides.{nat_tests}
use Rattle.std.proofs.lemmas.Option.{same_Some}
use Rattle.path_spec.specs.Matches.{Matches}
use Rattle.path_spec.specs.Longest.{IsLongest}
use Rattle.path_spec.proofs.Longest.{one_longest}
use Rattle.index_eval.proofs.exactness.is_short.Goals as goal

pub returns-in-Some : goal.returns-in-Some
returns-in-Some c =
    let P = Matches c.args.expr.now in
    let n = c.in-Some.len in
    let is : IsLongest P (Some n) = subst (λ o. IsLongest P o) c.in-Some.is c.longest.ensures in (
      λ t. (n, is, grind (arith, nat_tests)),
      λ h.
          let same : n ≡ h.0 = same_Some n h.0 (one_longest P (Some n) (Some h.0) is h.1) in
          let few = h.2 in
          grind (arith, nat_tests),
    )

pub returns-in-None : goal.returns-in-None
returns-in-None c =
    let P = Matches c.args.expr.now in
    let none : IsLongest P None = subst (λ o. IsLongest P o) c.in-None.is c.longest.ensures in (
      λ t. absurd (cc (t)),
      λ h. cc (one_longest P None (Some h.0) none h.1),
    )

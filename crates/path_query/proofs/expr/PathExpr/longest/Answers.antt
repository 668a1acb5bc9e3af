use Rattle.std.proofs.Common.{◌∙◌, ◌^◌, sym, ap, subst}
use Rattle.path_spec.specs.Matches.{Matches}
use Rattle.path_spec.specs.Longest.{IsLongest}
use Rattle.path_expr.specs.WordLengths.{longest}
use Rattle.path_expr.proofs.LongestWords.{longest_is}
use Rattle.path_query.specs.Lengths.{IsBounded}
use Rattle.path_query.proofs.Shortness.{uncapped}
use Rattle.path_query.proofs.expr.PathExpr.longest.Goals as goal

pub narrow-requires : goal.narrow-requires
narrow-requires c =
    let e = c.longest.ensures ∙ uncapped (longest c.self.inside.tree) c.self.invariant.1 in
    subst (λ o. IsBounded o (2 ^ 30)) (sym e) c.self.invariant.1

pub returns : goal.returns
returns c =
    let e = c.narrow.ensures ∙ c.longest.ensures ∙ uncapped (longest c.self.inside.tree) c.self.invariant.1 ∙ ap longest c.self.view_is in
    subst (λ o. IsLongest (Matches c.args.self.now) o) (sym e) (longest_is c.args.self.now)

use Rattle.std.proofs.Common.{◌≤◌, length, Some, subst, arith}
use Rattle.path_spec.specs.Matches.{Matches}
use Rattle.path_spec.specs.Longest.{IsLongest}
use Rattle.data_validate.proofs.checks.most_edges.Goals as goal

pub returns-in-Some : goal.returns-in-Some
returns-in-Some c w k matches more =
    let is : IsLongest (Matches c.args.expr.now) (Some c.in-Some.len) = subst (λ o. IsLongest (Matches c.args.expr.now) o) c.in-Some.is c.longest.ensures in
    let most : length w ≤ c.in-Some.len = is.1 w matches in
    omega (arith, most, more)

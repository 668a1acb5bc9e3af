use Rattle.std.proofs.Common.{ap, unwrap_or}
use Rattle.quotient.proofs.Looked.{found_in}
use Rattle.quotient.specs.QuotientTables.{KeptPairs}
use Rattle.quotient.proofs.supports.Supports.get.Goals as goal

pub returns-in-Some : goal.returns-in-Some
returns-in-Some c = ap (λ o. unwrap_or o 0) (found_in c.self.inside.table.entries c.args.self.now.pairs (c.args.a, c.args.b) _ (ap (λ (k : KeptPairs). k.pairs) c.self.view_is) c.in-Some.ensures.value)

pub returns-in-None : goal.returns-in-None
returns-in-None c = ap (λ o. unwrap_or o 0) (found_in c.self.inside.table.entries c.args.self.now.pairs (c.args.a, c.args.b) _ (ap (λ (k : KeptPairs). k.pairs) c.self.view_is) c.in-None.ensures.value)

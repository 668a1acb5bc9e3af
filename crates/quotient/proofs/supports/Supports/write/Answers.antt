use Rattle.std.proofs.Common.{◌∙◌, sym, subst, ap}
use Rattle.std.specs.FinMap as map
use Rattle.quotient.specs.QuotientNeighbours.{IsPositive}
use Rattle.quotient.specs.QuotientTables.{KeptPairs}
use Rattle.quotient.proofs.Looked.{written}
use Rattle.quotient.proofs.Taken.{positive_inserted}
use Rattle.quotient.proofs.supports.Supports.write.Goals as goal

pub invariant_of-self : goal.invariant_of-self
invariant_of-self c =
    let es = c.self.inside.table.entries in
    let now = written es c.insert.new.self.entries (c.args.a, c.args.b) c.args.n c.in-Ok.ensures.updates.0 in
    subst IsPositive (sym now) (positive_inserted (map.from_entries es) (c.args.a, c.args.b) c.args.n c.requires.some c.self.invariant)

pub returns-clause-pairs : goal.returns-clause-pairs
returns-clause-pairs c =
    written c.self.inside.table.entries c.insert.new.self.entries (c.args.a, c.args.b) c.args.n c.in-Ok.ensures.updates.0
    ∙ ap (λ (k : KeptPairs). map.insert k.pairs (c.args.a, c.args.b) c.args.n) c.self.view_is

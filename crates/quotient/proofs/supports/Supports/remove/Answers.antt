use Rattle.std.proofs.Common.{◌∙◌, sym, subst, ap}
use Rattle.std.specs.FinMap as map
use Rattle.quotient.specs.QuotientNeighbours.{IsPositive}
use Rattle.quotient.specs.QuotientTables.{KeptPairs}
use Rattle.quotient.proofs.Taken.{removed, positive_removed}
use Rattle.quotient.proofs.supports.Supports.remove.Goals as goal

pub invariant_of-self : goal.invariant_of-self
invariant_of-self c =
    let es = c.self.inside.table.entries in
    let now = removed es c.swap_remove_full.new.self.entries (c.args.a, c.args.b) c.swap_remove_full.ensures.updates.0 in
    subst IsPositive (sym now) (positive_removed (map.from_entries es) (c.args.a, c.args.b) c.self.invariant)

pub invariant_of-self-in-None : goal.invariant_of-self-in-None
invariant_of-self-in-None c =
    let es = c.self.inside.table.entries in
    let now = removed es c.swap_remove_full.new.self.entries (c.args.a, c.args.b) c.swap_remove_full.ensures.updates.0 in
    subst IsPositive (sym now) (positive_removed (map.from_entries es) (c.args.a, c.args.b) c.self.invariant)

pub returns-in-Some-clause-pairs : goal.returns-in-Some-clause-pairs
returns-in-Some-clause-pairs c =
    removed c.self.inside.table.entries c.swap_remove_full.new.self.entries (c.args.a, c.args.b) c.swap_remove_full.ensures.updates.0
    ∙ ap (λ (k : KeptPairs). map.remove k.pairs (c.args.a, c.args.b)) c.self.view_is

pub returns-in-None-clause-pairs : goal.returns-in-None-clause-pairs
returns-in-None-clause-pairs c =
    removed c.self.inside.table.entries c.swap_remove_full.new.self.entries (c.args.a, c.args.b) c.swap_remove_full.ensures.updates.0
    ∙ ap (λ (k : KeptPairs). map.remove k.pairs (c.args.a, c.args.b)) c.self.view_is

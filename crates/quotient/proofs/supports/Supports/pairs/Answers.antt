use Rattle.std.proofs.Common.{sym, ◌∙◌, ap}
use Rattle.std.specs.FinMap as map
use Rattle.quotient.proofs.Looked.{entries_len, pairs_all}
use Rattle.quotient.specs.QuotientTables.{KeptPairs}
use Rattle.quotient.proofs.supports.Supports.pairs.Goals as goal

pub returns : goal.returns
returns c =
    let es = c.self.inside.table.entries in
    rw (← (ap (λ (k : KeptPairs). k.pairs) c.self.view_is)) (c.len.ensures.len ∙ sym (entries_len es c.len.ensures.unique) ∙ sym (pairs_all (map.from_entries es) c.self.invariant))

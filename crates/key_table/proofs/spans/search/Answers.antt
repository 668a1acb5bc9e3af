use Rattle.key_table.proofs.DistinctKeys.{search_end}
use Rattle.key_table.proofs.spans.search.Goals as goal

pub returns-clause-absent : goal.returns-clause-absent
returns-clause-absent c = search_end _ _ _ (rw c.in_default.is at c.walk.invariant)

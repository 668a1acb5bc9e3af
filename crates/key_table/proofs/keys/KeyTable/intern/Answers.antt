use Rattle.std.proofs.Common.{subst}
use Rattle.key_table.specs.NumberedKeys.{AreDistinct}
use Rattle.key_table.proofs.DistinctKeys.{distinct_keys}
use Rattle.key_table.proofs.keys.KeyTable.intern.Goals as goal

pub returns-in-Some-clause-distinct : goal.returns-in-Some-clause-distinct
returns-in-Some-clause-distinct c = subst AreDistinct c.self.view_is (distinct_keys _ _ c.self.invariant)

pub returns-clause-distinct : goal.returns-clause-distinct
returns-clause-distinct c = distinct_keys _ _ c.add.ensures.table

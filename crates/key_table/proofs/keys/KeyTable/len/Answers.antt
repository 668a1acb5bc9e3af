use Rattle.std.proofs.Common.{subst}
use Rattle.key_table.specs.NumberedKeys.{AreDistinct}
use Rattle.key_table.proofs.DistinctKeys.{distinct_keys}
use Rattle.key_table.proofs.keys.KeyTable.len.Goals as goal

pub returns-clause-distinct : goal.returns-clause-distinct
returns-clause-distinct c = subst AreDistinct c.self.view_is (distinct_keys _ _ c.self.invariant)

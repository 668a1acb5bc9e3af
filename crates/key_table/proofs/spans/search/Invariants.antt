use Rattle.hash_index.specs.Items.{count_to}
use Rattle.key_table.proofs.DistinctKeys.{IsKeySearch}
use Rattle.key_table.proofs.spans.search.Given as goal

abbrev pub invariant-walk : goal.invariant-walk
invariant-walk l = IsKeySearch l.arena l.index l.key l.at

abbrev pub decreases-walk : goal.decreases-walk
decreases-walk l = count_to l.at

use Rattle.hash_index.specs.Items.{count_to}
use Rattle.term_table.specs.TermParts.{parts_value}
use Rattle.term_table.proofs.Spelled.{IsTermSearch}
use Rattle.term_table.proofs.table.search.Given as goal

abbrev pub invariant-walk : goal.invariant-walk
invariant-walk l = IsTermSearch l.arena l.index (parts_value l.parts) l.at

abbrev pub decreases-walk : goal.decreases-walk
decreases-walk l = count_to l.at

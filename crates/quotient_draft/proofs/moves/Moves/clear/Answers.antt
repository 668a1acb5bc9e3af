use Rattle.quotient_draft.proofs.Emptied.{none_moved}
use Rattle.quotient_draft.proofs.moves.Moves.clear.Goals as goal

pub invariant_of-self : goal.invariant_of-self
invariant_of-self c =
    none_moved c.empty_table.new.table.entries c.empty_table-2.new.table.entries c.empty_table-3.new.table.entries c.clear.new.self c.empty_table.ensures c.empty_table-2.ensures c.empty_table-3.ensures

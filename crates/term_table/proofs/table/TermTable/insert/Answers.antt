use Rattle.std.proofs.Common.{ap, ◌∙◌}
use Rattle.term_table.specs.Terms.{number_of}
use Rattle.term_table.proofs.FoundLemmas.{absent_parts}
use Rattle.term_table.proofs.table.TermTable.insert.Goals as goal

pub put-requires-clause-absent : goal.put-requires-clause-absent
put-requires-clause-absent c =
    absent_parts c.self.inside.arena.items c.self.inside.index c.self.invariant c.args.term.now (ap (λ ts. number_of ts c.args.term.now) c.self.view_is ∙ c.requires.absent)

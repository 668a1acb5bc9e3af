use Rattle.keyed_quotient.proofs.Compacted.{carried_numbering, carried_keys}
use Rattle.keyed_quotient.proofs.compacting.compact.Goals as goal

pub returns-clause-numbering : goal.returns-clause-numbering
returns-clause-numbering c = carried_numbering c.args.summary.now.blocks.labels c.args.numbers.now c.in_ok-new.new c.requires c.in_ok-new.ensures

pub returns-clause-keys : goal.returns-clause-keys
returns-clause-keys c = carried_keys c.args.summary.now.blocks.labels c.args.numbers.now c.in_ok-new.new c.requires c.in_ok-new.ensures

use Rattle.keyed_quotient.proofs.Numbered.{counted_numbering, counted_keys}
use Rattle.keyed_quotient.proofs.keyed.KeyedSummary.new.Goals as goal

pub invariant_of-result : goal.invariant_of-result
invariant_of-result c =
    counted_numbering c.args.summary.blocks.labels c.args.keys c.in_ok-numbers.numbers c.requires c.in_ok-numbers.ensures.table c.in_ok-numbers.ensures.fits c.in_ok-numbers.ensures.leads

pub returns-clause-keys : goal.returns-clause-keys
returns-clause-keys c = counted_keys c.args.summary.blocks.labels c.args.keys c.in_ok-numbers.numbers c.requires c.in_ok-numbers.ensures.leads

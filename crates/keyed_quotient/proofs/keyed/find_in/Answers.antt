use Rattle.keyed_quotient.proofs.Numbered.{absent_no}
use Rattle.keyed_quotient.proofs.keyed.find_in.Goals as goal

pub returns-in-None-clause-leads : goal.returns-in-None-clause-leads
returns-in-None-clause-leads c = absent_no c.args.summary.now.blocks.labels c.args.numbers.now c.args.key.now c.requires c.in-None.ensures.absent

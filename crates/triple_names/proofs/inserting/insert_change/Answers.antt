use Rattle.std.proofs.Common.{rules}
use Rattle.triple_names.proofs.InsertKept.{insert_kept}
use Rattle.triple_names.proofs.inserting.insert_change.Goals as goal

pub returns-clause-keeps : goal.returns-clause-keeps
returns-clause-keeps c = insert_kept c.args.names.now.names c.args.graph.now.graph c.args.triple.now _ _ (search rules) (search rules)

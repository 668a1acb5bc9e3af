use Rattle.std.proofs.Common.{rules}
use Rattle.triple_names.proofs.DeleteKept.{delete_kept}
use Rattle.triple_names.proofs.deleting.delete_change.Goals as goal

pub returns-clause-keeps : goal.returns-clause-keeps
returns-clause-keeps c = delete_kept c.args.names.now.names c.args.graph.now.graph c.args.triple.now c.if-not-is_same.change (search rules)

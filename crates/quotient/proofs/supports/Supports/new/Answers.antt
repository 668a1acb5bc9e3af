use Rattle.std.proofs.Common.{ap}
use Rattle.std.specs.FinMap as map
use Rattle.graph_spec.specs.Graphs.{edge_cmp}
use Rattle.quotient.proofs.Looked.{positive_none}
use Rattle.quotient.proofs.supports.Supports.new.Goals as goal

pub invariant_of-result : goal.invariant_of-result
invariant_of-result c = positive_none (map.from_entries {R = edge_cmp} c.new.result.entries) (ap (map.from_entries {R = edge_cmp}) c.new.ensures.empty)

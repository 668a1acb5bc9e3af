use Rattle.std.proofs.Common.{◌∙◌, ap}
use Rattle.graph_spec.specs.Graphs.{is_seen}
use Rattle.test_graphs.proofs.LastLabels.{has_last}
use Rattle.test_graphs.proofs.tests.put_label.Goals as goal

pub set_label-requires-clause-reserved : goal.set_label-requires-clause-reserved
set_label-requires-clause-reserved g c =
    ap (λ r. is_seen r.relabels c.args.label.now) c.in_ok-reserve_label.ensures.ok ∙ has_last c.args.graph.now.reserved.relabels c.args.label.now

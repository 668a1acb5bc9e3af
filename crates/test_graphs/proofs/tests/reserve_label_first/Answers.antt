use Rattle.std.proofs.Common.{◌∙◌, ap}
use Rattle.graph_spec.specs.Graphs.{is_seen}
use Rattle.test_graphs.proofs.LastLabels.{has_last}
use Rattle.test_graphs.proofs.tests.reserve_label_first.Goals as goal

pub returns-clause-label : goal.returns-clause-label
returns-clause-label c =
    ap (λ r. is_seen r.relabels c.args.label.now) c.in_ok-reserve_node.ensures.ok
    ∙ ap (λ r. is_seen r.relabels c.args.label.now) c.in_ok-reserve_label.ensures.ok ∙ has_last c.args.graph.now.reserved.relabels c.args.label.now

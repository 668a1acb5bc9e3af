use Rattle.std.proofs.Common.{◌∷◌}
use Rattle.graph_spec.specs.Words.{node_word}
use Rattle.extent_report.proofs.RisingLists.{flat_more}
use Rattle.extent_report.proofs.output.push_nodes.Goals as goal

pub loop-n-preserved : goal.loop-n-preserved
loop-n-preserved c = flat_more (λ n. 32 ∷ node_word n) c.args.nodes.now _ _ _ _ 0 c.loop-n-test.true c.loop-n.invariant c.in_ok-push_node.ensures

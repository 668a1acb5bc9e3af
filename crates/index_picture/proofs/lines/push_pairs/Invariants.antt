use Rattle.std.proofs.Common.{◌≡◌, ◌++◌, take}
use Rattle.graph_spec.specs.Graphs.{has_edge}
use Rattle.index_picture.specs.Pictures.{pair_lines}
use Rattle.index_picture.proofs.lines.push_pairs.Given as goal

abbrev pub invariant-loop-pair : goal.invariant-loop-pair
invariant-loop-pair g l = l.out.items ≡ l.fn.out.items ++ pair_lines (has_edge l.graph.graph) l.summary.blocks (take l.pair-index l.pairs)

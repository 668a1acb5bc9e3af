use Rattle.std.proofs.Common.{◌≡◌, ◌++◌, ◌≤◌, length}
use Rattle.std.specs.Prelude.{string_bytes}
use Rattle.graph_spec.specs.Shapes.{shape_of}
use Rattle.bisim_spec.specs.Tests.{together}
use Rattle.extent_report.specs.ListedBlocks.{texts_below}
use Rattle.index_file.specs.WrittenFiles.{rank_line}
use Rattle.index_file.specs.BlockRanks.{AreRanks}
use Rattle.index_file.proofs.view_lines.push_ranks.Given as goal

abbrev pub invariant-loop-n : goal.invariant-loop-n
invariant-loop-n l = record {
  written : string_bytes l.out ≡ string_bytes l.initial.out ++ texts_below l.n (rank_line (shape_of l.graph.graph) (together l.summary.blocks.block_of));
  ranks : AreRanks (shape_of l.graph.graph) l.summary.blocks.block_of l.n l.ranks.of.items l.ranks.count;
  within : length l.summary.blocks.labels ≤ length l.ranks.of.items;
  few : l.ranks.count ≤ l.n;
}

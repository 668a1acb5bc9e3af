use Rattle.std.proofs.Common.{◌≡◌, ◌++◌}
use Rattle.std.specs.Prelude.{string_bytes}
use Rattle.extent_report.specs.ListedBlocks.{texts_below}
use Rattle.extent_report.specs.Summaries.{line_at}
use Rattle.extent_report.proofs.extents.push_blocks.Given as goal

abbrev pub invariant-loop-n : goal.invariant-loop-n
invariant-loop-n l = string_bytes l.out ≡ string_bytes l.fn.out ++ texts_below l.n (line_at l.labels.texts l.chains)

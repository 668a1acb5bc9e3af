use Rattle.std.proofs.Common.{◌≡◌, ◌++◌, take}
use Rattle.std.specs.Prelude.{string_bytes}
use Rattle.std.specs.List.{flat_map}
use Rattle.extent_report.specs.Summaries.{line_at}
use Rattle.extent_report.proofs.gathered.push_blocks.Given as goal

abbrev pub invariant-loop-n : goal.invariant-loop-n
invariant-loop-n l = string_bytes l.out ≡ string_bytes l.fn.out ++ flat_map (line_at l.labels.texts l.summary.blocks) (take l.n-index l.nodes)

use Rattle.std.proofs.Common.{take}
use Rattle.graph_spec.specs.Members.{at}
use Rattle.bisim_spec.specs.IndexGraphs.{support_at}
use Rattle.one_merge.specs.ParentlessBlocks.{NotesAllParentless}
use Rattle.one_merge.proofs.parentless.ParentlessBlocks.note_all.Given as goal

abbrev pub invariant-loop-i : goal.invariant-loop-i
invariant-loop-i l = NotesAllParentless (at l.base.blocks.labels) (support_at l.base.supports) l.self (take l.i l.blocks)

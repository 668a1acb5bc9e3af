use Rattle.std.proofs.Common.{◌≡◌, ◌+◌, take, length}
use Rattle.quotient_draft.specs.Drafts.{with_moves}
use Rattle.quotient_draft.proofs.moves.Moves.make_in.Given as goal

abbrev pub invariant-loop-i : goal.invariant-loop-i
invariant-loop-i l = record {
  blocks : l.base.blocks.block_of ≡ with_moves l.initial.base.blocks.block_of (take l.i l.self-inside.moves.entries);
  labels : l.base.blocks.labels ≡ l.initial.base.blocks.labels;
  supports : l.base.supports ≡ l.initial.base.supports;
  pairs : l.base.reserved ≡ l.initial.base.reserved;
  top : length l.base.blocks.block_of + l.base.blocks.reserved.nodes ≡ length l.initial.base.blocks.block_of + l.initial.base.blocks.reserved.nodes;
}

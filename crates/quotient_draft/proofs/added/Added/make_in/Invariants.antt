use Rattle.std.proofs.Common.{◌≡◌, ◌+◌, take}
use Rattle.quotient_draft.specs.Drafts.{with_added}
use Rattle.quotient_draft.proofs.added.Added.make_in.Given as goal

abbrev pub invariant-loop-i : goal.invariant-loop-i
invariant-loop-i l = record {
  labels : l.base.blocks.labels ≡ with_added l.initial.base.blocks.labels (take l.i l.self-inside.blocks.entries);
  blocks : l.base.blocks.block_of ≡ l.initial.base.blocks.block_of;
  nodes : l.base.blocks.reserved.nodes ≡ l.initial.base.blocks.reserved.nodes;
  supports : l.base.supports ≡ l.initial.base.supports;
  pairs : l.base.reserved ≡ l.initial.base.reserved;
  rest : l.base.blocks.reserved.blocks + l.i ≡ l.initial.base.blocks.reserved.blocks;
}

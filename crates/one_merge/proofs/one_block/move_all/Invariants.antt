use Rattle.std.proofs.Common.{◌≡◌, ℕ, Some, cond, take}
use Rattle.graph_spec.specs.Members.{at, has}
use Rattle.quotient_draft.specs.Drafts.{shown_blocks}
use Rattle.quotient_draft.specs.Basis.{IsOver}
use Rattle.one_merge.proofs.one_block.move_all.Given as goal

abbrev pub invariant-loop-i : goal.invariant-loop-i
invariant-loop-i l = record {
  blocks : (m : ℕ) → at (shown_blocks l.base l.draft) m ≡ cond (has (take l.i l.nodes) m) (Some l.b) (at (shown_blocks l.base l.fn.draft) m);
  added : l.draft.added ≡ l.fn.draft.added;
  supports : l.draft.supports ≡ l.fn.draft.supports;
  over : IsOver l.base.blocks.block_of l.base.blocks.labels l.draft;
}

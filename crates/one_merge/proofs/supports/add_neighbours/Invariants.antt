use Rattle.std.proofs.Common.{◌≡◌, ℕ, cond, take}
use Rattle.graph_spec.specs.Members.{has}
use Rattle.quotient_draft.specs.Drafts.{shown_support}
use Rattle.quotient_draft.specs.Basis.{IsOver}
use Rattle.one_merge.specs.Merged.{support_by, with_column}
use Rattle.one_merge.proofs.supports.add_neighbours.Given as goal

abbrev pub invariant-loop-i : goal.invariant-loop-i
invariant-loop-i l = record {
  supports : (u v : ℕ) → support_by l.side (shown_support l.base l.draft) u v
      ≡ cond (has (take l.i l.list) u) (with_column l.a l.b (support_by l.side (shown_support l.base l.fn.draft)) u v) (support_by l.side (shown_support l.base l.fn.draft) u v);
  added : l.draft.added ≡ l.fn.draft.added;
  moves : l.draft.moves ≡ l.fn.draft.moves;
  over : IsOver l.base.blocks.block_of l.base.blocks.labels l.draft;
}

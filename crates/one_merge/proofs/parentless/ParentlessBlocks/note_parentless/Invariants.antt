use Rattle.std.proofs.Common.{◌≡◌, ℕ, Some, IsTrue, take}
use Rattle.graph_spec.specs.Members.{at, has}
use Rattle.quotient_draft.specs.Drafts.{settled_view, shown_support}
use Rattle.one_merge.specs.ParentlessBlocks.{IsNoted, IsParentless}
use Rattle.one_merge.proofs.parentless.ParentlessBlocks.note_parentless.Given as goal

abbrev pub invariant-loop-i : goal.invariant-loop-i
invariant-loop-i l = record {
  kept : (k c : ℕ) → IsNoted l.fn.self k c → IsNoted l.self k c;
  noted : (b label : ℕ) → IsTrue (has (take l.i l.blocks) b) → at (settled_view l.base l.draft).labels b ≡ Some label → IsParentless (shown_support l.base l.draft) b → IsNoted l.self label b;
}

use Rattle.std.proofs.Common.{◌≡◌, ℕ, Some, IsTrue, take}
use Rattle.graph_spec.specs.Members.{at, has}
use Rattle.quotient_draft.specs.Drafts.{shown_blocks}
use Rattle.one_update.proofs.resettling.add_blocks.Given as goal

abbrev pub invariant-loop-i : goal.invariant-loop-i
invariant-loop-i l = record {
  kept : (b : ℕ) → IsTrue (has l.fn.blocks.items b) → IsTrue (has l.blocks.items b);
  there : (n b : ℕ) → IsTrue (has (take l.i l.nodes) n) → at (shown_blocks l.base l.draft) n ≡ Some b → IsTrue (has l.blocks.items b);
}

-- Blocks to which no other block has support, noted by their labels.
use Rattle.std.specs.Prelude.{◌≡◌, ◌≢◌, ℕ, List, Option, Some, IsTrue}
use Rattle.smallvec.specs.SmallVec.{SmallVec}
use Rattle.graph_spec.specs.Members.{at, has}
use Rattle.bisim_spec.specs.IndexGraphs.{support_at}
use Rattle.quotient.specs.Quotients.{Quotient}
use Rattle.quotient_draft.specs.Drafts.{Drafted, settled_view, shown_support}
use Rattle.quotient_draft.specs.PairEnds.{listed}

-- labels, each with the blocks that are noted for it
abbrev pub ParentlessLists : Type 0
ParentlessLists = List (ℕ × SmallVec ℕ)

-- whether a block is noted for a label
abbrev pub IsNoted : ParentlessLists → ℕ → ℕ → Type 0
IsNoted parentless label b = IsTrue (has (listed parentless label) b)

-- no other block has support to this one
abbrev pub IsParentless : (ℕ → ℕ → ℕ) → ℕ → Type 0
IsParentless support b = (a : ℕ) → a ≢ b → support a b ≡ 0

-- where the block has a label, and no other block has support to it, it is noted
abbrev pub NotesParentless : (ℕ → Option ℕ) → (ℕ → ℕ → ℕ) → ParentlessLists → ℕ → Type 0
NotesParentless labels support parentless b = (label : ℕ) → labels b ≡ Some label → IsParentless support b → IsNoted parentless label b

-- each block of the list that has a label, and to which no other block has support, is noted
abbrev pub NotesAllParentless : (ℕ → Option ℕ) → (ℕ → ℕ → ℕ) → ParentlessLists → List ℕ → Type 0
NotesAllParentless labels support parentless list =
    (b label : ℕ) → IsTrue (has list b) → labels b ≡ Some label → IsParentless support b → IsNoted parentless label b

-- Each block to which no other has support is noted for its label. Others may be noted too.
pub record CoversParentless (labels : ℕ → Option ℕ) (support : ℕ → ℕ → ℕ) (parentless : ParentlessLists) : Type 0 where
  -- a block that has a label, and to which no other has support, is noted for that label
  pub each : (b label : ℕ) → labels b ≡ Some label → IsParentless support b → IsNoted parentless label b

-- the parentless blocks of a quotient are noted
abbrev pub CoversBase : Quotient → ParentlessLists → Type 0
CoversBase q parentless = CoversParentless (at q.blocks.labels) (support_at q.supports) parentless

-- the parentless blocks that a quotient has once a draft is settled are noted
abbrev pub CoversShown : Quotient → Drafted → ParentlessLists → Type 0
CoversShown q d parentless = CoversParentless (at (settled_view q d).labels) (shown_support q d) parentless

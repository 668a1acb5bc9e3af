-- Blocks without members that are taken away.
use Rattle.std.specs.Prelude.{◌≡◌, ℕ, ◌&&◌, not, List, length, None, cond}
use Rattle.graph_spec.specs.Members.{at, has}
use Rattle.quotient.specs.Quotients.{Quotient}
use Rattle.quotient_draft.specs.Drafts.{has_member}

-- the blocks among these that have no members are taken away, and all else is as it was
pub record IsRetired (among : List ℕ) (old new : Quotient) : Type 0 where
  -- each node is in the block where it was
  pub block_of : new.blocks.block_of ≡ old.blocks.block_of
  -- supports are as they were
  pub supports : new.supports ≡ old.supports
  -- so is the number of places for labels
  pub len : length new.blocks.labels ≡ length old.blocks.labels
  -- a block among these that has no members has no label, and all others have theirs
  pub labels : (b : ℕ) → at new.blocks.labels b ≡ cond (has among b && not (has_member old.blocks.block_of b)) None (at old.blocks.labels b)

use Rattle.std.proofs.Common.{◌≡◌, ℕ, ◌+◌, take, List, Option}
use Rattle.quotient_draft.specs.Basis.{IsOver}
use Rattle.quotient_draft.specs.Drafts.{shown_blocks, shown_support}
use Rattle.quotient_moves.specs.Shifts.{lead_count, MovesNode}
use Rattle.quotient_moves.proofs.shifting.shift_neighbours.Given as goal

abbrev pub invariant-loop-m : goal.invariant-loop-m
invariant-loop-m l = record {
  added : l.draft.added ≡ l.initial.draft.added;
  moves : l.draft.moves ≡ l.initial.draft.moves;
  over : IsOver l.base.blocks.block_of l.base.blocks.labels l.draft;
  shifted : (x y : ℕ) (block2 : List (Option ℕ)) → MovesNode l.n l.own l.b (shown_blocks l.base l.initial.draft) block2
      → shown_support l.base l.draft x y + lead_count l.side (shown_blocks l.base l.initial.draft) l.n x y (take l.m-index l.neighbours)
      ≡ shown_support l.base l.initial.draft x y + lead_count l.side block2 l.n x y (take l.m-index l.neighbours);
}

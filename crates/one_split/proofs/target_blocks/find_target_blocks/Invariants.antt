use Rattle.std.proofs.Common.{◌≡◌, ℕ, length}
use Rattle.graph_spec.specs.Members.{at}
use Rattle.quotient_draft.specs.Basis.{IsOver}
use Rattle.quotient_draft.specs.Drafts.{shown_blocks, shown_labels, shown_support}
use Rattle.one_split.specs.NodeTargetBlocks.{AreGroupTargetBlocks, AreBlocks, TargetBlocksExist, AreAdded, TargetBlocksHaveLabels, LabelsStay}
use Rattle.one_split.proofs.Chosen.{AreNoted}
use Rattle.one_split.proofs.target_blocks.find_target_blocks.Given as goal

abbrev pub invariant-loop-k : goal.invariant-loop-k
invariant-loop-k l = record {
  over : IsOver l.base.blocks.block_of l.base.blocks.labels l.draft;
  stay : shown_blocks l.base l.draft ≡ shown_blocks l.base l.initial.draft;
  supports : (x y : ℕ) → shown_support l.base l.draft x y ≡ shown_support l.base l.initial.draft x y;
  count : length l.target_blocks.items ≡ l.k;
  going : AreGroupTargetBlocks (shown_blocks l.base l.initial.draft) l.counts.entries l.keys l.target_blocks.items;
  noted : AreNoted l.keys l.target_blocks.items l.stays.keys;
  blocks : TargetBlocksExist l.target_blocks.items (at (shown_labels l.base l.draft));
  kept : LabelsStay (at (shown_labels l.base l.initial.draft)) (at (shown_labels l.base l.draft));
  labels : TargetBlocksHaveLabels l.keys l.target_blocks.items (at (shown_labels l.base l.initial.draft)) (at (shown_labels l.base l.draft));
  new_blocks : AreBlocks (at (shown_labels l.base l.draft)) l.new_blocks.items;
  from : AreAdded l.target_blocks.items l.initial.new_blocks.items l.new_blocks.items;
}

-- Worked values.
use Rattle.std.proofs.Common.{◌≡◌, [], ◌∷◌, Some, None, refl}
use Rattle.std.specs.FinMap as map
use Rattle.graph_spec.specs.Graphs.{edge_cmp}
use Rattle.quotient.specs.Quotients.{Quotient, no_reserved_pairs}
use Rattle.quotient_draft.specs.Drafts.{Drafted, shown_blocks, shown_labels}

-- two blocks of one label, a gap at number 1; three edges from block 0 to block 2
abbrev base : Quotient
base = record {
  blocks = record { block_of = Some 0 ∷ (Some 2 ∷ (Some 2 ∷ [])); labels = Some 7 ∷ (None ∷ (Some 8 ∷ [])); reserved = record { nodes = 0; blocks = 0 } };
  supports = map.insert {R = edge_cmp} map.empty (0, 2) 3;
  reserved = no_reserved_pairs;
}

-- a block more, under number 1; node 2 goes to it, node 1 out, and node 4 comes; one edge goes to the new block
abbrev draft : Drafted
draft = record {
  added = (1, 8) ∷ [];
  moves = (2, Some 1) ∷ ((1, None) ∷ ((4, Some 2) ∷ []));
  left = 2 ∷ (2 ∷ []);
  taken = (2, 2) ∷ [];
  supports = ((0, 2), 2) ∷ (((0, 1), 1) ∷ []);
}

blocks_shown : shown_blocks base draft ≡ Some 0 ∷ (None ∷ (Some 1 ∷ (None ∷ (Some 2 ∷ []))))
blocks_shown = refl

labels_shown : shown_labels base draft ≡ Some 7 ∷ (Some 8 ∷ (Some 8 ∷ []))
labels_shown = refl

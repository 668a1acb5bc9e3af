-- The label of a block whose key is one number.
use Rattle.std.proofs.Common.{◌≡◌, ℕ, List, Option, Some, inl, inr}
use Rattle.graph_spec.specs.Members.{at}
use Rattle.ak_family.specs.LevelDrafts.{HasBlock}

-- where each block with the key has the label, so has the one that is found or made
pub lone_label : (label b : ℕ) (key : List ℕ) (labels labels2 : List (Option ℕ)) (keys keys2 : ℕ → Option (List ℕ)) → HasBlock label key b labels labels2 keys keys2
    → ((c : ℕ) → keys c ≡ Some key → at labels c ≡ Some label) → at labels2 b ≡ Some label
lone_label label b key labels labels2 keys keys2 w labelled = elim w.found [ inl had ↦ w.labels_stay b label (labelled b had) | inr block_labels ↦ block_labels ]

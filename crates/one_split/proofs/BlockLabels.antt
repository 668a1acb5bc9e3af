-- Blocks have the labels of their members.
use Rattle.std.proofs.Common.{◌≡◌, ℕ, List, [], ◌∷◌, ◌++◌, length, Option, Some, None, IsSome, sym, ◌∙◌, ap, subst, inl, inr, true}
use Rattle.std.specs.Prelude.{nat_eq, slice_index}
use Rattle.std.specs.List.{IsDistinct}
use Rattle.graph_spec.specs.Members.{at, has}
use Rattle.graph_spec.specs.Shapes.{Shape}
use Rattle.bisim_spec.proofs.Bisimilar.{some_of, none_or_some, is_some_at}
use Rattle.one_split.specs.Numbered.{HaveNumbers}
use Rattle.one_split.specs.NodeTargetBlocks.{BeginsAt, HaveGone, TargetBlocksHaveLabels, LabelsStay}
use Rattle.one_spec.specs.BlockLabels.{BlocksHaveLabels}
use Rattle.one_split.proofs.ListIndexes.{place_in, place_found, has_place, place_is}
use Rattle.one_split.proofs.Chosen.{target_block_cases, one_own}
use Rattle.one_split.proofs.Groups.{group_of, target_block_of, target_block_looked, target_block_there, ends_at}

pub some_kept : (labels labels2 : ℕ → Option ℕ) (c : ℕ) → LabelsStay labels labels2 → IsSome (labels c) → IsSome (labels2 c)
some_kept labels labels2 c k h = (let d = some_of (labels c) h in is_some_at (labels2 c) d.0 (k.kept c d.0 d.1))

pub labels_none : (keys : List (List ℕ)) (target_blocks : List (Option ℕ)) (labels : ℕ → Option ℕ) → target_blocks ≡ [] → TargetBlocksHaveLabels keys target_blocks labels labels
labels_none keys target_blocks labels e = record {
  is = λ k own b d h. absurd (let f : at target_blocks k ≡ None = ap (λ gs. at gs k) e in let clash : Some b ≡ None = sym h ∙ f in cc);
}

-- one target block more
pub labels_more : (keys : List (List ℕ)) (target_blocks : List (Option ℕ)) (o : Option ℕ) (first labels labels2 : ℕ → Option ℕ) (own : ℕ) → TargetBlocksHaveLabels keys target_blocks first labels
    → LabelsStay first labels → LabelsStay labels labels2 → ((b : ℕ) → o ≡ Some b → labels2 b ≡ labels own) → BeginsAt keys (length target_blocks) own
    → TargetBlocksHaveLabels keys (target_blocks ++ o ∷ []) first labels2
labels_more keys target_blocks o first labels labels2 own h before keep new ends = record {
  is = λ k x b d found e l. elim (target_block_cases target_blocks o k b found) [
    | inl there ↦ keep.kept b d (h.is k x b d there e l)
    | inr (here, goes) ↦ (
        let same : x ≡ own = one_own keys (length target_blocks) x own (subst (λ j. BeginsAt keys j x) here e) ends in
        new b goes ∙ before.kept own d (ap first (sym same) ∙ l))
  ];
}

module _ (s : Shape) (p p2 : List (Option ℕ)) (keys : List (List ℕ)) (nodes numbers : List ℕ) (target_blocks : List (Option ℕ)) (labels labels2 node_labels : ℕ → Option ℕ)
    (count : length numbers ≡ length nodes) (once : IsDistinct nat_eq nodes) (numbered : HaveNumbers p s.edge keys nodes numbers)
    (gone : HaveGone p p2 nodes numbers target_blocks (length nodes)) where
  -- a node that goes nowhere stays
  stays : (n : ℕ) → target_block_of nodes numbers target_blocks n ≡ None → at p2 n ≡ at p n
  stays n none = gone.kept n (λ j b l e h.
      let here : has nodes n ≡ true = ap (has nodes) (sym e) ∙ has_place nodes j l in
      let place : place_in nodes n ≡ j = ap (place_in nodes) (sym e) ∙ place_is nodes j once l in
      let goes : target_block_of nodes numbers target_blocks n ≡ Some b = target_block_there nodes numbers target_blocks n here ∙ ap (λ i. at target_blocks (slice_index numbers i)) place ∙ h in
      let clash : Some b ≡ None = sym goes ∙ none in
      cc)

  -- labels are right after the moves
  pub block_labels_step : TargetBlocksHaveLabels keys target_blocks labels labels2 → LabelsStay labels labels2 → BlocksHaveLabels p labels node_labels → BlocksHaveLabels p2 labels2 node_labels
  block_labels_step have keep block_labels = record {
    is = λ n b e. elim (none_or_some (target_block_of nodes numbers target_blocks n)) [
      | inl none ↦ (
          let d = block_labels.is n b (sym (stays n none) ∙ e) in
          (d.0, keep.kept b d.0 d.1, d.2))
      | inr (c, goes) ↦ (
          let f = target_block_looked nodes numbers target_blocks n c goes in
          let r = place_found nodes n f.0 in
          let found : at p2 n ≡ Some c = ap (at p2) (sym r.1) ∙ gone.moved (place_in nodes n) c r.0 f.1 in
          let same : c ≡ b = cc in
          let own = ends_at s p keys nodes numbers count once numbered n f.0 in
          let d = block_labels.is n own.0 own.1 in
          (d.0, have.is (group_of nodes numbers n) own.0 b d.0 (f.1 ∙ ap (λ x. Some x) same) own.2 d.1, d.2))
    ];
  }

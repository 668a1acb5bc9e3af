-- Labels of blocks are equal exactly where those of their members are.
use Rattle.std.proofs.Common.{◌≡◌, ℕ, List, Option, Some, None, sym, ◌∙◌, ap, inl, inr, cond}
use Rattle.std.specs.Prelude.{nat_eq, slice_get, option_and_then, position, bytes_eq}
use Rattle.std.proofs.lemmas.Bool.Decides.{eqb_tells}
use Rattle.graph_spec.specs.Members.{at}
use Rattle.graph_spec.specs.Graphs.{Graph, label_of}
use Rattle.graph_spec.specs.Shapes.{Shape, shape_of}
use Rattle.label_graph.specs.GraphViews.{label_number}
use Rattle.label_graph.proofs.Positions.{text-at}
use Rattle.bisim_spec.specs.Stability.{merged_at}
use Rattle.bisim_spec.proofs.Bisimilar.{none_or_some}
use Rattle.one_spec.specs.Merges.{IsMerged}
use Rattle.one_spec.specs.BlockLabels.{BlocksHaveLabels, IsLabelled}

-- a number of a label stands for one text
numbered_text : (o : Option (List ℕ)) (seen : List (List ℕ)) (d : ℕ) → option_and_then (λ t. position (bytes_eq t) seen) o ≡ Some d → o ≡ slice_get seen d
numbered_text None seen d h = absurd (cc)
numbered_text (Some t) seen d h = sym (text-at t seen d h)

-- where members have the label numbers of their blocks
pub labelled_by_numbers : (g : Graph) (p : List (Option ℕ)) (labels : ℕ → Option ℕ) → BlocksHaveLabels p labels (label_number g) → IsLabelled (shape_of g) p labels
labelled_by_numbers g p labels block_labels = record {
  same = λ u v a b hu hv.
      let x = block_labels.is u a hu in
      let y = block_labels.is v b hv in (
        λ e.
            let numbers : Some x.0 ≡ Some y.0 = sym x.1 ∙ e ∙ y.1 in
            let at : x.0 ≡ y.0 = cc in
            numbered_text (label_of g u) g.seen x.0 x.2 ∙ ap (slice_get g.seen) at ∙ sym (numbered_text (label_of g v) g.seen y.0 y.2),
        λ e. x.1 ∙ sym x.2 ∙ ap (option_and_then (λ t. position (bytes_eq t) g.seen)) e ∙ y.2 ∙ sym y.1,
      );
}

-- merging two blocks of one label keeps it
pub labelled_merged : (s : Shape) (p p2 : List (Option ℕ)) (labels : ℕ → Option ℕ) (a b : ℕ) → labels a ≡ labels b → IsMerged a b p p2 → IsLabelled s p labels → IsLabelled s p2 labels
labelled_merged s p p2 labels a b alike merged labelled = record {
  same = λ u v x y hu hv.
      let r = before u x hu in
      let q = before v y hv in
      let k = labelled.same u v r.0 q.0 r.1 q.1 in
      (λ e. k.0 (r.2 ∙ e ∙ sym q.2), λ e. sym r.2 ∙ k.1 e ∙ q.2);
}
  where
    before : (n x : ℕ) → at p2 n ≡ Some x → (y : ℕ) × (at p n ≡ Some y) × (labels y ≡ labels x)
    before n x h = elim (none_or_some (at p n)) [
      | inl none ↦ absurd (let f : None ≡ Some x = sym (merged.blocks n ∙ ap (merged_at a b) none) ∙ h in cc)
      | inr (y, at) ↦ (
          let f : Some (cond (nat_eq y b) a y) ≡ Some x = sym (merged.blocks n ∙ ap (merged_at a b) at) ∙ h in
          let g : cond (nat_eq y b) a y ≡ x = cc in
          elim (eqb_tells y b) [
            | inl on ↦ (
                let ax : a ≡ x = sym (ap (λ t. cond t a y) on.0) ∙ g in
                (y, at, ap labels on.1 ∙ sym alike ∙ ap labels ax))
            | inr off ↦ (
                let yx : y ≡ x = sym (ap (λ t. cond t a y) off.0) ∙ g in
                (y, at, ap labels yx))
          ])
    ]

-- Whether a partition is one of an index doesn't depend on how labels are named.
use Rattle.std.proofs.Common.{◌≡◌, ℕ, zero, suc, ◌<◌, List, [], ◌∷◌, length, Option, Some, None, Bool, refl, sym, ◌∙◌, ap, subst, arith}
use Rattle.std.specs.Prelude.{option_map, option_and_then, slice_get, bytes_eq, position, ◌↔◌}
use Rattle.std.specs.List.{IsDistinct}
use Rattle.std.proofs.lemmas.Option.{slice_get_within}
use Rattle.graph_spec.specs.Graphs.{Graph, IsGraph, label_of}
use Rattle.graph_spec.specs.Shapes.{shape_by, shape_of}
use Rattle.label_graph.specs.GraphViews.{label_number, is_linked, numbered_shape}
use Rattle.label_graph.proofs.Positions.{position-at, text-at}
use Rattle.bisim_spec.specs.Partitions.{IsPartition}
use Rattle.index_api.specs.declared.kinds.Via.{Via}
use Rattle.index_api.specs.declared.kinds.Via.TheVariants.{Data, A, One, Fb, B}
use Rattle.index_file.specs.SavedFiles.{SavedFile, SavedView}
use Rattle.index_file.specs.SavedGraphs.{via_of_view, blocks_of, via_at, blocks_at}
use Rattle.index_file.specs.FittingViews.{IsPartitionVia, FitsSaved, FitsView}
use Rattle.round_refinement.specs.NumberedShapes.{shape_by_number}
use Rattle.index_check.proofs.Renamed.{with_labels, Renames, partition_renamed, level_renamed, both_level_renamed, full_renamed, stable_renamed, minimal_renamed}

via_renamed : (size : ℕ) (edge : ℕ → ℕ → Bool) (f g : ℕ → Option (List ℕ)) → Renames size edge f g → Renames size edge g f → (via : Via) (block : List (Option ℕ))
    → IsPartitionVia (with_labels size edge f) via block → IsPartitionVia (with_labels size edge g) via block
via_renamed size edge f g to back Data block h = h
via_renamed size edge f g to back (A level) block h = level_renamed size edge f g to back block level h
via_renamed size edge f g to back One block h = record {
  stable = stable_renamed size edge f g to back block h.stable;
  minimal = minimal_renamed size edge f g to back block h.minimal;
}
via_renamed size edge f g to back Fb block h = full_renamed size edge f g to back block h
via_renamed size edge f g to back (B level) block h = both_level_renamed size edge f g to back block level h

-- the text of a node's label: its number alone, or what the table has there
abbrev by_number : (ℕ → Option ℕ) → ℕ → Option (List ℕ)
by_number label n = option_map (λ l. l ∷ []) (label n)

abbrev by_text : List (List ℕ) → (ℕ → Option ℕ) → ℕ → Option (List ℕ)
by_text texts label n = option_and_then (λ l. slice_get texts l) (label n)

number_of : (o : Option ℕ) (t : List ℕ) → option_map (λ l. l ∷ []) o ≡ Some t → (x : ℕ) × (o ≡ Some x) × (t ≡ x ∷ [])
number_of None t e = absurd (cc)
number_of (Some x) t e = (x, refl, (let z : Some (x ∷ []) ≡ Some t = e in cc))

place_of : (texts : List (List ℕ)) (o : Option ℕ) (t : List ℕ) → option_and_then (λ l. slice_get texts l) o ≡ Some t → (x : ℕ) × (o ≡ Some x) × (slice_get texts x ≡ Some t)
place_of texts None t e = absurd (cc)
place_of texts (Some x) t e = (x, refl, e)

text_there : (texts : List (List ℕ)) (l : ℕ) → l < length texts → (t : List ℕ) × (slice_get texts l ≡ Some t)
text_there [] l h = absurd (omega (arith, h))
text_there (t ∷ texts) zero h = (t, refl)
text_there (t ∷ texts) (suc l) h = text_there texts l (omega (arith, h))

heads : (x y : ℕ) → x ∷ [] ≡ y ∷ [] → x ≡ y
heads x y e = cc

to_texts : (size : ℕ) (edge : ℕ → ℕ → Bool) (label : ℕ → Option ℕ) (texts : List (List ℕ)) → ((n l : ℕ) → label n ≡ Some l → l < length texts)
    → Renames size edge (by_number label) (by_text texts label)
to_texts size edge label texts within u v h =
    let a = number_of (label u) h.0 h.1 in
    let b = number_of (label v) h.0 h.2 in
    let one : b.0 ≡ a.0 = heads b.0 a.0 (sym b.2 ∙ a.2) in
    let t = text_there texts a.0 (within u a.0 a.1) in
    (t.0, ap (option_and_then (λ l. slice_get texts l)) a.1 ∙ t.1, ap (option_and_then (λ l. slice_get texts l)) (b.1 ∙ ap Some one) ∙ t.1)

some_one : (x y : ℕ) → Some x ≡ Some y → x ≡ y
some_one x y e = cc

to_numbers : (size : ℕ) (edge : ℕ → ℕ → Bool) (label : ℕ → Option ℕ) (texts : List (List ℕ)) → IsDistinct bytes_eq texts → Renames size edge (by_text texts label) (by_number label)
to_numbers size edge label texts once u v h =
    let a = place_of texts (label u) h.0 h.1 in
    let b = place_of texts (label v) h.0 h.2 in
    let one : b.0 ≡ a.0 = some_one b.0 a.0 (sym (position-at texts b.0 h.0 once b.2) ∙ position-at texts a.0 h.0 once a.2) in
    (a.0 ∷ [], ap (option_map (λ l. l ∷ [])) a.1, ap (option_map (λ l. l ∷ [])) (b.1 ∙ ap Some one))

-- so it is told by the numbers of the labels, whatever their texts are
pub told_by_numbers : (size : ℕ) (edge : ℕ → ℕ → Bool) (label : ℕ → Option ℕ) (texts : List (List ℕ)) (via : Via) (block : List (Option ℕ)) → IsDistinct bytes_eq texts
    → ((n l : ℕ) → label n ≡ Some l → l < length texts)
    → IsPartitionVia (shape_by_number size label edge) via block ↔ IsPartitionVia (shape_by texts size label edge) via block
told_by_numbers size edge label texts via block once within = (
  via_renamed size edge (by_number label) (by_text texts label) (to_texts size edge label texts within) (to_numbers size edge label texts once) via block,
  via_renamed size edge (by_text texts label) (by_number label) (to_numbers size edge label texts once) (to_texts size edge label texts within) via block,
)

-- a graph whose labels are numbers shows the same partitions
module _ (g : Graph) (graph : IsGraph g) (shape : numbered_shape g ≡ shape_of g) where
  number_below : (n l : ℕ) → label_number g n ≡ Some l → l < length g.seen
  number_below n l e = by (label_of g n) e
    where
      by : (o : Option (List ℕ)) → option_and_then (λ t. position (bytes_eq t) g.seen) o ≡ Some l → l < length g.seen
      by None h = absurd (let z : None ≡ Some l = h in cc)
      by (Some t) h = slice_get_within g.seen l t (text-at t g.seen l h)

  pub via_told : (via : Via) (block : List (Option ℕ)) → IsPartitionVia (shape_by_number (length g.allocated) (label_number g) (is_linked g)) via block ↔ IsPartitionVia (shape_of g) via block
  via_told via block =
      let both = told_by_numbers (length g.allocated) (is_linked g) (label_number g) g.seen via block graph.distinct number_below in
      (λ h. subst (λ s. IsPartitionVia s via block) shape (both.0 h), λ h. both.1 (subst (λ s. IsPartitionVia s via block) (sym shape) h))

  pub partition_told : (block : List (Option ℕ)) → IsPartition (shape_of g) block → IsPartition (shape_by_number (length g.allocated) (label_number g) (is_linked g)) block
  partition_told block p =
      partition_renamed (length g.allocated) (is_linked g) (by_text g.seen (label_number g)) (by_number (label_number g))
      (to_numbers (length g.allocated) (is_linked g) (label_number g) g.seen graph.distinct)
      (to_texts (length g.allocated) (is_linked g) (label_number g) g.seen number_below) block
      (subst (λ s. IsPartition s block) (sym shape) p)

-- the view at a place
pub view_told : (file : SavedFile) (j : ℕ) (via : Via) → via_at file j ≡ Some via → IsPartitionVia (shape_of file.graph) via (blocks_at file j) ↔ FitsView file j
view_told file j via e = by (slice_get file.views j) refl
  where
    same : (a b : Via) → Some a ≡ Some b → a ≡ b
    same a b s = cc

    at_place : (o : Option SavedView) → via_of_view o ≡ Some via → IsPartitionVia (shape_of file.graph) via (blocks_of o) ↔ FitsSaved file o
    at_place None h = absurd (let z : None ≡ Some via = h in cc)
    at_place (Some v) h = (let s = same v.via via h in (λ f. subst (λ w. IsPartitionVia (shape_of file.graph) w v.block_of) (sym s) f, λ f. subst (λ w. IsPartitionVia (shape_of file.graph) w v.block_of) s f))

    by : (o : Option SavedView) → slice_get file.views j ≡ o → IsPartitionVia (shape_of file.graph) via (blocks_at file j) ↔ FitsView file j
    by o h = subst (λ x. IsPartitionVia (shape_of file.graph) via (blocks_of x) ↔ FitsSaved file x) (sym h) (at_place o (ap via_of_view (sym h) ∙ e))

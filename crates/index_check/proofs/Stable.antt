-- A partition is stable where its labels and its refinement follow from it.
use Rattle.std.proofs.Common.{◌≡◌, ℕ, List, [], ◌∷◌, Option, Some, Bool, refl, sym, ◌∙◌, ap, None}
use Rattle.std.specs.Prelude.{option_map}
use Rattle.graph_spec.specs.Shapes.{Shape}
use Rattle.graph_spec.specs.Members.{at}
use Rattle.bisim_spec.specs.Partitions.{IsPartition}
use Rattle.bisim_spec.specs.Stability.{Stable, StableBoth}
use Rattle.bisim_spec.proofs.Bisimilar.{some_of, is_some_at}
use Rattle.bisim_spec.proofs.Stable.{stable_label, stable_parents}
use Rattle.bisim_spec.specs.declared.sides.Side.TheVariants.{Parents, Children}
use Rattle.round_refinement.specs.NeighbourSides.{is_neighbour}
use Rattle.round_refinement.specs.NumberedShapes.{shape_by_number}
use Rattle.bisim_spec.specs.Refinement.{Refines}
use Rattle.index_check.specs.ComparedLists.{Determines}

pub stable_where : (size : ℕ) (label : ℕ → Option ℕ) (edge : ℕ → ℕ → Bool) (block labels next : List (Option ℕ)) → IsPartition (shape_by_number size label edge) block
    → ((n : ℕ) → at labels n ≡ label n) → Refines (at block) block (is_neighbour Parents edge) next → Determines block labels → Determines block next
    → Stable (shape_by_number size label edge) block
stable_where size label edge block labels next p is r by_label stays = record {
  partition = p;
  label = λ u v nu nv t. ap (option_map (λ x. x ∷ [])) (sym (is u) ∙ by_label u v t.0 t.1 t.2 ∙ is v);
  parents = λ u v nu nv t.
      let b = some_of (at next u) (r.kept u (is_some_at (at block u) t.0 t.1)) in
      (r.parted u v (b.0, b.1, sym (stays u v t.0 t.1 t.2) ∙ b.1)).neighbours.there;
}

label_once : (a b : Option ℕ) → option_map (λ x. x ∷ []) a ≡ option_map (λ x. x ∷ []) b → a ≡ b
label_once None None e = refl
label_once None (Some y) e = absurd (cc)
label_once (Some x) None e = absurd (cc)
label_once (Some x) (Some y) e = ap Some (heads x y (let z = e in cc))
  where
    heads : (x y : ℕ) → x ∷ [] ≡ y ∷ [] → x ≡ y
    heads x y e = cc

pub labels_where : (size : ℕ) (label : ℕ → Option ℕ) (edge : ℕ → ℕ → Bool) (block labels : List (Option ℕ)) → ((n : ℕ) → at labels n ≡ label n)
    → Stable (shape_by_number size label edge) block → Determines block labels
labels_where size label edge block labels is st = λ u v b e f.
    is u ∙ label_once (label u) (label v) (stable_label (shape_by_number size label edge) block st u v (b, e, f)) ∙ sym (is v)

pub stays_where : (size : ℕ) (label : ℕ → Option ℕ) (edge : ℕ → ℕ → Bool) (block next : List (Option ℕ)) → Refines (at block) block (is_neighbour Parents edge) next
    → Stable (shape_by_number size label edge) block → Determines block next
stays_where size label edge block next r st = λ u v b e f.
    let s = shape_by_number size label edge in
    let t = r.grouped u v (record {
      one_number = (b, e, f);
      neighbours = record {
        there = stable_parents s block st u v (b, e, f);
        back = stable_parents s block st v u (b, f, e);
      };
    }) in
    t.1 ∙ sym t.2

-- and so by children
pub stable_both_where : (s : Shape) (block next : List (Option ℕ)) → Stable s block → Refines (at block) block (is_neighbour Children s.edge) next → Determines block next → StableBoth s block
stable_both_where s block next st r stays = record {
  stable = st;
  children = λ u v t.
      let b = some_of (at next u) (r.kept u (is_some_at (at block u) t.0 t.1)) in
      (r.parted u v (b.0, b.1, sym (stays u v t.0 t.1 t.2) ∙ b.1)).neighbours.there;
}

pub stays_both_where : (s : Shape) (block next : List (Option ℕ)) → Refines (at block) block (is_neighbour Children s.edge) next → StableBoth s block → Determines block next
stays_both_where s block next r st = λ u v b e f.
    let t = r.grouped u v (record {
      one_number = (b, e, f);
      neighbours = record { there = st.children u v (b, e, f); back = st.children v u (b, f, e) };
    }) in
    t.1 ∙ sym t.2

-- What steps make of a graph that shows items by their numbers: a node more, an edge more, a node less.
use Rattle.std.proofs.Common.{◌≡◌, ◌≢◌, ℕ, ◌<◌, Bool, true, false, ◌&&◌, ◌||◌, not, cond, List, [], ◌∷◌, length, Option, Some, None, refl, sym, ap, ◌∙◌, subst, inl, inr, true≢false, arith, nat_eq, is_some}
use Rattle.std.specs.Prelude.{if◌then◌else◌}
use Rattle.std.proofs.Math.Bool.{and-false}
use Rattle.std.proofs.lemmas.Bool.{cases_Bool, and_parts, and_from, or_cases, or_parts, or_from, or_left, or_right, eqb-true, eq-eqb, ne_eqb, not-true, false_from_ne_true, and_left}
use Rattle.std.proofs.lemmas.List.{length-append}
use Rattle.graph_spec.specs.Graphs.{Graph, is_live, has_edge}
use Rattle.graph_spec.specs.Changes.{with_node, with_edge}
use Rattle.graph_spec.proofs.GraphLaws.{edge_with}
use Rattle.change_spec.specs.Steps.{without_node, after}
use Rattle.change_spec.proofs.StepGraphs.{edge_dropped, label_other}
use Rattle.change_spec.proofs.StepPlaces.{label_added, label_last, live_added, live_dropped, live_given, given_set}
use Rattle.triple_names.specs.Items.{Item, same_item, item_label}
use Rattle.triple_names.specs.Names.{if_live}
use Rattle.triple_names.specs.TripleChanges.{node_unless, given_number, next_after}
use Rattle.triple_names.specs.Represented.{IsImage}
use Rattle.triple_names.proofs.ItemLaws.{item_is, item_same, item_tells, item_apart, same_by, agree}
use Rattle.triple_names.proofs.NumberLaws.{named}

pub same_number : (o : Option ℕ) (m n : ℕ) → o ≡ Some m → o ≡ Some n → m ≡ n
same_number o m n h k = cc

-- the tests with one item or one edge more, and without an item
abbrev pub with_item : (Item → Bool) → Item → (Item → Bool)
with_item has p q = has q || same_item q p

abbrev pub with_join : (Item → Item → Bool) → Item → Item → (Item → Item → Bool)
with_join edge a b p q = edge p q || (same_item p a && same_item q b)

abbrev pub without_item : (Item → Bool) → Item → (Item → Bool)
without_item has p q = has q && not (same_item q p)

abbrev pub without_joins : (Item → Item → Bool) → Item → (Item → Item → Bool)
without_joins edge p a b = edge a b && not (same_item a p || same_item b p)

-- each edge joins items that have nodes
abbrev pub Ends : (Item → Bool) → (Item → Item → Bool) → Type 0
Ends has edge = (a b : Item) → edge a b ≡ true → (has a ≡ true) × (has b ≡ true)

module _ (g : Graph) (f : Item → Option ℕ) (has : Item → Bool) (edge : Item → Item → Bool) (s : IsImage g f has edge) where
  -- each number was given
  pub number_given : (q : Item) (m : ℕ) → f q ≡ Some m → m < length g.allocated
  number_given q m h = elim (cases_Bool (has q)) [
    | inl on ↦ (let l = s.labelled q on in let same = same_number (f q) l.0 m l.1 h in subst (λ k. k < length g.allocated) same (live_given g l.0 (ap is_some l.2)))
    | inr off ↦ (s.gone q m off h).0
  ]

  -- an item with a node is there, and no other is
  pub is_there : (q : Item) (m : ℕ) → has q ≡ true → f q ≡ Some m → if_live g (f q) ≡ Some m
  is_there q m on h =
      let l = s.labelled q on in
      let same = same_number (f q) l.0 m l.1 h in
      let live : is_live g m ≡ true = subst (λ k. is_live g k ≡ true) same (ap is_some l.2) in
      ap (if_live g) h ∙ ap (λ b. if b then Some m else None) live

  pub is_absent : (q : Item) → has q ≡ false → if_live g (f q) ≡ None
  is_absent q off = by (f q) refl
    where
      by : (o : Option ℕ) → f q ≡ o → if_live g o ≡ None
      by None h = refl
      by (Some m) h = ap (λ b. if b then Some m else None) (s.gone q m off h).1

  pub there_tells : (q : Item) (m : ℕ) → if_live g (f q) ≡ Some m → (has q ≡ true) × (f q ≡ Some m)
  there_tells q m h = elim (cases_Bool (has q)) [
    | inl on ↦ (let l = s.labelled q on in let same = same_number (if_live g (f q)) l.0 m (is_there q l.0 on l.1) h in (on, l.1 ∙ ap Some same))
    | inr off ↦ absurd (let k = is_absent q off in let z : None ≡ Some m = sym k ∙ h in true≢false (sym (ap is_some z)))
  ]

  module _ (ends : Ends has edge) (p : Item) where
    module _ (new : has p ≡ false) where
      abbrev next : ℕ
      next = length g.allocated

      abbrev more : Graph
      more = with_node g (item_label p)

      other : (q : Item) → q ≢ p → named f p next q ≡ f q
      other q apart = ap (λ b. cond b (Some next) (f q)) (item_apart q p apart)

      here : named f p next p ≡ Some next
      here = ap (λ b. cond b (Some next) (f p)) (item_same p)

      apart_old : (q : Item) → has q ≡ true → q ≢ p
      apart_old q on e = true≢false (sym on ∙ ap has e ∙ new)

      old_has : (q : Item) → q ≢ p → with_item has p q ≡ true → has q ≡ true
      old_has q apart h = elim (or_cases (has q) (same_item q p) h) [ inl on ↦ on | inr same ↦ absurd (apart (item_is q p same)) ]

      not_next : (q : Item) (m : ℕ) → f q ≡ Some m → m ≢ next
      not_next q m h e = (let below = number_given q m h in absurd (omega (arith, below, e)))

      pub node_added : IsImage (with_node g (item_label p)) (named f p (length g.allocated)) (with_item has p) edge
      node_added = record {
        labelled = λ q h. elim (item_tells q p) [
          | inl e ↦ (next, ap (named f p next) e.1 ∙ here, label_last g (item_label p) ∙ ap (λ r. Some (item_label r)) (sym e.1))
          | inr d ↦ (let l = s.labelled q (old_has q d.1 h) in (l.0, other q d.1 ∙ l.1, label_added g (item_label p) l.0 (not_next q l.0 l.1) ∙ l.2))
        ];
        once = λ m a b ha hb na nb. elim (item_tells a p) [
          | inl e ↦ elim (item_tells b p) [
            | inl k ↦ e.1 ∙ sym k.1
            | inr d ↦ absurd (not_next b m (sym (other b d.1) ∙ nb) (same_number (named f p next a) m next na (ap (named f p next) e.1 ∙ here)))
          ]
          | inr c ↦ elim (item_tells b p) [
            | inl k ↦ absurd (not_next a m (sym (other a c.1) ∙ na) (same_number (named f p next b) m next nb (ap (named f p next) k.1 ∙ here)))
            | inr d ↦ s.once m a b (old_has a c.1 ha) (old_has b d.1 hb) (sym (other a c.1) ∙ na) (sym (other b d.1) ∙ nb)
          ]
        ];
        all = λ m live. elim (or_cases (is_live g m) (nat_eq m next) (sym (live_added g (item_label p) m) ∙ live)) [
          | inl old ↦ (let w = s.all m old in (w.0, or_left (has w.0) (same_item w.0 p) w.1, other w.0 (apart_old w.0 w.1) ∙ w.2))
          | inr last ↦ (p, or_right (has p) (same_item p p) (item_same p), here ∙ ap Some (sym (eqb-true m next last)))
        ];
        edges = λ u v. (
          (λ h. let w = (s.edges u v).0 h in let e = ends w.0 w.1 w.2 in (w.0, w.1, w.2, other w.0 (apart_old w.0 e.0) ∙ w.3, other w.1 (apart_old w.1 e.1) ∙ w.4)),
          (λ w. let e = ends w.0 w.1 w.2 in (s.edges u v).1 (w.0, w.1, w.2, sym (other w.0 (apart_old w.0 e.0)) ∙ w.3, sym (other w.1 (apart_old w.1 e.1)) ∙ w.4)),
        );
        gone = λ q m h n. (
            let off = or_parts (has q) (same_item q p) h in
            let apart : q ≢ p = λ e. true≢false (sym (same_by q p e) ∙ off.1) in
            let old = sym (other q apart) ∙ n in
            let w = s.gone q m off.0 old in
            let below = w.0 in
            let longer = length-append g.allocated (Some (item_label p) ∷ []) in
            (omega (arith, below, longer), live_added g (item_label p) m ∙ or_from (is_live g m) (nat_eq m next) w.1 (ne_eqb m next (not_next q m old))));
      }

    module _ (u : ℕ) (on : has p ≡ true) (number : f p ≡ Some u) where
      is_p : (q : Item) → has q ≡ true → f q ≡ Some u → q ≡ p
      is_p q h n = s.once u q p h on n number

      kept_parts : (q : Item) → without_item has p q ≡ true → (has q ≡ true) × (q ≢ p)
      kept_parts q h =
          let w = and_parts (has q) (not (same_item q p)) h in
          (w.0, λ e. true≢false (sym (same_by q p e) ∙ not-true (same_item q p) w.1))

      kept : (q : Item) → has q ≡ true → q ≢ p → without_item has p q ≡ true
      kept q h apart = and_from (has q) (not (same_item q p)) h (ap not (item_apart q p apart))

      pub node_dropped : IsImage (without_node g u) f (without_item has p) (without_joins edge p)
      node_dropped = record {
        labelled = λ q h. (
            let k = kept_parts q h in
            let l = s.labelled q k.0 in
            (l.0, l.1, label_other g.allocated u l.0 None (λ e. k.1 (is_p q k.0 (l.1 ∙ ap Some e))) ∙ l.2));
        once = λ m a b ha hb na nb. s.once m a b (kept_parts a ha).0 (kept_parts b hb).0 na nb;
        all = λ m live. (
            let w = and_parts (is_live g m) (not (nat_eq m u)) (sym (live_dropped g u m) ∙ live) in
            let q = s.all m w.0 in
            (q.0, kept q.0 q.1 (λ e. true≢false (sym (eq-eqb m u (same_number (f p) m u (sym (ap f e) ∙ q.2) number)) ∙ not-true (nat_eq m u) w.1)), q.2));
        edges = λ x y. (
          (λ h.
              let w = and_parts (has_edge g x y) (not (nat_eq x u || nat_eq y u)) (sym (edge_dropped g u x y) ∙ h) in
              let off = or_parts (nat_eq x u) (nat_eq y u) (not-true (nat_eq x u || nat_eq y u) w.1) in
              let j = (s.edges x y).0 w.0 in
              let first : same_item j.0 p ≡ false = item_apart j.0 p (λ e. true≢false (sym (eq-eqb x u (same_number (f p) x u (sym (ap f e) ∙ j.3) number)) ∙ off.0)) in
              let second : same_item j.1 p ≡ false = item_apart j.1 p (λ e. true≢false (sym (eq-eqb y u (same_number (f p) y u (sym (ap f e) ∙ j.4) number)) ∙ off.1)) in
              (j.0, j.1, and_from (edge j.0 j.1) (not (same_item j.0 p || same_item j.1 p)) j.2 (ap not (or_from (same_item j.0 p) (same_item j.1 p) first second)), j.3, j.4)),
          (λ j.
              let w = and_parts (edge j.0 j.1) (not (same_item j.0 p || same_item j.1 p)) j.2 in
              let off = or_parts (same_item j.0 p) (same_item j.1 p) (not-true (same_item j.0 p || same_item j.1 p) w.1) in
              let e = ends j.0 j.1 w.0 in
              let first = ne_eqb x u (λ k. true≢false (sym (same_by j.0 p (is_p j.0 e.0 (j.3 ∙ ap Some k))) ∙ off.0)) in
              let second = ne_eqb y u (λ k. true≢false (sym (same_by j.1 p (is_p j.1 e.1 (j.4 ∙ ap Some k))) ∙ off.1)) in
              edge_dropped g u x y ∙ and_from (has_edge g x y) (not (nat_eq x u || nat_eq y u)) ((s.edges x y).1 (j.0, j.1, w.0, j.3, j.4)) (ap not (or_from (nat_eq x u) (nat_eq y u) first second))),
        );
        gone = λ q m h n. elim (item_tells q p) [
          | inl e ↦ (
              let same = same_number (f p) m u (sym (ap f e.1) ∙ n) number in
              let below = number_given p u number in
              let longer = given_set g u None in
              (omega (arith, same, below, longer), live_dropped g u m ∙ ap (λ b. is_live g m && not b) (eq-eqb m u same) ∙ and-false (is_live g m)))
          | inr d ↦ (
              let w = s.gone q m (absent q d.0 h) n in
              let below = w.0 in
              let longer = given_set g u None in
              (omega (arith, below, longer), live_dropped g u m ∙ and_left (is_live g m) (not (nat_eq m u)) w.1))
        ];
      }
        where
          absent : (q : Item) → same_item q p ≡ false → without_item has p q ≡ false → has q ≡ false
          absent q off h = false_from_ne_true (has q) (λ k. true≢false (sym (and_from (has q) (not (same_item q p)) k (ap not off)) ∙ h))

  pub edge_added : (a b : Item) (u v : ℕ) → f a ≡ Some u → f b ≡ Some v → IsImage (with_edge g u v) f has (with_join edge a b)
  edge_added a b u v from onto = record {
    labelled = s.labelled;
    once = s.once;
    all = s.all;
    edges = λ x y. (
      (λ h. elim (or_cases (nat_eq x u && nat_eq y v) (has_edge g x y) (sym (edge_with g u v x y) ∙ h)) [
        | inl new ↦ (
            let w = and_parts (nat_eq x u) (nat_eq y v) new in
            (a, b, or_right (edge a b) (same_item a a && same_item b b) (and_from (same_item a a) (same_item b b) (item_same a) (item_same b)), from ∙ ap Some (sym (eqb-true x u w.0)), onto ∙ ap Some (sym (eqb-true y v w.1))))
        | inr old ↦ (let j = (s.edges x y).0 old in (j.0, j.1, or_left (edge j.0 j.1) (same_item j.0 a && same_item j.1 b) j.2, j.3, j.4))
      ]),
      (λ j. edge_with g u v x y ∙ elim (or_cases (edge j.0 j.1) (same_item j.0 a && same_item j.1 b) j.2) [
        | inl old ↦ or_right (nat_eq x u && nat_eq y v) (has_edge g x y) ((s.edges x y).1 (j.0, j.1, old, j.3, j.4))
        | inr new ↦ (
            let w = and_parts (same_item j.0 a) (same_item j.1 b) new in
            let first = eq-eqb x u (same_number (f a) x u (sym (ap f (item_is j.0 a w.0)) ∙ j.3) from) in
            let second = eq-eqb y v (same_number (f b) y v (sym (ap f (item_is j.1 b w.1)) ∙ j.4) onto) in
            or_left (nat_eq x u && nat_eq y v) (has_edge g x y) (and_from (nat_eq x u) (nat_eq y v) first second))
      ]),
    );
    gone = s.gone;
  }

-- the same by tests that agree
pub image_by : (g : Graph) (f f2 : Item → Option ℕ) (has has2 : Item → Bool) (edge edge2 : Item → Item → Bool) → ((q : Item) → f q ≡ f2 q) → ((q : Item) → has q ≡ has2 q)
    → ((a b : Item) → edge a b ≡ edge2 a b) → IsImage g f has edge → IsImage g f2 has2 edge2
image_by g f f2 has has2 edge edge2 fs hs es s =
    subst (λ k. IsImage g k has2 edge2) (λ i q. fs q i) (subst (λ k. IsImage g f k edge2) (λ i q. hs q i) (subst (λ k. IsImage g f has k) (λ i a b. es a b i) s))

-- an item that isn't there gets a node, and one that is keeps its number
pub ensured : (g : Graph) (f : Item → Option ℕ) (has : Item → Bool) (edge : Item → Item → Bool) → IsImage g f has edge → Ends has edge → (p : Item) (o : Option ℕ) → if_live g (f p) ≡ o
    → IsImage (after (node_unless o (item_label p)) g) (named f p (given_number o (length g.allocated))) (with_item has p) edge
ensured g f has edge s ends p None h = node_added g f has edge s ends p (false_from_ne_true (has p) (λ on. (let l = s.labelled p on in let k = is_there g f has edge s p l.0 on l.1 in let z : Some l.0 ≡ None = sym k ∙ h in true≢false (ap is_some z))))
ensured g f has edge s ends p (Some m) h =
    let w = there_tells g f has edge s p m h in
    image_by g f (named f p m) has (with_item has p) edge edge (same w.1) (kept w.0) (λ a b. refl) s
  where
    same : f p ≡ Some m → (q : Item) → f q ≡ named f p m q
    same number q = elim (item_tells q p) [
      | inl e ↦ ap f e.1 ∙ number ∙ sym (ap (λ b. cond b (Some m) (f q)) e.0)
      | inr d ↦ sym (ap (λ b. cond b (Some m) (f q)) d.0)
    ]

    kept : has p ≡ true → (q : Item) → has q ≡ with_item has p q
    kept on q = agree (has q) (has q || same_item q p) (or_left (has q) (same_item q p)) (λ k. elim (or_cases (has q) (same_item q p) k) [ inl old ↦ old | inr new ↦ ap has (item_is q p new) ∙ on ])

pub length_ensured : (g : Graph) (o : Option ℕ) (label : List ℕ) → length (after (node_unless o label) g).allocated ≡ next_after o (length g.allocated)
length_ensured g None label = length-append g.allocated (Some label ∷ [])
length_ensured g (Some m) label = refl

-- an item whose number stays is there where it was
pub there_still : (g g2 : Graph) (f f2 : Item → Option ℕ) (has has2 : Item → Bool) (edge edge2 : Item → Item → Bool) → IsImage g f has edge → IsImage g2 f2 has2 edge2
    → (q : Item) → has2 q ≡ has q → f2 q ≡ f q → if_live g2 (f2 q) ≡ if_live g (f q)
there_still g g2 f f2 has has2 edge edge2 s s2 q same number = elim (cases_Bool (has q)) [
  | inl on ↦ (let l = s.labelled q on in is_there g2 f2 has2 edge2 s2 q l.0 (same ∙ on) (number ∙ l.1) ∙ sym (is_there g f has edge s q l.0 on l.1))
  | inr off ↦ is_absent g2 f2 has2 edge2 s2 q (same ∙ off) ∙ sym (is_absent g f has edge s q off)
]

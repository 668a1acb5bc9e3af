-- An accepted insert of a triple leaves a graph that represents the triples with it.
use Rattle.std.proofs.Common.{◌≡◌, ℕ, Bool, true, false, ◌||◌, cond, List, [], ◌∷◌, ◌++◌, length, Option, Some, Ok, refl, sym, ap, ◌∙◌, subst, inl, inr}
use Rattle.std.specs.Prelude.{if◌then◌else◌}
use Rattle.std.proofs.Math.Bool.{or-false}
use Rattle.std.proofs.lemmas.Bool.{cases_Bool, or_cases, or_left, or_right}
use Rattle.graph_spec.specs.declared.limits.Limits.{Limits}
use Rattle.graph_spec.specs.Graphs.{Graph}
use Rattle.graph_spec.specs.Changes.{with_edge}
use Rattle.change_spec.specs.Steps.{Step, link, made, after, apply_step, apply_all, apply}
use Rattle.change_spec.proofs.StepGraphs.{stepped, first_made}
use Rattle.change_spec.proofs.Prefixes.{after_joined}
use Rattle.change_spec.proofs.Accepted.{accepted_all}
use Rattle.triples_read.specs.Canonical.{IsSpelled}
use Rattle.triples_read.specs.declared.term.Triple.{Triple}
use Rattle.term_table.specs.Terms.{same_term}
use Rattle.triple_names.specs.Items.{Item, of_term, of_triple, same_triple, same_item, term_label, predicate_label, is_part, joins, has_item, has_join}
use Rattle.triple_names.specs.Names.{Names, number_in, if_live, node_there}
use Rattle.triple_names.specs.TripleChanges.{placed_in, node_unless, given_number, next_after, object_there, insert_steps, noted}
use Rattle.triple_names.specs.Represented.{IsImage, Represents, is_among, with_triple}
use Rattle.triple_names.specs.declared.inserting.Placed.{Placed}
use Rattle.triple_names.specs.KeptTriples.{InsertKeeps}
use Rattle.triple_names.proofs.ItemLaws.{triple_is, item_same, item_is, same_by, any_with, distinct_with, joined_items}
use Rattle.triple_names.proofs.NumberLaws.{named, number_noted}
use Rattle.triple_names.proofs.ImageSteps.{with_item, with_join, Ends, is_there, image_by, ensured, length_ensured, there_still, edge_added}

-- accepted steps leave what they make
pub all_after : (c : List Step) (g h : Graph) (limits : Limits) → apply_all c g limits ≡ Ok h → h ≡ after c g
all_after [] g h limits e = cc
all_after (x ∷ xs) g h limits e =
    let first = first_made (apply_step x g limits) (λ k. apply_all xs k limits) h e in
    let same = stepped x g first.0 limits first.1 in
    all_after xs (made x g) h limits (subst (λ k. apply_all xs k limits ≡ Ok h) same first.2)

pub leaves_after : (c : List Step) (g h : Graph) (limits : Limits) → apply c g limits ≡ Ok h → h ≡ after c g
leaves_after c g h limits e = all_after c g h limits (accepted_all c g h limits e).1

ends_more : (has : Item → Bool) (edge : Item → Item → Bool) (p : Item) → Ends has edge → Ends (with_item has p) edge
ends_more has edge p ends a b h = (let e = ends a b h in (or_left (has a) (same_item a p) e.0, or_left (has b) (same_item b p) e.1))

module _ (g : Graph) (n : Names) (s : List Triple) (t : Triple) (r : IsImage g (number_in n) (has_item s) (has_join s)) where
  abbrev x : Item
  x = of_term t.subject

  abbrev w : Item
  w = of_triple t

  abbrev y : Item
  y = of_term t.object

  abbrev k1 : ℕ
  k1 = (placed_in n g t).subject

  abbrev k2 : ℕ
  k2 = (placed_in n g t).triple

  abbrev k3 : ℕ
  k3 = (placed_in n g t).object

  -- the graph with the subject, with the triple, and with the object
  abbrev o1 : Option ℕ
  o1 = node_there n g x

  abbrev o2 : Option ℕ
  o2 = node_there n g w

  abbrev o3 : Option ℕ
  o3 = object_there n g t k1

  abbrev g1 : Graph
  g1 = after (node_unless o1 (term_label t.subject)) g

  abbrev g2 : Graph
  g2 = after (node_unless o2 (predicate_label t.predicate)) g1

  abbrev g3 : Graph
  g3 = after (node_unless o3 (term_label t.object)) g2

  abbrev f1 : Item → Option ℕ
  f1 = named (number_in n) x k1

  abbrev f2 : Item → Option ℕ
  f2 = named f1 w k2

  abbrev f3 : Item → Option ℕ
  f3 = named f2 y k3

  abbrev has1 : Item → Bool
  has1 = with_item (has_item s) x

  abbrev has2 : Item → Bool
  has2 = with_item has1 w

  abbrev has3 : Item → Bool
  has3 = with_item has2 y

  ends : Ends (has_item s) (has_join s)
  ends a b h = joined_items s a b h

  image1 : IsImage g1 f1 has1 (has_join s)
  image1 = ensured g (number_in n) (has_item s) (has_join s) r ends x o1 refl

  there2 : if_live g1 (f1 w) ≡ o2
  there2 = there_still g g1 (number_in n) f1 (has_item s) has1 (has_join s) (has_join s) r image1 w (or-false (has_item s w)) refl

  long1 : length g1.allocated ≡ next_after o1 (length g.allocated)
  long1 = length_ensured g o1 (term_label t.subject)

  image2 : IsImage g2 f2 has2 (has_join s)
  image2 =
      subst (λ m. IsImage g2 (named f1 w (given_number o2 m)) has2 (has_join s)) long1
      (ensured g1 f1 has1 (has_join s) image1 (ends_more (has_item s) (has_join s) x ends) w o2 there2)

  long2 : length g2.allocated ≡ next_after o2 (next_after o1 (length g.allocated))
  long2 = length_ensured g1 o2 (predicate_label t.predicate) ∙ ap (next_after o2) long1

  there3 : if_live g2 (f2 y) ≡ o3
  there3 = elim (cases_Bool (same_term t.object t.subject)) [
    | inl on ↦
        is_there g2 f2 has2 (has_join s) image2 y k1 (or_left (has1 y) (same_item y w) (or_right (has_item s y) (same_item y x) on)) (ap (λ b. cond b (Some k1) (number_in n y)) on)
        ∙ sym (ap (λ b. if b then Some k1 else node_there n g y) on)
    | inr off ↦
        there_still g g2 (number_in n) f2 (has_item s) has2 (has_join s) (has_join s) r image2 y
        (or-false (has1 y) ∙ ap (λ b. has_item s y || b) off ∙ or-false (has_item s y)) (ap (λ b. cond b (Some k1) (number_in n y)) off)
        ∙ sym (ap (λ b. if b then Some k1 else node_there n g y) off)
  ]

  image3 : IsImage g3 f3 has3 (has_join s)
  image3 =
      subst (λ m. IsImage g3 (named f2 y (given_number o3 m)) has3 (has_join s)) long2
      (ensured g2 f2 has2 (has_join s) image2 (ends_more has1 (has_join s) w (ends_more (has_item s) (has_join s) x ends)) y o3 there3)

  -- the numbers of the three
  number_x : f3 x ≡ Some k1
  number_x = elim (cases_Bool (same_item x y)) [
    | inl on ↦ (
        let back : same_term t.object t.subject ≡ true = same_by y x (sym (item_is x y on)) in
        ap (λ b. cond b (Some k3) (f2 x)) on ∙ ap (λ b. Some (given_number (if b then Some k1 else node_there n g y) (next_after o2 (next_after o1 (length g.allocated))))) back)
    | inr off ↦ ap (λ b. cond b (Some k3) (f2 x)) off ∙ ap (λ b. cond b (Some k1) (number_in n x)) (item_same x)
  ]

  number_w : f3 w ≡ Some k2
  number_w = ap (λ b. cond b (Some k2) (f1 w)) (item_same w)

  number_y : f3 y ≡ Some k3
  number_y = ap (λ b. cond b (Some k3) (f2 y)) (item_same y)

  abbrev g5 : Graph
  g5 = with_edge (with_edge g3 k1 k2) k2 k3

  image5 : IsImage g5 f3 has3 (with_join (with_join (has_join s) x w) w y)
  image5 =
      edge_added (with_edge g3 k1 k2) f3 has3 (with_join (has_join s) x w) (edge_added g3 f3 has3 (has_join s) image3 x w k1 k2 number_x number_w) w y k2 k3 number_w number_y

  pub after_insert : after (insert_steps n g t) g ≡ g5
  after_insert =
      after_joined (node_unless o1 (term_label t.subject)) (node_unless o2 (predicate_label t.predicate) ++ (node_unless o3 (term_label t.object) ++ (link k1 k2 ∷ link k2 k3 ∷ []))) g
      ∙ after_joined (node_unless o2 (predicate_label t.predicate)) (node_unless o3 (term_label t.object) ++ (link k1 k2 ∷ link k2 k3 ∷ [])) g1
      ∙ after_joined (node_unless o3 (term_label t.object)) (link k1 k2 ∷ link k2 k3 ∷ []) g2

  three : (a b c d : Bool) → (((a || b) || c) || d) ≡ (a || (b || (c || d)))
  three true b c d = refl
  three false true c d = refl
  three false false c d = refl

  two : (a b c : Bool) → ((a || b) || c) ≡ (a || (b || c))
  two true b c = refl
  two false b c = refl

  pub image_inserted : IsImage (after (insert_steps n g t) g) (number_in (noted t (placed_in n g t) n)) (has_item (with_triple s t)) (has_join (with_triple s t))
  image_inserted =
      subst (λ k. IsImage k (number_in (noted t (placed_in n g t) n)) (has_item (with_triple s t)) (has_join (with_triple s t))) (sym after_insert)
      (image_by g5 f3 (number_in (noted t (placed_in n g t) n)) has3 (has_item (with_triple s t)) (with_join (with_join (has_join s) x w) w y) (has_join (with_triple s t))
      (λ q. sym (number_noted n t (placed_in n g t) q))
      (λ q. three (has_item s q) (same_item q x) (same_item q w) (same_item q y) ∙ sym (any_with (λ u. is_part u q) s t))
      (λ a b. two (has_join s a b) _ _ ∙ sym (any_with (λ u. joins u a b) s t))
      image5)

-- Where a graph with names represents triples, an accepted insert of a triple leaves one that represents them with it, once its
-- numbers are noted.
pub insert_keeps : (limits : Limits) (g h : Graph) (n : Names) (s : List Triple) (t : Triple) → Represents g n s → IsSpelled t
    → apply (insert_steps n g t) g limits ≡ Ok h → Represents h (noted t (placed_in n g t) n) (with_triple s t)
insert_keeps limits g h n s t r spelled e = subst (λ k. Represents k (noted t (placed_in n g t) n) (with_triple s t)) (sym (leaves_after (insert_steps n g t) g h limits e)) (record {
  distinct = distinct_with s t r.distinct;
  spelled = λ u among. elim (or_cases (is_among s u) (same_triple u t) (sym (any_with (same_triple u) s t) ∙ among)) [
    | inl old ↦ r.spelled u old
    | inr new ↦ subst IsSpelled (sym (triple_is u t new)) spelled
  ];
  image = image_inserted g n s t r.image;
})

pub insert_kept : (n : Names) (g : Graph) (t : Triple) (c : List Step) (p : Placed) → c ≡ insert_steps n g t → p ≡ placed_in n g t → InsertKeeps n g t c p
insert_kept n g t c p steps placed limits h s r spelled e =
    subst (λ q. Represents h (noted t q n) (with_triple s t)) (sym placed) (insert_keeps limits g h n s t r spelled (ap (λ k. apply k g limits) (sym steps) ∙ e))

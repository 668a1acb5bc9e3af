-- After accepted inserts and deletes the graph represents the triples that are present; and two graphs that represent the same
-- triples are isomorphic.
use Rattle.std.proofs.Common.{◌≡◌, ℕ, Bool, true, List, [], ◌∷◌, Some, sym, ap, ◌∙◌, subst, is_some, IsTrue}
use Rattle.std.specs.List.{list_any}
use Rattle.graph_spec.specs.declared.limits.Limits.{Limits}
use Rattle.graph_spec.specs.Graphs.{Graph, label_of, has_edge}
use Rattle.graph_spec.specs.Shapes.{shape_of}
use Rattle.triples_read.specs.declared.term.Triple.{Triple}
use Rattle.triple_names.specs.Items.{Item, item_label, is_part, joins, has_item, has_join}
use Rattle.triple_names.specs.Names.{Names, number_in}
use Rattle.triple_names.specs.Represented.{IsImage, Represents, is_among}
use Rattle.triple_names.specs.TripleChanges.{placed_in, noted}
use Rattle.triple_names.specs.Histories.{Edit, insert, delete, Edits, EditsAll, edited, edited_all}
use Rattle.triple_names.specs.Isomorphic.{IsIsomorphism, Paired}
use Rattle.triple_names.proofs.ItemLaws.{agree, find_one, found_one, joined_items}
use Rattle.triple_names.proofs.ImageSteps.{same_number}
use Rattle.triple_names.proofs.InsertKept.{insert_keeps}
use Rattle.triple_names.proofs.DeleteKept.{delete_keeps}
use Rattle.triple_names.proofs.SameNames.{represents_by}

edit_keeps : (limits : Limits) (e : Edit) (g h : Graph) (n k : Names) (s : List Triple) → Represents g n s → Edits limits e g n h k → Represents h k (edited e s)
edit_keeps limits (insert t) g h n k s r e = represents_by h (noted t (placed_in n g t) n) k (edited (insert t) s) e.2 (insert_keeps limits g h n s t r e.0 e.1)
edit_keeps limits (delete t) g h n k s r e = represents_by h n k (edited (delete t) s) e.3 (delete_keeps limits g h n s t e.0 r e.1 e.2)

pub edits_keep : (limits : Limits) (es : List Edit) (g h : Graph) (n k : Names) (s : List Triple) → Represents g n s → EditsAll limits es g n h k → Represents h k (edited_all es s)
edits_keep limits [] g h n k s r e = represents_by h n k s e.1 (subst (λ j. Represents j n s) e.0 r)
edits_keep limits (x ∷ xs) g h n k s r e = edits_keep limits xs e.0 h e.1 k (edited x s) (edit_keeps limits x g e.0 n e.1 s r e.2) e.3

-- lists with the same triples pass a test alike
any_alike : (p : Triple → Bool) (s t : List Triple) → ((u : Triple) → is_among s u ≡ is_among t u) → list_any p s ≡ list_any p t
any_alike p s t same = agree (list_any p s) (list_any p t)
    (λ h. (let w = find_one p s h in found_one p t w.0 (sym (same w.0) ∙ w.1) w.2))
    (λ h. (let w = find_one p t h in found_one p s w.0 (same w.0 ∙ w.1) w.2))

module _ (g h : Graph) (n k : Names) (s t : List Triple) (a : IsImage g (number_in n) (has_item s) (has_join s)) (b : IsImage h (number_in k) (has_item t) (has_join t))
    (same : (u : Triple) → is_among s u ≡ is_among t u) where
  items : (p : Item) → has_item s p ≡ has_item t p
  items p = any_alike (λ u. is_part u p) s t same

  edges : (p q : Item) → has_join s p q ≡ has_join t p q
  edges p q = any_alike (λ u. joins u p q) s t same

  label_a : (p : Item) (u : ℕ) → has_item s p ≡ true → number_in n p ≡ Some u → label_of g u ≡ Some (item_label p)
  label_a p u on number = (let l = a.labelled p on in subst (λ m. label_of g m ≡ Some (item_label p)) (same_number (number_in n p) l.0 u l.1 number) l.2)

  label_b : (p : Item) (v : ℕ) → has_item s p ≡ true → number_in k p ≡ Some v → label_of h v ≡ Some (item_label p)
  label_b p v on number = (let l = b.labelled p (sym (items p) ∙ on) in subst (λ m. label_of h m ≡ Some (item_label p)) (same_number (number_in k p) l.0 v l.1 number) l.2)

  pub image_isomorphism : IsIsomorphism (shape_of g) (shape_of h) (Paired n k s)
  image_isomorphism = record {
    there = λ u live. (let w = a.all u live in let l = b.labelled w.0 (sym (items w.0) ∙ w.1) in (l.0, ap is_some l.2, (w.0, w.1, w.2, l.1)));
    back = λ v live. (let w = b.all v live in let on = items w.0 ∙ w.1 in let l = a.labelled w.0 on in (l.0, ap is_some l.2, (w.0, on, l.1, w.2)));
    one = λ u v w p q. (let e = a.once u p.0 q.0 p.1 q.1 p.2 q.2 in same_number (number_in k q.0) v w (sym (ap (number_in k) e) ∙ p.3) q.3);
    only = λ u v w p q. (
        let e = b.once w p.0 q.0 (sym (items p.0) ∙ p.1) (sym (items q.0) ∙ q.1) p.3 q.3 in
        same_number (number_in n q.0) u v (sym (ap (number_in n) e) ∙ p.2) q.2);
    label = λ u v p. label_a p.0 u p.1 p.2 ∙ sym (label_b p.0 v p.1 p.3);
    edge = λ u v x y p q. agree (has_edge g u x) (has_edge h v y)
        (λ e. (
        let j = (a.edges u x).0 e in
        let i = joined_items s j.0 j.1 j.2 in
        let first = a.once u j.0 p.0 i.0 p.1 j.3 p.2 in
        let second = a.once x j.1 q.0 i.1 q.1 j.4 q.2 in
        (b.edges v y).1 (j.0, j.1, sym (edges j.0 j.1) ∙ j.2, ap (number_in k) first ∙ p.3, ap (number_in k) second ∙ q.3)))
        (λ e. (
        let j = (b.edges v y).0 e in
        let i = joined_items t j.0 j.1 j.2 in
        let first = b.once v j.0 p.0 i.0 (sym (items p.0) ∙ p.1) j.3 p.3 in
        let second = b.once y j.1 q.0 i.1 (sym (items q.0) ∙ q.1) j.4 q.3 in
        (a.edges u x).1 (j.0, j.1, edges j.0 j.1 ∙ j.2, ap (number_in n) first ∙ p.2, ap (number_in n) second ∙ q.2)));
  }

-- Two graphs that represent the same triples are isomorphic: their nodes are paired by what they are the nodes of.
pub represented_alike : (g h : Graph) (n k : Names) (s t : List Triple) → Represents g n s → Represents h k t → ((u : Triple) → is_among s u ≡ is_among t u)
    → IsIsomorphism (shape_of g) (shape_of h) (Paired n k s)
represented_alike g h n k s t r q same = image_isomorphism g h n k s t r.image q.image same

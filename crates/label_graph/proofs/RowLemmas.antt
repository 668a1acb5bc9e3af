-- Rows of which one gets another list, whose cells are written.
use Rattle.std.proofs.Common.{◌≡◌, ◌≢◌, ℕ, zero, suc, ◌*◌, ◌<◌, ◌≤◌, List, [], ◌∷◌, ◌++◌, Option, None, Some, length, take, map, refl, sym, ap, ◌∙◌, subst, arith, get_or, set, ◌⊎◌, inl, inr}
use Rattle.std.specs.Prelude.{slice_get, option_and_then}
use Rattle.std.proofs.lemmas.List.{get_or-map, map-set, length-map}
use Rattle.std.proofs.lemmas.Option.{slice_get-get_or}
use Rattle.cell_lists.specs.declared.segment.Segment.{Segment}
use Rattle.label_graph.specs.declared.node.Row.{Row}
use Rattle.label_graph.specs.Nodes.{Node, labels_of, number_at, children_of, parents_of}
use Rattle.cell_lists.specs.Segments.{items_in, LiesWithin, IsApart, Writes}
use Rattle.cell_lists.proofs.SegmentLemmas.{turned}
use Rattle.label_graph.specs.NodeRows.{segments_of, AreHeld, AreRows, row_labels, list_in, node_in, nodes_in}
use Rattle.label_graph.proofs.SetNodes.{children-at, parents-at}

abbrev pub twice : ℕ → ℕ
twice zero = 0
twice (suc n) = suc (suc (twice n))

pub twice-is : (n : ℕ) → twice n ≡ 2 * n
twice-is zero = omega arith
twice-is (suc n) = omega (arith, twice-is n)

pub children-list : (rows : List Row) (n : ℕ) (d : Row) → n < length rows → slice_get (segments_of rows) (twice n) ≡ Some (get_or rows n d).children
children-list [] n d h = absurd (omega arith)
children-list (r ∷ rs) zero d h = refl
children-list (r ∷ rs) (suc n) d h = children-list rs n d (omega arith)

pub parents-list : (rows : List Row) (n : ℕ) (d : Row) → n < length rows → slice_get (segments_of rows) (suc (twice n)) ≡ Some (get_or rows n d).parents
parents-list [] n d h = absurd (omega arith)
parents-list (r ∷ rs) zero d h = refl
parents-list (r ∷ rs) (suc n) d h = parents-list rs n d (omega arith)

-- the list with the number k was s and is t, and the others are as they were
pub record IsSetAt (old new : List Row) (k : ℕ) (s t : Segment) : Type 0 where
  pub was : slice_get (segments_of old) k ≡ Some s
  pub lists : (i : ℕ) (u : Segment) → slice_get (segments_of new) i ≡ Some u → ((i ≡ k) × (u ≡ t)) ⊎ ((i ≢ k) × (slice_get (segments_of old) i ≡ Some u))

only : (s t : Segment) → Some s ≡ Some t → s ≡ t
only s t e = cc

further : (k i : ℕ) (u t : Segment) (P : Type 0) → ((i ≡ k) × (u ≡ t)) ⊎ ((i ≢ k) × P) → ((suc (suc i) ≡ suc (suc k)) × (u ≡ t)) ⊎ ((suc (suc i) ≢ suc (suc k)) × P)
further k i u t P (inl (e, f)) = inl (ap (λ n. suc (suc n)) e, f)
further k i u t P (inr (e, f)) = inr ((λ h. e (omega (arith, h))), f)

child-lists : (rows : List Row) (n : ℕ) (r : Row) (t : Segment) → n < length rows → r ≡ get_or rows n r → (i : ℕ) (u : Segment)
    → slice_get (segments_of (set rows n (record r { children = t }))) i ≡ Some u → ((i ≡ twice n) × (u ≡ t)) ⊎ ((i ≢ twice n) × (slice_get (segments_of rows) i ≡ Some u))
child-lists [] n r t h is i u e = absurd (omega arith)
child-lists (y ∷ ys) zero r t h is zero u e = inl (refl, sym (only t u e))
child-lists (y ∷ ys) zero r t h is (suc zero) u e = inr ((λ q. absurd (omega (arith, q))), ap (λ x. Some x.parents) (sym is) ∙ e)
child-lists (y ∷ ys) zero r t h is (suc (suc i)) u e = inr ((λ q. absurd (omega (arith, q))), e)
child-lists (y ∷ ys) (suc n) r t h is zero u e = inr ((λ q. absurd (omega (arith, q))), e)
child-lists (y ∷ ys) (suc n) r t h is (suc zero) u e = inr ((λ q. absurd (omega (arith, q))), e)
child-lists (y ∷ ys) (suc n) r t h is (suc (suc i)) u e = further (twice n) i u t _ (child-lists ys n r t (omega arith) is i u e)

parent-lists : (rows : List Row) (n : ℕ) (r : Row) (t : Segment) → n < length rows → r ≡ get_or rows n r → (i : ℕ) (u : Segment)
    → slice_get (segments_of (set rows n (record r { parents = t }))) i ≡ Some u → ((i ≡ suc (twice n)) × (u ≡ t)) ⊎ ((i ≢ suc (twice n)) × (slice_get (segments_of rows) i ≡ Some u))
parent-lists [] n r t h is i u e = absurd (omega arith)
parent-lists (y ∷ ys) zero r t h is zero u e = inr ((λ q. absurd (omega (arith, q))), ap (λ x. Some x.children) (sym is) ∙ e)
parent-lists (y ∷ ys) zero r t h is (suc zero) u e = inl (refl, sym (only t u e))
parent-lists (y ∷ ys) zero r t h is (suc (suc i)) u e = inr ((λ q. absurd (omega (arith, q))), e)
parent-lists (y ∷ ys) (suc n) r t h is zero u e = inr ((λ q. absurd (omega (arith, q))), e)
parent-lists (y ∷ ys) (suc n) r t h is (suc zero) u e = inr ((λ q. absurd (omega (arith, q))), e)
parent-lists (y ∷ ys) (suc n) r t h is (suc (suc i)) u e = further (suc (twice n)) i u t _ (parent-lists ys n r t (omega arith) is i u e)

module _ (cells more : List ℕ) (old new : List Row) (k : ℕ) (s t : Segment) (is : IsSetAt old new k s t) (w : Writes cells more s t) (h : AreHeld cells old) where
  within-new : (i : ℕ) (u : Segment) → ((i ≡ k) × (u ≡ t)) ⊎ ((i ≢ k) × (slice_get (segments_of old) i ≡ Some u)) → LiesWithin (length more) u
  within-new i u (inl (e, f)) = subst (LiesWithin (length more)) (sym f) w.within
  within-new i u (inr (e, f)) = let o = h.within i u f in record { fits = o.fits; ends = λ l. omega (arith, o.ends l, w.longer) }

  apart-new : (i j : ℕ) (u v : Segment) → i ≢ j
      → ((i ≡ k) × (u ≡ t)) ⊎ ((i ≢ k) × (slice_get (segments_of old) i ≡ Some u))
      → ((j ≡ k) × (v ≡ t)) ⊎ ((j ≢ k) × (slice_get (segments_of old) j ≡ Some v)) → IsApart u v
  apart-new i j u v ne (inl (e, f)) (inl (g, l)) = absurd (ne (e ∙ sym g))
  apart-new i j u v ne (inl (e, f)) (inr (g, l)) =
      subst (λ x. IsApart x v) (sym f) (w.apart v (h.within j v l) (h.apart k j s v (λ q. g (sym q)) is.was l))
  apart-new i j u v ne (inr (e, f)) (inl (g, l)) =
      subst (IsApart u) (sym l) (turned t u (w.apart u (h.within i u f) (h.apart k i s u (λ q. e (sym q)) is.was f)))
  apart-new i j u v ne (inr (e, f)) (inr (g, l)) = h.apart i j u v ne f l

  pub held-set : AreHeld more new
  held-set = record {
    within = λ i u e. within-new i u (is.lists i u e);
    apart = λ i j u v ne e f. apart-new i j u v ne (is.lists i u e) (is.lists j v f);
  }

  -- the other lists are as they were
  pub items-kept : (i : ℕ) (u : Segment) → i ≢ k → slice_get (segments_of old) i ≡ Some u → items_in more u ≡ items_in cells u
  items-kept i u ne e = w.others u (h.within i u e) (h.apart k i s u (λ q. ne (sym q)) is.was e)

same-map : (f g : Row → Node) (rows : List Row) (d : Row) → ((m : ℕ) → m < length rows → f (get_or rows m d) ≡ g (get_or rows m d)) → map f rows ≡ map g rows
same-map f g [] d h i = []
same-map f g (x ∷ xs) d h i = h 0 (omega arith) i ∷ same-map f g xs d (λ m l. h (suc m) (omega arith)) i

set-others : (f g : Row → Node) (rows : List Row) (n : ℕ) (y : Node) (d : Row) → ((m : ℕ) → m < length rows → m ≢ n → f (get_or rows m d) ≡ g (get_or rows m d)) → set (map f rows) n y ≡ set (map g rows) n y
set-others f g [] n y d h i = []
set-others f g (x ∷ xs) zero y d h i = y ∷ same-map f g xs d (λ m l. h (suc m) (omega arith) (λ q. absurd (omega (arith, q)))) i
set-others f g (x ∷ xs) (suc n) y d h i = h 0 (omega arith) (λ q. absurd (omega (arith, q))) i ∷ set-others f g xs n y d (λ m l ne. h (suc m) (omega arith) (λ q. ne (omega (arith, q)))) i

module _ (cells more : List ℕ) (rows : List Row) (n : ℕ) (r : Row) (t : Segment) (below : n < length rows) (is : r ≡ get_or rows n r) (h : AreHeld cells rows) where
  row-same : (x : Row) → items_in more x.children ≡ items_in cells x.children → items_in more x.parents ≡ items_in cells x.parents → node_in more x ≡ node_in cells x
  row-same x c p i = record {
    label = x.label;
    children = record { items = c i; capacity = x.children.reserved };
    parents = record { items = p i; capacity = x.parents.reserved };
  }

  module _ (w : Writes cells more r.children t) where
    child-is : IsSetAt rows (set rows n (record r { children = t })) (twice n) r.children t
    child-is = record { was = children-list rows n r below ∙ ap (λ x. Some x.children) (sym is); lists = child-lists rows n r t below is }

    pub held-child : AreHeld more (set rows n (record r { children = t }))
    held-child = held-set cells more rows _ (twice n) r.children t child-is w h

    kept : (i : ℕ) (u : Segment) → i ≢ twice n → slice_get (segments_of rows) i ≡ Some u → items_in more u ≡ items_in cells u
    kept = items-kept cells more rows _ (twice n) r.children t child-is w h

    other : (m : ℕ) → m < length rows → m ≢ n → node_in more (get_or rows m r) ≡ node_in cells (get_or rows m r)
    other m l ne =
        row-same (get_or rows m r)
        (kept (twice m) _ (λ q. ne (omega (arith, q, twice-is m, twice-is n))) (children-list rows m r l))
        (kept (suc (twice m)) _ (λ q. absurd (omega (arith, q, twice-is m, twice-is n))) (parents-list rows m r l))

    pub child-seen : nodes_in more (set rows n (record r { children = t })) ≡ set (nodes_in cells rows) n (record { label = r.label; children = list_in more t; parents = list_in cells r.parents })
    child-seen =
        map-set (node_in more) rows n (record r { children = t })
        ∙ ap (λ l. set (nodes_in more rows) n (record { label = r.label; children = list_in more t; parents = record { items = l; capacity = r.parents.reserved } }))
        (kept (suc (twice n)) r.parents (λ q. absurd (omega (arith, q, twice-is n))) (parents-list rows n r below ∙ ap (λ x. Some x.parents) (sym is)))
        ∙ set-others (node_in more) (node_in cells) rows n _ r other

  module _ (w : Writes cells more r.parents t) where
    parent-is : IsSetAt rows (set rows n (record r { parents = t })) (suc (twice n)) r.parents t
    parent-is = record { was = parents-list rows n r below ∙ ap (λ x. Some x.parents) (sym is); lists = parent-lists rows n r t below is }

    pub held-parent : AreHeld more (set rows n (record r { parents = t }))
    held-parent = held-set cells more rows _ (suc (twice n)) r.parents t parent-is w h

    kept-too : (i : ℕ) (u : Segment) → i ≢ suc (twice n) → slice_get (segments_of rows) i ≡ Some u → items_in more u ≡ items_in cells u
    kept-too = items-kept cells more rows _ (suc (twice n)) r.parents t parent-is w h

    other-too : (m : ℕ) → m < length rows → m ≢ n → node_in more (get_or rows m r) ≡ node_in cells (get_or rows m r)
    other-too m l ne =
        row-same (get_or rows m r)
        (kept-too (twice m) _ (λ q. absurd (omega (arith, q, twice-is m, twice-is n))) (children-list rows m r l))
        (kept-too (suc (twice m)) _ (λ q. ne (omega (arith, q, twice-is m, twice-is n))) (parents-list rows m r l))

    pub parent-seen : nodes_in more (set rows n (record r { parents = t })) ≡ set (nodes_in cells rows) n (record { label = r.label; children = list_in cells r.children; parents = list_in more t })
    parent-seen =
        map-set (node_in more) rows n (record r { parents = t })
        ∙ ap (λ l. set (nodes_in more rows) n (record { label = r.label; children = record { items = l; capacity = r.children.reserved }; parents = list_in more t }))
        (kept-too (twice n) r.children (λ q. absurd (omega (arith, q, twice-is n))) (children-list rows n r below ∙ ap (λ x. Some x.children) (sym is)))
        ∙ set-others (node_in more) (node_in cells) rows n _ r other-too

-- the lists of a row, as those of a node
module _ (cells : List ℕ) (rows : List Row) (n : ℕ) (r : Row) (below : n < length rows) (is : r ≡ get_or rows n r) where
  pub row-seen : node_in cells r ≡ get_or (nodes_in cells rows) n (node_in cells r)
  row-seen = ap (node_in cells) is ∙ sym (get_or-map (node_in cells) rows n r (node_in cells r) below)

  pub below-seen : n < length (nodes_in cells rows)
  below-seen = omega (arith, below, length-map rows (node_in cells))

  pub child-within : AreHeld cells rows → LiesWithin (length cells) r.children
  child-within h = h.within (twice n) r.children (children-list rows n r below ∙ ap (λ x. Some x.children) (sym is))

  pub parent-within : AreHeld cells rows → LiesWithin (length cells) r.parents
  parent-within h = h.within (suc (twice n)) r.parents (parents-list rows n r below ∙ ap (λ x. Some x.parents) (sym is))

  pub children-seen : items_in cells r.children ≡ children_of (nodes_in cells rows) n
  children-seen = ap (λ x. x.children.items) row-seen ∙ sym (children-at (nodes_in cells rows) n (node_in cells r) below-seen)

  pub parents-seen : items_in cells r.parents ≡ parents_of (nodes_in cells rows) n
  parents-seen = ap (λ x. x.parents.items) row-seen ∙ sym (parents-at (nodes_in cells rows) n (node_in cells r) below-seen)

  pub label-seen : r.label ≡ number_at (map (λ x. x.label) (nodes_in cells rows)) n
  label-seen =
      ap (λ x. x.label) row-seen
      ∙ sym (ap (option_and_then (λ l. l)) (slice_get-get_or (map (λ x. x.label) (nodes_in cells rows)) n r.label (omega (arith, below-seen, length-map (nodes_in cells rows) (λ x. x.label))))
      ∙ get_or-map (λ x. x.label) (nodes_in cells rows) n (node_in cells r) r.label below-seen)

-- a row whose label alone is written has its lists
segments-label : (rows : List Row) (n : ℕ) (r : Row) (l : Option ℕ) → n < length rows → r ≡ get_or rows n r → segments_of (set rows n (record r { label = l })) ≡ segments_of rows
segments-label [] n r l h is = absurd (omega arith)
segments-label (y ∷ ys) zero r l h is = ap (λ x. x.children ∷ x.parents ∷ segments_of ys) is
segments-label (y ∷ ys) (suc n) r l h is = ap (λ x. y.children ∷ y.parents ∷ x) (segments-label ys n r l (omega arith) is)

pub held-label : (cells : List ℕ) (rows : List Row) (n : ℕ) (r : Row) (l : Option ℕ) → n < length rows → r ≡ get_or rows n r → AreHeld cells rows → AreHeld cells (set rows n (record r { label = l }))
held-label cells rows n r l below is h =
    let e = segments-label rows n r l below is in
    record {
      within = λ i s g. h.within i s (ap (λ x. slice_get x i) (sym e) ∙ g);
      apart = λ i j s t ne g k. h.apart i j s t ne (ap (λ x. slice_get x i) (sym e) ∙ g) (ap (λ x. slice_get x j) (sym e) ∙ k);
    }

-- a list that takes no cell
pub record IsNowhere (s : Segment) : Type 0 where
  pub len : s.len ≡ 0
  pub reserved : s.reserved ≡ 1

nowhere-by : (s t : Segment) → IsNowhere s → Some s ≡ Some t → IsNowhere t
nowhere-by s t n e = subst IsNowhere (only s t e) n

segments-push : (rows : List Row) (r : Row) (i : ℕ) (s : Segment) → IsNowhere r.children → IsNowhere r.parents → slice_get (segments_of (rows ++ r ∷ [])) i ≡ Some s → (slice_get (segments_of rows) i ≡ Some s) ⊎ IsNowhere s
segments-push [] r zero s c p e = inr (nowhere-by r.children s c e)
segments-push [] r (suc zero) s c p e = inr (nowhere-by r.parents s p e)
segments-push [] r (suc (suc i)) s c p e = inl e
segments-push (x ∷ xs) r zero s c p e = inl e
segments-push (x ∷ xs) r (suc zero) s c p e = inl e
segments-push (x ∷ xs) r (suc (suc i)) s c p e = segments-push xs r i s c p e

module _ (cells : List ℕ) (rows : List Row) (r : Row) (children : IsNowhere r.children) (parents : IsNowhere r.parents) (h : AreHeld cells rows) where
  within-push : (i : ℕ) (s : Segment) → (slice_get (segments_of rows) i ≡ Some s) ⊎ IsNowhere s → LiesWithin (length cells) s
  within-push i s (inl e) = h.within i s e
  within-push i s (inr n) = record { fits = omega (arith, n.len); ends = λ l. absurd (omega (arith, n.reserved, l)) }

  apart-push : (i j : ℕ) (s t : Segment) → i ≢ j → (slice_get (segments_of rows) i ≡ Some s) ⊎ IsNowhere s → (slice_get (segments_of rows) j ≡ Some t) ⊎ IsNowhere t → IsApart s t
  apart-push i j s t ne (inl e) (inl f) = h.apart i j s t ne e f
  apart-push i j s t ne (inr n) f = λ a b. absurd (omega (arith, n.reserved, a))
  apart-push i j s t ne (inl e) (inr n) = λ a b. absurd (omega (arith, n.reserved, b))

  pub held-push : AreHeld cells (rows ++ r ∷ [])
  held-push = record {
    within = λ i s e. within-push i s (segments-push rows r i s children parents e);
    apart = λ i j s t ne e f. apart-push i j s t ne (segments-push rows r i s children parents e) (segments-push rows r j t children parents f);
  }

-- labels by their rows
pub labels-by : (cells : List ℕ) (rows : List Row) → map (λ x. x.label) (nodes_in cells rows) ≡ row_labels rows
labels-by cells [] = refl
labels-by cells (r ∷ rs) = ap (λ l. r.label ∷ l) (labels-by cells rs)

pub set-label : (rows : List Row) (n : ℕ) (r y : Row) → r ≡ get_or rows n r → y.label ≡ r.label → row_labels (set rows n y) ≡ row_labels rows
set-label [] n r y is e = refl
set-label (x ∷ xs) zero r y is e = ap (λ l. l ∷ row_labels xs) (e ∙ ap (λ z. z.label) is)
set-label (x ∷ xs) (suc n) r y is e = ap (λ l. x.label ∷ l) (set-label xs n r y is e)

-- rows of which lists alone are written
pub rows-written : (cells more : List ℕ) (rows new : List Row) (shown : ℕ) → AreRows cells rows shown → length new ≡ length rows → row_labels new ≡ row_labels rows → AreHeld more new → AreRows more new shown
rows-written cells more rows new shown a size labels held = record {
  held = held;
  within = omega (arith, a.within, size);
  spare = λ n h. ap (λ l. number_at l n) labels ∙ a.spare n h;
}

-- a node is live by the rows that are shown
number-shown : (ls : List (Option ℕ)) (shown n : ℕ) → ((m : ℕ) → shown ≤ m → number_at ls m ≡ None) → number_at (take shown ls) n ≡ number_at ls n
number-shown [] zero n h = refl
number-shown [] (suc shown) n h = refl
number-shown (x ∷ xs) zero n h = sym (h n (omega arith))
number-shown (x ∷ xs) (suc shown) zero h = refl
number-shown (x ∷ xs) (suc shown) (suc n) h = number-shown xs shown n (λ m l. h (suc m) (omega (arith, l)))

pub label-shown : (cells : List ℕ) (rows : List Row) (shown n : ℕ) → AreRows cells rows shown → number_at (labels_of shown (nodes_in cells rows)) n ≡ number_at (map (λ x. x.label) (nodes_in cells rows)) n
label-shown cells rows shown n a =
    number-shown (map (λ x. x.label) (nodes_in cells rows)) shown n (λ m h. ap (λ l. number_at l m) (labels-by cells rows) ∙ a.spare m h)

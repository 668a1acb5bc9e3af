-- Rows of which two exchange the cells of a list, or the cells of an empty list are written.
use Rattle.std.proofs.Common.{◌≡◌, ◌≢◌, false, ℕ, zero, suc, ◌-◌, ◌<◌, ◌≤◌, List, [], ◌∷◌, Option, None, Some, length, take, refl, sym, ap, ◌∙◌, subst, arith, get_or, set, length-set, ◌⊎◌, inl, inr, true≢false}
use Rattle.std.specs.Prelude.{slice_get, is_some}
use Rattle.std.proofs.lemmas.List.{get_or-set_same, get_or-set_other, length-map}
use Rattle.std.proofs.lemmas.Option.{get_or_from_slice_get}
use Rattle.bisim_spec.specs.declared.sides.Side.{Side}
use Rattle.bisim_spec.specs.declared.sides.Side.TheVariants.{Parents, Children}
use Rattle.cell_lists.specs.declared.segment.Segment.{Segment}
use Rattle.label_graph.specs.declared.node.Row.{Row}
use Rattle.label_graph.specs.Nodes.{labels_of, number_at, IsKept, IsGoneBeside, children_of, parents_of, child_reserved, parent_reserved, SameNodes}
use Rattle.cell_lists.specs.Segments.{items_in, LiesWithin, IsApart, Writes, Exchanges}
use Rattle.label_graph.specs.NodeRows.{list_of, with_list, segments_of, AreHeld, AreRows, row_labels, node_in, nodes_in}
use Rattle.cell_lists.proofs.SegmentLemmas.{turned}
use Rattle.label_graph.proofs.RowLemmas.{twice, twice-is, children-list, parents-list, labels-by, set-label, rows-written}

-- a list by its number
abbrev nowhere : Segment
nowhere = record { first = 0; len = 0; reserved = 0 }

abbrev pub list_at : List Row → ℕ → Segment
list_at rows i = get_or (segments_of rows) i nowhere

-- how many more fit
abbrev free_cells : List ℕ → Segment → ℕ
free_cells cells s = s.reserved - length (items_in cells s)

children-by : (cells : List ℕ) (rows : List Row) (w : ℕ) → children_of (nodes_in cells rows) w ≡ items_in cells (list_at rows (twice w))
children-by cells [] w = refl
children-by cells (r ∷ rs) zero = refl
children-by cells (r ∷ rs) (suc w) = children-by cells rs w

parents-by : (cells : List ℕ) (rows : List Row) (w : ℕ) → parents_of (nodes_in cells rows) w ≡ items_in cells (list_at rows (suc (twice w)))
parents-by cells [] w = refl
parents-by cells (r ∷ rs) zero = refl
parents-by cells (r ∷ rs) (suc w) = parents-by cells rs w

child_reserved-by : (cells : List ℕ) (rows : List Row) (w : ℕ) → child_reserved (nodes_in cells rows) w ≡ free_cells cells (list_at rows (twice w))
child_reserved-by cells [] w = refl
child_reserved-by cells (r ∷ rs) zero = refl
child_reserved-by cells (r ∷ rs) (suc w) = child_reserved-by cells rs w

parent_reserved-by : (cells : List ℕ) (rows : List Row) (w : ℕ) → parent_reserved (nodes_in cells rows) w ≡ free_cells cells (list_at rows (suc (twice w)))
parent_reserved-by cells [] w = refl
parent_reserved-by cells (r ∷ rs) zero = refl
parent_reserved-by cells (r ∷ rs) (suc w) = parent_reserved-by cells rs w

-- the number of a node's list
abbrev pub list_place : Side → ℕ → ℕ
list_place Children n = twice n
list_place Parents n = suc (twice n)

-- it is written
list-written : (side : Side) (rows : List Row) (n : ℕ) (r : Row) (t : Segment) → r ≡ get_or rows n r
    → segments_of (set rows n (with_list side r t)) ≡ set (segments_of rows) (list_place side n) t
list-written Children [] n r t is = refl
list-written Children (y ∷ ys) zero r t is = ap (λ x. t ∷ x.parents ∷ segments_of ys) is
list-written Children (y ∷ ys) (suc n) r t is = ap (λ l. y.children ∷ y.parents ∷ l) (list-written Children ys n r t is)
list-written Parents [] n r t is = refl
list-written Parents (y ∷ ys) zero r t is = ap (λ x. x.children ∷ t ∷ segments_of ys) is
list-written Parents (y ∷ ys) (suc n) r t is = ap (λ l. y.children ∷ y.parents ∷ l) (list-written Parents ys n r t is)

label-same : (side : Side) (r : Row) (t : Segment) → (with_list side r t).label ≡ r.label
label-same Children r t = refl
label-same Parents r t = refl

module _ (side : Side) (rows : List Row) (n : ℕ) (r new : Row) (t : Segment) (is : r ≡ get_or rows n r) (e : new ≡ with_list side r t) where
  set-list : segments_of (set rows n new) ≡ set (segments_of rows) (list_place side n) t
  set-list = ap (λ x. segments_of (set rows n x)) e ∙ list-written side rows n r t is

  set-list-label : row_labels (set rows n new) ≡ row_labels rows
  set-list-label = set-label rows n r new is (ap (λ x. x.label) e ∙ label-same side r t)

list-count : (rows : List Row) → length (segments_of rows) ≡ twice (length rows)
list-count [] = refl
list-count (r ∷ rs) = ap (λ n. suc (suc n)) (list-count rs)

-- lists that are held, by their numbers
same-or : (i k : ℕ) → (i ≡ k) ⊎ (i ≢ k)
same-or zero zero = inl refl
same-or zero (suc k) = inr (λ e. absurd (omega (arith, e)))
same-or (suc i) zero = inr (λ e. absurd (omega (arith, e)))
same-or (suc i) (suc k) = elim (same-or i k) [
  | inl e ↦ inl (ap suc e)
  | inr e ↦ inr (λ f. e (omega (arith, f)))
]

there-or : (lists : List Segment) (i : ℕ) → (get_or lists i nowhere ≡ nowhere) ⊎ (slice_get lists i ≡ Some (get_or lists i nowhere))
there-or [] i = inl refl
there-or (s ∷ ss) zero = inr refl
there-or (s ∷ ss) (suc i) = there-or ss i

module _ (cells : List ℕ) (rows : List Row) (h : AreHeld cells rows) where
  pub within-at : (i : ℕ) → LiesWithin (length cells) (list_at rows i)
  within-at i = elim (there-or (segments_of rows) i) [
    | inl e ↦ subst (LiesWithin (length cells)) (sym e) (record { fits = omega arith; ends = λ l. absurd (omega (arith, l)) })
    | inr e ↦ h.within i (list_at rows i) e
  ]

  pub apart-at : (i j : ℕ) → i ≢ j → IsApart (list_at rows i) (list_at rows j)
  apart-at i j ne = elim (there-or (segments_of rows) i) [
    | inl e ↦ λ a b. absurd (omega (arith, a, ap (λ s. s.reserved) e))
    | inr e ↦ elim (there-or (segments_of rows) j) [
      | inl f ↦ λ a b. absurd (omega (arith, b, ap (λ s. s.reserved) f))
      | inr f ↦ h.apart i j (list_at rows i) (list_at rows j) ne e f
    ]
  ]

held-by : (cells : List ℕ) (rows : List Row) → ((i : ℕ) → LiesWithin (length cells) (list_at rows i)) → ((i j : ℕ) → i ≢ j → IsApart (list_at rows i) (list_at rows j)) → AreHeld cells rows
held-by cells rows within apart = record {
  within = λ i s e. subst (LiesWithin (length cells)) (get_or_from_slice_get (segments_of rows) i s nowhere e) (within i);
  apart = λ i j s t ne e f.
      subst (λ x. IsApart x t) (get_or_from_slice_get (segments_of rows) i s nowhere e)
      (subst (IsApart (list_at rows i)) (get_or_from_slice_get (segments_of rows) j t nowhere f) (apart i j ne));
}

-- the lists k and l have t and q instead
module _ (cells more : List ℕ) (rows new : List Row) (k l : ℕ) (t q : Segment) (ne : k ≢ l) (below_k : k < length (segments_of rows)) (below_l : l < length (segments_of rows))
    (is : segments_of new ≡ set (set (segments_of rows) k t) l q) (e : Exchanges cells more (list_at rows k) (list_at rows l) t q) (h : AreHeld cells rows) where
  first-is : list_at new k ≡ t
  first-is = ap (λ x. get_or x k nowhere) is ∙ get_or-set_other (set (segments_of rows) k t) l k q nowhere ne ∙ get_or-set_same (segments_of rows) k t nowhere below_k

  second-is : list_at new l ≡ q
  second-is = ap (λ x. get_or x l nowhere) is ∙ get_or-set_same (set (segments_of rows) k t) l q nowhere (omega (arith, below_l, length-set (segments_of rows) k t))

  other-is : (i : ℕ) → i ≢ k → i ≢ l → list_at new i ≡ list_at rows i
  other-is i a b = ap (λ x. get_or x i nowhere) is ∙ get_or-set_other (set (segments_of rows) k t) l i q nowhere b ∙ get_or-set_other (segments_of rows) k i t nowhere a

  -- what holds of t, of q and of each other list holds of each
  each : (P : ℕ → Segment → Type 0) → P k t → P l q → ((i : ℕ) → i ≢ k → i ≢ l → P i (list_at rows i)) → (i : ℕ) → P i (list_at new i)
  each P a b c i = elim (same-or i k) [
    | inl f ↦ subst (P i) (sym (ap (list_at new) f ∙ first-is)) (subst (λ n. P n t) (sym f) a)
    | inr f ↦ elim (same-or i l) [
      | inl g ↦ subst (P i) (sym (ap (list_at new) g ∙ second-is)) (subst (λ n. P n q) (sym g) b)
      | inr g ↦ subst (P i) (sym (other-is i f g)) (c i f g)
    ]
  ]

  apart-first : (j : ℕ) → j ≢ k → IsApart t (list_at new j)
  apart-first = each (λ j u. j ≢ k → IsApart t u) (λ ne. absurd (ne refl)) (λ _. e.between)
      (λ j a b _. e.list_apart (list_at rows j) (apart-at cells rows h k j (λ f. a (sym f))) (apart-at cells rows h l j (λ f. b (sym f))))

  apart-second : (j : ℕ) → j ≢ l → IsApart q (list_at new j)
  apart-second = each (λ j u. j ≢ l → IsApart q u) (λ _. turned t q e.between) (λ ne. absurd (ne refl))
      (λ j a b _. e.vacant_apart (list_at rows j) (apart-at cells rows h k j (λ f. a (sym f))) (apart-at cells rows h l j (λ f. b (sym f))))

  apart-other : (i : ℕ) → i ≢ k → i ≢ l → (j : ℕ) → i ≢ j → IsApart (list_at rows i) (list_at new j)
  apart-other i a b = each (λ j u. i ≢ j → IsApart (list_at rows i) u)
      (λ _. turned t (list_at rows i) (e.list_apart (list_at rows i) (apart-at cells rows h k i (λ f. a (sym f))) (apart-at cells rows h l i (λ f. b (sym f)))))
      (λ _. turned q (list_at rows i) (e.vacant_apart (list_at rows i) (apart-at cells rows h k i (λ f. a (sym f))) (apart-at cells rows h l i (λ f. b (sym f)))))
      (λ j _ _ ne. apart-at cells rows h i j ne)

  pub held-exchanged : AreHeld more new
  held-exchanged = held-by more new
      (each (λ _ u. LiesWithin (length more) u) e.list_within e.vacant_within (λ i _ _. subst (λ n. LiesWithin n (list_at rows i)) (sym e.size) (within-at cells rows h i)))
      (each (λ i u. (j : ℕ) → i ≢ j → IsApart u (list_at new j)) (λ j ne. apart-first j (λ f. ne (sym f))) (λ j ne. apart-second j (λ f. ne (sym f))) apart-other)

  other-items : (i : ℕ) → i ≢ k → i ≢ l → items_in more (list_at rows i) ≡ items_in cells (list_at rows i)
  other-items i a b = e.others (list_at rows i) (within-at cells rows h i) (apart-at cells rows h k i (λ f. a (sym f))) (apart-at cells rows h l i (λ f. b (sym f)))

  items-same : (i : ℕ) → items_in more (list_at new i) ≡ items_in cells (list_at rows i)
  items-same = each (λ i u. items_in more u ≡ items_in cells (list_at rows i)) e.list_items e.vacant_items other-items

  free-kept : (i : ℕ) → i ≢ l → free_cells cells (list_at rows i) ≤ free_cells more (list_at new i)
  free-kept = each (λ i u. i ≢ l → free_cells cells (list_at rows i) ≤ free_cells more u)
      (λ _. omega (arith, e.more, ap length e.list_items)) (λ ne. absurd (ne refl)) (λ i a b _. omega (arith, ap length (other-items i a b)))

  pub same-exchanged : (shown : ℕ) → length new ≡ length rows → row_labels new ≡ row_labels rows → ((w : ℕ) → IsKept shown (nodes_in cells rows) w → (twice w ≢ l) × (suc (twice w) ≢ l))
      → SameNodes shown (nodes_in cells rows) (nodes_in more new)
  same-exchanged shown size labels gone = record {
    size = omega (arith, size, length-map rows (node_in cells), length-map new (node_in more));
    labels = ap (take shown) (labels-by more new ∙ labels ∙ sym (labels-by cells rows));
    children = λ w. children-by more new w ∙ items-same (twice w) ∙ sym (children-by cells rows w);
    parents = λ w. parents-by more new w ∙ items-same (suc (twice w)) ∙ sym (parents-by cells rows w);
    child_reserves = λ w live. omega (arith, free-kept (twice w) (gone w live).0, child_reserved-by cells rows w, child_reserved-by more new w);
    parent_reserves = λ w live. omega (arith, free-kept (suc (twice w)) (gone w live).1, parent_reserved-by cells rows w, parent_reserved-by more new w);
  }

-- a list of one node
pub list-is : (side : Side) (rows : List Row) (n : ℕ) (r : Row) → n < length rows → r ≡ get_or rows n r → list_at rows (list_place side n) ≡ list_of side r
list-is Children rows n r below is = get_or_from_slice_get (segments_of rows) (twice n) r.children nowhere (children-list rows n r below ∙ ap (λ x. Some x.children) (sym is))
list-is Parents rows n r below is = get_or_from_slice_get (segments_of rows) (suc (twice n)) r.parents nowhere (parents-list rows n r below ∙ ap (λ x. Some x.parents) (sym is))

pub list-within : (cells : List ℕ) (side : Side) (rows : List Row) (n : ℕ) (r : Row) → n < length rows → r ≡ get_or rows n r → AreHeld cells rows → LiesWithin (length cells) (list_of side r)
list-within cells side rows n r below is h = subst (LiesWithin (length cells)) (list-is side rows n r below is) (within-at cells rows h (list_place side n))

-- other nodes have other lists
other-place : (side own : Side) (u g : ℕ) → u ≢ g → list_place own u ≢ list_place side g
other-place Children Children u g ne e = (let same : twice u ≡ twice g = e in ne (omega (arith, same, twice-is u, twice-is g)))
other-place Children Parents u g ne e = (let odd : suc (twice u) ≡ twice g = e in absurd (omega (arith, odd, twice-is u, twice-is g)))
other-place Parents Children u g ne e = (let odd : twice u ≡ suc (twice g) = e in absurd (omega (arith, odd, twice-is u, twice-is g)))
other-place Parents Parents u g ne e = (let same : suc (twice u) ≡ suc (twice g) = e in ne (omega (arith, same, twice-is u, twice-is g)))

place-below : (side : Side) (rows : List Row) (n : ℕ) → n < length rows → list_place side n < length (segments_of rows)
place-below Children rows n l = (let below : twice n < length (segments_of rows) = omega (arith, l, list-count rows, twice-is n, twice-is (length rows)) in below)
place-below Parents rows n l = (let below : suc (twice n) < length (segments_of rows) = omega (arith, l, list-count rows, twice-is n, twice-is (length rows)) in below)

nodes-same : (cells more : List ℕ) (rows : List Row) → ((i : ℕ) → items_in more (list_at rows i) ≡ items_in cells (list_at rows i)) → nodes_in more rows ≡ nodes_in cells rows
nodes-same cells more [] same i = []
nodes-same cells more (r ∷ rs) same i =
    record {
      label = r.label;
      children = record { items = same 0 i; capacity = r.children.reserved };
      parents = record { items = same 1 i; capacity = r.parents.reserved };
    }
    ∷ nodes-same cells more rs (λ j. same (suc (suc j))) i

-- the cells of the list k are written, which keeps its numbers
module _ (cells more : List ℕ) (rows : List Row) (k : ℕ) (s : Segment) (is : list_at rows k ≡ s) (w : Writes cells more s s) (same : items_in more s ≡ items_in cells s) (h : AreHeld cells rows) where
  pub held-noted : AreHeld more rows
  held-noted = held-by more rows
      (λ i. let o = within-at cells rows h i in record { fits = o.fits; ends = λ l. omega (arith, o.ends l, w.longer) })
      (apart-at cells rows h)

  items-noted : (i : ℕ) → items_in more (list_at rows i) ≡ items_in cells (list_at rows i)
  items-noted i = elim (same-or i k) [
    | inl e ↦ subst (λ u. items_in more u ≡ items_in cells u) (sym (ap (list_at rows) e ∙ is)) same
    | inr e ↦ w.others (list_at rows i) (within-at cells rows h i) (subst (λ u. IsApart u (list_at rows i)) is (apart-at cells rows h k i (λ f. e (sym f))))
  ]

  pub nodes-noted : nodes_in more rows ≡ nodes_in cells rows
  nodes-noted = nodes-same cells more rows items-noted

-- a list that has no place left, and that of a gone node
module _ (cells : List ℕ) (side : Side) (rows : List Row) (u g : ℕ) (a b : Row) (s m : Segment) (below : u < length rows) (is_a : a ≡ get_or rows u a) (is_b : b ≡ get_or rows g b)
    (is_s : s ≡ list_of side a) (is_m : m ≡ list_of side b) {shown : ℕ} (gone : IsGoneBeside shown (nodes_in cells rows) u g) (o : AreRows cells rows shown) where
  given : g < length rows
  given = omega (arith, gone.given, o.within)

  not-gone : (w : ℕ) → IsKept shown (nodes_in cells rows) w → w ≢ g
  not-gone w kept e =
      absurd (true≢false (sym (kept (omega (arith, e, gone.given))) ∙ ap (λ n. is_some (number_at (labels_of shown (nodes_in cells rows)) n)) e ∙ ap is_some gone.gone))

  places-apart : list_place side u ≢ list_place side g
  places-apart = other-place side side u g (λ e. gone.other (sym e))

  first-list : list_at rows (list_place side u) ≡ s
  first-list = list-is side rows u a below is_a ∙ sym is_s

  second-list : list_at rows (list_place side g) ≡ m
  second-list = list-is side rows g b given is_b ∙ sym is_m

  pub list-fits : LiesWithin (length cells) s
  list-fits = subst (LiesWithin (length cells)) first-list (within-at cells rows o.held (list_place side u))

  pub vacant-fits : LiesWithin (length cells) m
  vacant-fits = subst (LiesWithin (length cells)) second-list (within-at cells rows o.held (list_place side g))

  pub lists-apart : IsApart s m
  lists-apart = subst (λ l. IsApart l m) first-list (subst (IsApart (list_at rows (list_place side u))) second-list (apart-at cells rows o.held (list_place side u) (list_place side g) places-apart))

  -- the rows as they are written, of u and of g
  module _ (more : List ℕ) (t q : Segment) (x y new_x new_y : Row) (is_x : x ≡ get_or rows u x) (is_y : y ≡ get_or (set rows u new_x) g y)
      (set_x : new_x ≡ with_list side x t) (set_y : new_y ≡ with_list side y q) (e : Exchanges cells more s m t q) where
    abbrev new_rows : List Row
    new_rows = set (set rows u new_x) g new_y

    lists-are : segments_of new_rows ≡ set (set (segments_of rows) (list_place side u) t) (list_place side g) q
    lists-are = set-list side (set rows u new_x) g y new_y q is_y set_y ∙ ap (λ l. set l (list_place side g) q) (set-list side rows u x new_x t is_x set_x)

    lists-exchange : Exchanges cells more (list_at rows (list_place side u)) (list_at rows (list_place side g)) t q
    lists-exchange = subst (λ l. Exchanges cells more l (list_at rows (list_place side g)) t q) (sym first-list) (subst (λ l. Exchanges cells more s l t q) (sym second-list) e)

    labels-are : row_labels new_rows ≡ row_labels rows
    labels-are = set-list-label side (set rows u new_x) g y new_y q is_y set_y ∙ set-list-label side rows u x new_x t is_x set_x

    size-is : length new_rows ≡ length rows
    size-is = length-set (set rows u new_x) g new_y ∙ length-set rows u new_x

    pub held-lists : AreRows more new_rows shown
    held-lists = rows-written cells more rows new_rows shown o size-is labels-are
        (held-exchanged cells more rows new_rows (list_place side u) (list_place side g) t q places-apart (place-below side rows u below) (place-below side rows g given) lists-are lists-exchange o.held)

    pub same-lists : SameNodes shown (nodes_in cells rows) (nodes_in more new_rows)
    same-lists =
        same-exchanged cells more rows new_rows (list_place side u) (list_place side g) t q places-apart (place-below side rows u below) (place-below side rows g given) lists-are lists-exchange o.held
        shown size-is labels-are
        (λ w live. (other-place side Children w g (not-gone w live), other-place side Parents w g (not-gone w live)))

pub no-number : (o : Option ℕ) → is_some o ≡ false → o ≡ None
no-number None e = refl
no-number (Some n) e = absurd (true≢false e)

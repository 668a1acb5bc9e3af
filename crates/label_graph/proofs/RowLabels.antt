-- Rows of which one gets another label.
use Rattle.std.proofs.Common.{◌≡◌, ◌≢◌, ℕ, zero, suc, ◌+◌, ◌-◌, ◌<◌, ◌≤◌, List, [], ◌∷◌, ◌++◌, Option, None, length, take, drop, map, refl, sym, ap, ◌∙◌, subst, arith, get_or, set, length-set, length-append, nat_lt}
use Rattle.std.specs.Prelude.{if◌then◌else◌}
use Rattle.std.proofs.lemmas.List.{map-set, map-append, length-map}
use Rattle.cell_lists.specs.declared.segment.Segment.{Segment}
use Rattle.label_graph.specs.declared.node.Row.{Row}
use Rattle.label_graph.specs.Nodes.{Node, labels_of, number_at, children_of, parents_of, child_reserved, parent_reserved, KeepsReserved, SameNodes}
use Rattle.cell_lists.specs.Segments.{items_in}
use Rattle.label_graph.specs.NodeRows.{AreRows, row_labels, node_in, nodes_in}
use Rattle.label_graph.proofs.RowLemmas.{held-label, held-push, labels-by, IsNowhere}
use Rattle.label_graph.proofs.GetNodes.{children-push, parents-push}

-- one of the first is set
pub take-set : {X : Type 0} (xs : List X) (k n : ℕ) (y : X) → take k (set xs n y) ≡ set (take k xs) n y
take-set [] zero n y = refl
take-set [] (suc k) n y = refl
take-set (x ∷ xs) zero zero y = refl
take-set (x ∷ xs) zero (suc n) y = refl
take-set (x ∷ xs) (suc k) zero y = refl
take-set (x ∷ xs) (suc k) (suc n) y = ap (λ l. x ∷ l) (take-set xs k n y)

-- the next one is set
take-next : {X : Type 0} (xs : List X) (k : ℕ) (y : X) → k < length xs → take (suc k) (set xs k y) ≡ take k xs ++ y ∷ []
take-next [] k y h = absurd (omega arith)
take-next (x ∷ xs) zero y h = refl
take-next (x ∷ xs) (suc k) y h = ap (λ l. x ∷ l) (take-next xs k y (omega arith))

number-other : (ls : List (Option ℕ)) (i n : ℕ) (y : Option ℕ) → n ≢ i → number_at (set ls i y) n ≡ number_at ls n
number-other [] i n y h = refl
number-other (x ∷ xs) zero zero y h = absurd (h refl)
number-other (x ∷ xs) zero (suc n) y h = refl
number-other (x ∷ xs) (suc i) zero y h = refl
number-other (x ∷ xs) (suc i) (suc n) y h = number-other xs i n y (λ e. h (ap suc e))

module _ (cells : List ℕ) where
  children-label : (rows : List Row) (n : ℕ) (r : Row) (l : Option ℕ) → r ≡ get_or rows n r → (w : ℕ) → children_of (nodes_in cells (set rows n (record r { label = l }))) w ≡ children_of (nodes_in cells rows) w
  children-label [] n r l is w = refl
  children-label (y ∷ ys) zero r l is zero = ap (λ x. items_in cells x.children) is
  children-label (y ∷ ys) zero r l is (suc w) = refl
  children-label (y ∷ ys) (suc n) r l is zero = refl
  children-label (y ∷ ys) (suc n) r l is (suc w) = children-label ys n r l is w

  parents-label : (rows : List Row) (n : ℕ) (r : Row) (l : Option ℕ) → r ≡ get_or rows n r → (w : ℕ) → parents_of (nodes_in cells (set rows n (record r { label = l }))) w ≡ parents_of (nodes_in cells rows) w
  parents-label [] n r l is w = refl
  parents-label (y ∷ ys) zero r l is zero = ap (λ x. items_in cells x.parents) is
  parents-label (y ∷ ys) zero r l is (suc w) = refl
  parents-label (y ∷ ys) (suc n) r l is zero = refl
  parents-label (y ∷ ys) (suc n) r l is (suc w) = parents-label ys n r l is w

  child_reserved-label : (rows : List Row) (n : ℕ) (r : Row) (l : Option ℕ) → r ≡ get_or rows n r → (w : ℕ) → child_reserved (nodes_in cells (set rows n (record r { label = l }))) w ≡ child_reserved (nodes_in cells rows) w
  child_reserved-label [] n r l is w = refl
  child_reserved-label (y ∷ ys) zero r l is zero = ap (λ x. x.children.reserved - length (items_in cells x.children)) is
  child_reserved-label (y ∷ ys) zero r l is (suc w) = refl
  child_reserved-label (y ∷ ys) (suc n) r l is zero = refl
  child_reserved-label (y ∷ ys) (suc n) r l is (suc w) = child_reserved-label ys n r l is w

  parent_reserved-label : (rows : List Row) (n : ℕ) (r : Row) (l : Option ℕ) → r ≡ get_or rows n r → (w : ℕ) → parent_reserved (nodes_in cells (set rows n (record r { label = l }))) w ≡ parent_reserved (nodes_in cells rows) w
  parent_reserved-label [] n r l is w = refl
  parent_reserved-label (y ∷ ys) zero r l is zero = ap (λ x. x.parents.reserved - length (items_in cells x.parents)) is
  parent_reserved-label (y ∷ ys) zero r l is (suc w) = refl
  parent_reserved-label (y ∷ ys) (suc n) r l is zero = refl
  parent_reserved-label (y ∷ ys) (suc n) r l is (suc w) = parent_reserved-label ys n r l is w

  module _ (rows : List Row) (n : ℕ) (r : Row) (l : Option ℕ) (below : n < length rows) (is : r ≡ get_or rows n r) where
    abbrev written : List Row
    written = set rows n (record r { label = l })

    size : length written ≡ length rows
    size = length-set rows n (record r { label = l })

    row-labels : row_labels written ≡ set (row_labels rows) n l
    row-labels = map-set (λ x. x.label) rows n (record r { label = l })

    node-labels : map (λ x. x.label) (nodes_in cells written) ≡ set (map (λ x. x.label) (nodes_in cells rows)) n l
    node-labels = labels-by cells written ∙ row-labels ∙ ap (λ k. set k n l) (sym (labels-by cells rows))

    pub children-as : (w : ℕ) → children_of (nodes_in cells written) w ≡ children_of (nodes_in cells rows) w
    children-as = children-label rows n r l is

    pub parents-as : (w : ℕ) → parents_of (nodes_in cells written) w ≡ parents_of (nodes_in cells rows) w
    parents-as = parents-label rows n r l is

    pub reserved-as : KeepsReserved (nodes_in cells rows) (nodes_in cells written)
    reserved-as = record {
      size = omega (arith, size, length-map rows (node_in cells), length-map written (node_in cells));
      child = λ w. omega (arith, child_reserved-label rows n r l is w);
      parent = λ w. omega (arith, parent_reserved-label rows n r l is w);
    }

    module _ (shown : ℕ) (a : AreRows cells rows shown) where
      -- a node that is shown gets a label, or none
      pub rows-as : n < shown → AreRows cells written shown
      rows-as h = record {
        held = held-label cells rows n r l below is a.held;
        within = omega (arith, a.within, size);
        spare = λ m k. ap (λ x. number_at x m) row-labels ∙ number-other (row_labels rows) n m l (λ e. absurd (omega (arith, e, h, k))) ∙ a.spare m k;
      }

      pub labels-as : labels_of shown (nodes_in cells written) ≡ set (labels_of shown (nodes_in cells rows)) n l
      labels-as = ap (take shown) node-labels ∙ take-set (map (λ x. x.label) (nodes_in cells rows)) shown n l

      -- the first node that isn't shown gets a label, and is shown
      pub rows-next : n ≡ shown → AreRows cells written (shown + 1)
      rows-next e = record {
        held = held-label cells rows n r l below is a.held;
        within = omega (arith, e, below, size);
        spare = λ m k. ap (λ x. number_at x m) row-labels ∙ number-other (row_labels rows) n m l (λ f. absurd (omega (arith, e, f, k))) ∙ a.spare m (omega (arith, k));
      }

      pub labels-next : n ≡ shown → labels_of (shown + 1) (nodes_in cells written) ≡ labels_of shown (nodes_in cells rows) ++ l ∷ []
      labels-next e =
          let more : shown + 1 ≡ suc n = omega (arith, e) in
          ap (λ k. take k (map (λ x. x.label) (nodes_in cells written))) more
          ∙ ap (take (suc n)) node-labels
          ∙ take-next (map (λ x. x.label) (nodes_in cells rows)) n l (omega (arith, below, length-map (nodes_in cells rows) (λ x. x.label), length-map rows (node_in cells)))
          ∙ ap (λ k. take k (map (λ x. x.label) (nodes_in cells rows)) ++ l ∷ []) e

number-none : (ls : List (Option ℕ)) (n : ℕ) → number_at ls n ≡ None → number_at (ls ++ None ∷ []) n ≡ None
number-none [] zero h = refl
number-none [] (suc n) h = refl
number-none (x ∷ xs) zero h = h
number-none (x ∷ xs) (suc n) h = number-none xs n h

take-front : {X : Type 0} (xs : List X) (n : ℕ) (x : X) → n ≤ length xs → take n (xs ++ x ∷ []) ≡ take n xs
take-front xs zero x h = refl
take-front [] (suc n) x h = absurd (omega arith)
take-front (y ∷ ys) (suc n) x h = ap (λ l. y ∷ l) (take-front ys n x (omega arith))

child-front : (nodes : List Node) (x : Node) (w : ℕ) → child_reserved nodes w ≤ child_reserved (nodes ++ x ∷ []) w
child-front [] x w = omega arith
child-front (y ∷ ys) x zero = omega arith
child-front (y ∷ ys) x (suc w) = child-front ys x w

parent-front : (nodes : List Node) (x : Node) (w : ℕ) → parent_reserved nodes w ≤ parent_reserved (nodes ++ x ∷ []) w
parent-front [] x w = omega arith
parent-front (y ∷ ys) x zero = omega arith
parent-front (y ∷ ys) x (suc w) = parent-front ys x w

-- one more row that isn't shown
module _ (cells : List ℕ) (rows : List Row) (r : Row) (children : IsNowhere r.children) (parents : IsNowhere r.parents) (none : r.label ≡ None) (shown : ℕ) (a : AreRows cells rows shown) where
  pub rows-pushed : AreRows cells (rows ++ r ∷ []) shown
  rows-pushed = record {
    held = held-push cells rows r children parents a.held;
    within = omega (arith, a.within, length-append rows (r ∷ []));
    spare = λ n h.
        ap (λ l. number_at l n) (map-append (λ x. x.label) rows (r ∷ []) ∙ ap (λ l. row_labels rows ++ l ∷ []) none)
        ∙ number-none (row_labels rows) n (a.spare n h);
  }

  pub nodes-pushed : nodes_in cells (rows ++ r ∷ []) ≡ nodes_in cells rows ++ node_in cells r ∷ []
  nodes-pushed = map-append (node_in cells) rows (r ∷ [])

  no-items : (s : Segment) → IsNowhere s → items_in cells s ≡ []
  no-items s n =
      ap (λ b. if b then take s.len (s.first ∷ []) else take s.len (drop s.first cells)) (ap (λ k. nat_lt k 2) n.reserved)
      ∙ ap (λ k. take k (s.first ∷ [])) n.len

  pub same-pushed : SameNodes shown (nodes_in cells rows) (nodes_in cells (rows ++ r ∷ []))
  same-pushed =
      subst (SameNodes shown (nodes_in cells rows)) (sym nodes-pushed) (record {
        size = omega (arith, length-append (nodes_in cells rows) (node_in cells r ∷ []));
        labels =
            ap (take shown) (map-append (λ x. x.label) (nodes_in cells rows) (node_in cells r ∷ []))
            ∙ take-front (map (λ x. x.label) (nodes_in cells rows)) shown r.label
            (omega (arith, a.within, length-map rows (node_in cells), length-map (nodes_in cells rows) (λ x. x.label)));
        children = children-push (nodes_in cells rows) (node_in cells r) (no-items r.children children);
        parents = parents-push (nodes_in cells rows) (node_in cells r) (no-items r.parents parents);
        child_reserves = λ w k. child-front (nodes_in cells rows) (node_in cells r) w;
        parent_reserves = λ w k. parent-front (nodes_in cells rows) (node_in cells r) w;
      })

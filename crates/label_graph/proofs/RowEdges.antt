-- Rows that get capacity for an edge, one edge more, or one less: a list of children is written, and then one of parents.
use Rattle.std.proofs.Common.{◌≡◌, ℕ, ◌<◌, ◌≤◌, ◌+◌, ◌-◌, List, [], ◌∷◌, ◌++◌, length, refl, sym, ap, ◌∙◌, subst, arith, get_or, set, length-set, nat_eq, take}
use Rattle.std.specs.Prelude.{if◌then◌else◌}
use Rattle.std.specs.List.{IsDistinct}
use Rattle.std.proofs.lemmas.List.{length-map}
use Rattle.cell_lists.specs.declared.segment.Segment.{Segment}
use Rattle.label_graph.specs.declared.node.Row.{Row}
use Rattle.label_graph.specs.Nodes.{Node, labels_of, children_of, parents_of, SameNodes, HasReserved, KeepsReserved, UsesReserved, LacksEdge}
use Rattle.cell_lists.specs.Segments.{items_in, LiesWithin, Writes, IsWithout}
use Rattle.label_graph.specs.NodeRows.{AreHeld, AreRows, row_labels, list_in, node_in, nodes_in}
use Rattle.label_graph.proofs.SetNodes.{edge-children, edge-parents}
use Rattle.label_graph.proofs.NodeReserves.{IsNoLess, keeps-both, uses-both, same-set, same-both, reserved-both, child-fits, parent-fits, labels-both}
use Rattle.label_graph.proofs.Removals.{children-once, parents-once, lacks-edge}
use Rattle.cell_lists.proofs.SegmentLemmas.{items-length}
use Rattle.label_graph.proofs.RowLemmas.{child-within, parent-within, row-seen, below-seen, child-seen, held-child, parent-seen, held-parent, set-label, rows-written}

-- the row of the children
module _ (cells : List ℕ) (rows : List Row) (u : ℕ) (a : Row) (from : u < length rows) (is_a : a ≡ get_or rows u a) {shown : ℕ} (k : AreRows cells rows shown) where
  h : AreHeld cells rows
  h = k.held

  below_a : u < length (nodes_in cells rows)
  below_a = below-seen cells rows u a from is_a

  node_a : node_in cells a ≡ get_or (nodes_in cells rows) u (node_in cells a)
  node_a = row-seen cells rows u a from is_a

  pub child-reserved : (v n m : ℕ) → HasReserved (nodes_in cells rows) u v n m → n ≤ a.children.reserved - a.children.len
  child-reserved v n m r = omega (arith, child-fits (nodes_in cells rows) u v n m (node_in cells a) below_a node_a r, items-length cells a.children (child-within cells rows u a from is_a h))

  pub child-distinct : IsDistinct nat_eq (children_of (nodes_in cells rows) u) → IsDistinct nat_eq (items_in cells a.children)
  child-distinct = children-once (nodes_in cells rows) u (node_in cells a) below_a node_a

  module _ (one : List ℕ) (s : Segment) (w : Writes cells one a.children s) where
    abbrev pub once : List Row
    once = set rows u (record a { children = s })

    abbrev pub first : Node
    first = record { label = a.label; children = list_in one s; parents = list_in cells a.parents }

    labels_once : row_labels once ≡ row_labels rows
    labels_once = set-label rows u a (record a { children = s }) is_a refl

    pub held-once : AreRows one once shown
    held-once = rows-written cells one rows once shown k (length-set rows u (record a { children = s })) labels_once (held-child cells one rows u a s from is_a h w)

    seen_once : nodes_in one once ≡ set (nodes_in cells rows) u first
    seen_once = child-seen cells one rows u a s from is_a h w

    -- the list has the same numbers, and no less reserved
    pub same-first : items_in one s ≡ items_in cells a.children → a.children.reserved ≤ s.reserved → SameNodes shown (nodes_in cells rows) (nodes_in one once)
    same-first e more =
        subst (SameNodes shown (nodes_in cells rows)) (sym seen_once)
        (same-set (nodes_in cells rows) u (node_in cells a) first below_a node_a (record { label = refl; children = e; parents = refl; child_reserved = more; parent_reserved = omega arith }) shown)

    -- the row of the parents
    module _ (v : ℕ) (b : Row) (onto : v < length rows) (is_b : b ≡ get_or once v b) where
      within_b : v < length once
      within_b = omega (arith, length-set rows u (record a { children = s }))

      below_b : v < length (nodes_in cells rows)
      below_b = omega (arith, onto, length-map rows (node_in cells))

      node_b : node_in one b ≡ get_or (set (nodes_in cells rows) u first) v (node_in one b)
      node_b = row-seen one once v b within_b is_b ∙ ap (λ l. get_or l v (node_in one b)) seen_once

      pub second-within : LiesWithin (length one) b.parents
      second-within = parent-within one once v b within_b is_b held-once.held

      pub parent-reserved : (n m : ℕ) → HasReserved (nodes_in cells rows) u v n m → m ≤ b.parents.reserved - b.parents.len
      parent-reserved n m r = omega (
        arith,
        parent-fits (nodes_in cells rows) u v first first (node_in cells a) (node_in one b) below_a below_b node_a node_b n m r refl,
        items-length one b.parents second-within,
      )

      pub parent-distinct : IsDistinct nat_eq (parents_of (nodes_in cells rows) v) → IsDistinct nat_eq (items_in one b.parents)
      parent-distinct = parents-once (nodes_in cells rows) u v first first (node_in cells a) (node_in one b) below_a below_b node_a node_b refl

      module _ (two : List ℕ) (t : Segment) (x : Writes one two b.parents t) where
        abbrev pub twice : List Row
        twice = set once v (record b { parents = t })

        abbrev second : Node
        second = record { label = b.label; children = list_in one b.children; parents = list_in two t }

        pub held-twice : AreRows two twice shown
        held-twice = rows-written one two once twice shown held-once (length-set once v (record b { parents = t })) (set-label once v b (record b { parents = t }) is_b refl)
            (held-parent one two once v b t within_b is_b held-once.held x)

        seen_twice : nodes_in two twice ≡ set (set (nodes_in cells rows) u first) v second
        seen_twice = parent-seen one two once v b t within_b is_b held-once.held x ∙ ap (λ l. set l v second) seen_once

        labels_kept : labels_of shown (set (set (nodes_in cells rows) u first) v second) ≡ labels_of shown (nodes_in cells rows)
        labels_kept = ap (take shown) (labels-both (nodes_in cells rows) u v first second (node_in cells a) (node_in one b) below_a below_b node_a node_b refl refl)

        pub labels-same : labels_of shown (nodes_in two twice) ≡ labels_of shown (nodes_in cells rows)
        labels-same = ap (labels_of shown) seen_twice ∙ labels_kept

        -- both lists have the same numbers, and no less reserved
        module _ (e : items_in one s ≡ items_in cells a.children) (more : a.children.reserved ≤ s.reserved) (f : items_in two t ≡ items_in one b.parents) (most : b.parents.reserved ≤ t.reserved) where
          keeps_a : IsNoLess (node_in cells a) first
          keeps_a = record { label = refl; children = e; parents = refl; child_reserved = more; parent_reserved = omega arith }

          keeps_b : IsNoLess (node_in one b) second
          keeps_b = record { label = refl; children = refl; parents = f; child_reserved = omega arith; parent_reserved = most }

          pub same-second : SameNodes shown (nodes_in cells rows) (nodes_in two twice)
          same-second =
              subst (SameNodes shown (nodes_in cells rows)) (sym seen_twice)
              (same-both (nodes_in cells rows) u v first second (node_in cells a) (node_in one b) below_a below_b node_a node_b shown keeps_a keeps_b)

          pub edge-reserved : (n m : ℕ) → n ≤ s.reserved - s.len → m ≤ t.reserved - t.len → HasReserved (nodes_in two twice) u v n m
          edge-reserved n m c p =
              subst (λ l. HasReserved l u v n m) (sym seen_twice)
              (reserved-both (nodes_in cells rows) u v first second (node_in cells a) (node_in one b) below_a below_b node_a node_b n m keeps_b
              (omega (arith, c, items-length one s w.within)) (omega (arith, p, items-length two t x.within)))

        -- each list has one number more
        module _ (e : items_in one s ≡ items_in cells a.children ++ v ∷ []) (f : items_in two t ≡ items_in one b.parents ++ u ∷ []) (n : ℕ) where
          pub children-pushed : children_of (nodes_in two twice) n ≡ children_of (nodes_in cells rows) n ++ (if nat_eq n u then v ∷ [] else [])
          children-pushed =
              ap (λ l. children_of l n) seen_twice
              ∙ edge-children (nodes_in cells rows) u v first second (node_in cells a) (node_in one b) below_a below_b node_a node_b e refl refl f refl refl n

          pub parents-pushed : parents_of (nodes_in two twice) n ≡ parents_of (nodes_in cells rows) n ++ (if nat_eq n v then u ∷ [] else [])
          parents-pushed =
              ap (λ l. parents_of l n) seen_twice
              ∙ edge-parents (nodes_in cells rows) u v first second (node_in cells a) (node_in one b) below_a below_b node_a node_b e refl refl f refl refl n

        -- each list is without the other's number
        pub edge-lacking : IsWithout (items_in cells a.children) (items_in one s) v → IsWithout (items_in one b.parents) (items_in two t) u → LacksEdge shown (nodes_in cells rows) (nodes_in two twice) u v
        edge-lacking e f =
            subst (λ l. LacksEdge shown (nodes_in cells rows) l u v) (sym seen_twice)
            (lacks-edge (nodes_in cells rows) u v first second (node_in cells a) (node_in one b) below_a below_b node_a node_b refl refl shown refl refl e f)

        -- the lists lie where they lay
        pub reserved-kept : s.reserved ≡ a.children.reserved → s.len ≤ a.children.len → t.reserved ≡ b.parents.reserved → t.len ≤ b.parents.len → KeepsReserved (nodes_in cells rows) (nodes_in two twice)
        reserved-kept c d e f =
            subst (KeepsReserved (nodes_in cells rows)) (sym seen_twice)
            (keeps-both (nodes_in cells rows) u v first second (node_in cells a) (node_in one b) below_a below_b node_a node_b refl refl
            (omega (arith, c, d, items-length one s w.within, items-length cells a.children (child-within cells rows u a from is_a h)))
            (omega (arith, e, f, items-length two t x.within, items-length one b.parents second-within)))

        pub reserved-used : s.reserved ≡ a.children.reserved → s.len ≡ a.children.len + 1 → t.reserved ≡ b.parents.reserved → t.len ≡ b.parents.len + 1 → UsesReserved (nodes_in cells rows) (nodes_in two twice) u v
        reserved-used c d e f =
            subst (λ l. UsesReserved (nodes_in cells rows) l u v) (sym seen_twice)
            (uses-both (nodes_in cells rows) u v first second (node_in cells a) (node_in one b) below_a below_b node_a node_b refl refl
            (omega (arith, c, d, items-length one s w.within, items-length cells a.children (child-within cells rows u a from is_a h)))
            (omega (arith, e, f, items-length two t x.within, items-length one b.parents second-within)))

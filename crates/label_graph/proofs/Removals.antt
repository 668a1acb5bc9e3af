-- Nodes from which an edge is taken, and then what the graph lacks.
use Rattle.std.proofs.Common.{◌≡◌, ℕ, ◌<◌, List, length, sym, ap, ◌∙◌, subst, arith, get_or, set, length-set, nat_eq, take}
use Rattle.std.specs.List.{IsDistinct}
use Rattle.label_graph.specs.Nodes.{Node, children_of, parents_of, LacksEdge}
use Rattle.cell_lists.specs.Segments.{IsWithout}
use Rattle.label_graph.proofs.SetNodes.{children-at, parents-at, children-set_same, parents-set_same, children-set_other, parents-set_other, children-set_kept, parents-set_kept}
use Rattle.label_graph.proofs.NodeReserves.{labels-both}

without-by : (old new old2 new2 : List ℕ) (n : ℕ) → old2 ≡ old → new2 ≡ new → IsWithout old new n → IsWithout old2 new2 n
without-by old new old2 new2 n o w s = subst (λ l. IsWithout l new2 n) (sym o) (subst (λ l. IsWithout old l n) (sym w) s)

children-first : (nodes : List Node) (u : ℕ) (a : Node) → u < length nodes → a ≡ get_or nodes u a → children_of nodes u ≡ a.children.items
children-first nodes u a from is_a = children-at nodes u a from ∙ ap (λ n. n.children.items) (sym is_a)

pub children-once : (nodes : List Node) (u : ℕ) (a : Node) → u < length nodes → a ≡ get_or nodes u a → IsDistinct nat_eq (children_of nodes u) → IsDistinct nat_eq a.children.items
children-once nodes u a from is_a d = subst (IsDistinct nat_eq) (children-first nodes u a from is_a) d

-- the two writes that take an edge, in the order in which they are made
module _ (nodes : List Node) (u v : ℕ) (first second a b : Node) (from : u < length nodes) (to : v < length nodes)
    (is_a : a ≡ get_or nodes u a) (is_b : b ≡ get_or (set nodes u first) v b) where
  within : v < length (set nodes u first)
  within = omega (arith, length-set nodes u first)

  module _ (parents_kept : first.parents.items ≡ a.parents.items) where
    kept : (w : ℕ) → parents_of (set nodes u first) w ≡ parents_of nodes w
    kept = parents-set_kept nodes u first from (parents_kept ∙ ap (λ n. n.parents.items) is_a ∙ sym (parents-at nodes u a from))

    parents-second : parents_of nodes v ≡ b.parents.items
    parents-second = sym (kept v) ∙ parents-at (set nodes u first) v b within ∙ ap (λ n. n.parents.items) (sym is_b)

    pub parents-once : IsDistinct nat_eq (parents_of nodes v) → IsDistinct nat_eq b.parents.items
    parents-once d = subst (IsDistinct nat_eq) parents-second d

    module _ (children_kept : second.children.items ≡ b.children.items) where
      children-both : (w : ℕ) → children_of (set (set nodes u first) v second) w ≡ children_of (set nodes u first) w
      children-both = children-set_kept (set nodes u first) v second within (children_kept ∙ ap (λ n. n.children.items) is_b ∙ sym (children-at (set nodes u first) v b within))

      pub lacks-edge : (shown : ℕ) → first.label ≡ a.label → second.label ≡ b.label → IsWithout a.children.items first.children.items v → IsWithout b.parents.items second.parents.items u
          → LacksEdge shown nodes (set (set nodes u first) v second) u v
      lacks-edge shown label_kept label_kept_too child parent = record {
        labels = ap (take shown) (labels-both nodes u v first second a b from to is_a is_b label_kept label_kept_too);
        child = without-by a.children.items first.children.items _ _ v (children-first nodes u a from is_a) (children-both u ∙ children-set_same nodes u first from) child;
        other_children = λ w h. children-both w ∙ children-set_other nodes u first w h;
        parent = without-by b.parents.items second.parents.items _ _ u parents-second (parents-set_same (set nodes u first) v second within) parent;
        other_parents = λ w h. parents-set_other (set nodes u first) v second w h ∙ kept w;
      }

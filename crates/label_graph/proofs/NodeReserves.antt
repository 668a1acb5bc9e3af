-- The reserved capacity of nodes of which one is written anew.
use Rattle.std.proofs.Common.{◌≡◌, ◌≢◌, ℕ, zero, suc, ◌+◌, ◌-◌, ◌<◌, ◌≤◌, true, false, nat_eq, List, [], ◌∷◌, length, map, refl, sym, ap, ◌∙◌, arith, get_or, set, length-set, subst}
use Rattle.std.proofs.lemmas.Bool.{eqb-true, eqb-false}
use Rattle.std.specs.Prelude.{IsSome, take, if◌then◌else◌}
use Rattle.label_graph.specs.Nodes.{Node, child_reserved, parent_reserved, number_at, IsLive, SameNodes, HasReserved, KeepsReserved, UsesReserved}
use Rattle.label_graph.proofs.SetNodes.{children-at, parents-at, children-set_kept, parents-set_kept, labels-set}

pub child_reserved-at : (nodes : List Node) (i : ℕ) (d : Node) → i < length nodes → child_reserved nodes i ≡ (get_or nodes i d).children.capacity - length (get_or nodes i d).children.items
child_reserved-at [] i d h = absurd (omega arith)
child_reserved-at (x ∷ xs) zero d h = refl
child_reserved-at (x ∷ xs) (suc i) d h = child_reserved-at xs i d (omega arith)

pub parent_reserved-at : (nodes : List Node) (i : ℕ) (d : Node) → i < length nodes → parent_reserved nodes i ≡ (get_or nodes i d).parents.capacity - length (get_or nodes i d).parents.items
parent_reserved-at [] i d h = absurd (omega arith)
parent_reserved-at (x ∷ xs) zero d h = refl
parent_reserved-at (x ∷ xs) (suc i) d h = parent_reserved-at xs i d (omega arith)

pub child_reserved-set_same : (nodes : List Node) (i : ℕ) (x : Node) → i < length nodes → child_reserved (set nodes i x) i ≡ x.children.capacity - length x.children.items
child_reserved-set_same [] i x h = absurd (omega arith)
child_reserved-set_same (y ∷ ys) zero x h = refl
child_reserved-set_same (y ∷ ys) (suc i) x h = child_reserved-set_same ys i x (omega arith)

pub parent_reserved-set_same : (nodes : List Node) (i : ℕ) (x : Node) → i < length nodes → parent_reserved (set nodes i x) i ≡ x.parents.capacity - length x.parents.items
parent_reserved-set_same [] i x h = absurd (omega arith)
parent_reserved-set_same (y ∷ ys) zero x h = refl
parent_reserved-set_same (y ∷ ys) (suc i) x h = parent_reserved-set_same ys i x (omega arith)

pub child_reserved-set : (nodes : List Node) (i : ℕ) (x : Node) → child_reserved nodes i ≤ x.children.capacity - length x.children.items → (w : ℕ) → child_reserved nodes w ≤ child_reserved (set nodes i x) w
child_reserved-set [] i x h w = omega arith
child_reserved-set (y ∷ ys) zero x h zero = h
child_reserved-set (y ∷ ys) zero x h (suc w) = omega arith
child_reserved-set (y ∷ ys) (suc i) x h zero = omega arith
child_reserved-set (y ∷ ys) (suc i) x h (suc w) = child_reserved-set ys i x h w

pub parent_reserved-set : (nodes : List Node) (i : ℕ) (x : Node) → parent_reserved nodes i ≤ x.parents.capacity - length x.parents.items → (w : ℕ) → parent_reserved nodes w ≤ parent_reserved (set nodes i x) w
parent_reserved-set [] i x h w = omega arith
parent_reserved-set (y ∷ ys) zero x h zero = h
parent_reserved-set (y ∷ ys) zero x h (suc w) = omega arith
parent_reserved-set (y ∷ ys) (suc i) x h zero = omega arith
parent_reserved-set (y ∷ ys) (suc i) x h (suc w) = parent_reserved-set ys i x h w

child_reserved-set_other : (nodes : List Node) (i : ℕ) (x : Node) (w : ℕ) → w ≢ i → child_reserved (set nodes i x) w ≡ child_reserved nodes w
child_reserved-set_other [] i x w h = refl
child_reserved-set_other (y ∷ ys) zero x zero h = absurd (h refl)
child_reserved-set_other (y ∷ ys) zero x (suc w) h = refl
child_reserved-set_other (y ∷ ys) (suc i) x zero h = refl
child_reserved-set_other (y ∷ ys) (suc i) x (suc w) h = child_reserved-set_other ys i x w (λ e. h (ap suc e))

parent_reserved-set_other : (nodes : List Node) (i : ℕ) (x : Node) (w : ℕ) → w ≢ i → parent_reserved (set nodes i x) w ≡ parent_reserved nodes w
parent_reserved-set_other [] i x w h = refl
parent_reserved-set_other (y ∷ ys) zero x zero h = absurd (h refl)
parent_reserved-set_other (y ∷ ys) zero x (suc w) h = refl
parent_reserved-set_other (y ∷ ys) (suc i) x zero h = refl
parent_reserved-set_other (y ∷ ys) (suc i) x (suc w) h = parent_reserved-set_other ys i x w (λ e. h (ap suc e))

-- one less is reserved of the node that is written
child_reserved-less : (nodes : List Node) (i : ℕ) (x : Node) → i < length nodes → child_reserved nodes i ≤ x.children.capacity - length x.children.items + 1
    → (w : ℕ) → child_reserved nodes w ≤ child_reserved (set nodes i x) w + (if nat_eq w i then 1 else 0)
child_reserved-less nodes i x h m w =
    elim (nat_eq w i) as (λ b. nat_eq w i ≡ b → child_reserved nodes w ≤ child_reserved (set nodes i x) w + (if b then 1 else 0)) [
      | true ↦ λ q. let s = eqb-true w i q in
          omega (arith, m, child_reserved-set_same nodes i x h, ap (child_reserved nodes) s, ap (child_reserved (set nodes i x)) s)
      | false ↦ λ q. omega (arith, child_reserved-set_other nodes i x w (eqb-false w i q))
    ] refl

parent_reserved-less : (nodes : List Node) (i : ℕ) (x : Node) → i < length nodes → parent_reserved nodes i ≤ x.parents.capacity - length x.parents.items + 1
    → (w : ℕ) → parent_reserved nodes w ≤ parent_reserved (set nodes i x) w + (if nat_eq w i then 1 else 0)
parent_reserved-less nodes i x h m w =
    elim (nat_eq w i) as (λ b. nat_eq w i ≡ b → parent_reserved nodes w ≤ parent_reserved (set nodes i x) w + (if b then 1 else 0)) [
      | true ↦ λ q. let s = eqb-true w i q in
          omega (arith, m, parent_reserved-set_same nodes i x h, ap (parent_reserved nodes) s, ap (parent_reserved (set nodes i x)) s)
      | false ↦ λ q. omega (arith, parent_reserved-set_other nodes i x w (eqb-false w i q))
    ] refl

-- a node that is the same, and has no less reserved
pub record IsNoLess (old new : Node) : Type 0 where
  pub label : new.label ≡ old.label
  pub children : new.children.items ≡ old.children.items
  pub parents : new.parents.items ≡ old.parents.items
  pub child_reserved : old.children.capacity ≤ new.children.capacity
  pub parent_reserved : old.parents.capacity ≤ new.parents.capacity

default : (nodes : List Node) (i : ℕ) (d e : Node) → i < length nodes → get_or nodes i d ≡ get_or nodes i e
default [] i d e h = absurd (omega arith)
default (x ∷ xs) zero d e h = refl
default (x ∷ xs) (suc i) d e h = default xs i d e (omega arith)

-- the node is written anew, as one that it keeps
module _ (nodes : List Node) (i : ℕ) (old new : Node) (below : i < length nodes) (is : old ≡ get_or nodes i old) (k : IsNoLess old new) where
  child-kept : (w : ℕ) → child_reserved nodes w ≤ child_reserved (set nodes i new) w
  child-kept = child_reserved-set nodes i new
      (omega (arith, k.child_reserved, ap length k.children, child_reserved-at nodes i old below, ap (λ n. n.children.capacity - length n.children.items) is))

  parent-kept : (w : ℕ) → parent_reserved nodes w ≤ parent_reserved (set nodes i new) w
  parent-kept = parent_reserved-set nodes i new
      (omega (arith, k.parent_reserved, ap length k.parents, parent_reserved-at nodes i old below, ap (λ n. n.parents.capacity - length n.parents.items) is))

  pub same-set : (shown : ℕ) → SameNodes shown nodes (set nodes i new)
  same-set shown = record {
    size = omega (arith, length-set nodes i new);
    labels = ap (take shown) (labels-set nodes i new (k.label ∙ ap (λ n. n.label) is ∙ ap (λ n. n.label) (default nodes i old new below)));
    children = children-set_kept nodes i new below (k.children ∙ ap (λ n. n.children.items) is ∙ sym (children-at nodes i old below));
    parents = parents-set_kept nodes i new below (k.parents ∙ ap (λ n. n.parents.items) is ∙ sym (parents-at nodes i old below));
    child_reserves = λ w _. child-kept w;
    parent_reserves = λ w _. parent-kept w;
  }

pub same-then : (shown : ℕ) (a b c : List Node) → SameNodes shown a b → SameNodes shown b c → SameNodes shown a c
same-then shown a b c p q =
    let live : (w : ℕ) → IsLive shown a w → IsLive shown b w = λ w l. subst (λ ls. IsSome (number_at ls w)) (sym p.labels) l in
    record {
      size = omega (arith, p.size, q.size);
      labels = q.labels ∙ p.labels;
      children = λ w. q.children w ∙ p.children w;
      parents = λ w. q.parents w ∙ p.parents w;
      child_reserves = λ w l. omega (arith, p.child_reserves w l, q.child_reserves w (λ h. live w (l h)));
      parent_reserves = λ w l. omega (arith, p.parent_reserves w l, q.parent_reserves w (λ h. live w (l h)));
    }

pub child-fits : (nodes : List Node) (u v n m : ℕ) (a : Node) → u < length nodes → a ≡ get_or nodes u a → HasReserved nodes u v n m → n ≤ a.children.capacity - length a.children.items
child-fits nodes u v n m a from is r = omega (arith, r.child, child_reserved-at nodes u a from, ap (λ n. n.children.capacity - length n.children.items) is)

-- the two writes that reserve capacity for an edge, and those that write it, find a node each
module _ (nodes : List Node) (u v : ℕ) (first second a b : Node) (from : u < length nodes) (to : v < length nodes)
    (is_a : a ≡ get_or nodes u a) (is_b : b ≡ get_or (set nodes u first) v b) where
  within : v < length (set nodes u first)
  within = omega (arith, length-set nodes u first)

  pub same-both : (shown : ℕ) → IsNoLess a first → IsNoLess b second → SameNodes shown nodes (set (set nodes u first) v second)
  same-both shown k l = same-then shown _ _ _ (same-set nodes u a first from is_a k shown) (same-set (set nodes u first) v b second within is_b l shown)

  pub reserved-both : (n m : ℕ) → IsNoLess b second → n ≤ first.children.capacity - length first.children.items → m ≤ second.parents.capacity - length second.parents.items
      → HasReserved (set (set nodes u first) v second) u v n m
  reserved-both n m l c p = record {
    child = omega (arith, child-kept (set nodes u first) v b second within is_b l u, child_reserved-set_same nodes u first from, c);
    parent = omega (arith, parent_reserved-set_same (set nodes u first) v second within, p);
  }

  pub parent-fits : (n m : ℕ) → HasReserved nodes u v n m → first.parents ≡ a.parents → m ≤ b.parents.capacity - length b.parents.items
  parent-fits n m r e =
      let p = ap (λ n. n.capacity - length n.items) e in
      omega (
        arith,
        r.parent,
        parent_reserved-at (set nodes u first) v b within,
        ap (λ n. n.parents.capacity - length n.parents.items) is_b,
        parent_reserved-set nodes u first (omega (arith, p, parent_reserved-at nodes u a from, ap (λ n. n.parents.capacity - length n.parents.items) is_a)) v,
      )

  pub labels-both : first.label ≡ a.label → second.label ≡ b.label → map (λ n. n.label) (set (set nodes u first) v second) ≡ map (λ n. n.label) nodes
  labels-both e f =
      labels-set (set nodes u first) v second (f ∙ ap (λ n. n.label) is_b ∙ ap (λ n. n.label) (default (set nodes u first) v b second within))
      ∙ labels-set nodes u first (e ∙ ap (λ n. n.label) is_a ∙ ap (λ n. n.label) (default nodes u a first from))

  -- the children of the second and the parents of the first stay
  module _ (parents_kept : first.parents ≡ a.parents) (children_kept : second.children ≡ b.children) where
    parents-first : (w : ℕ) → parent_reserved nodes w ≤ parent_reserved (set nodes u first) w
    parents-first = parent_reserved-set nodes u first
        (omega (arith, ap (λ n. n.capacity - length n.items) parents_kept, parent_reserved-at nodes u a from, ap (λ n. n.parents.capacity - length n.parents.items) is_a))

    children-second : (w : ℕ) → child_reserved (set nodes u first) w ≤ child_reserved (set (set nodes u first) v second) w
    children-second = child_reserved-set (set nodes u first) v second
        (omega (arith, ap (λ n. n.capacity - length n.items) children_kept, child_reserved-at (set nodes u first) v b within, ap (λ n. n.children.capacity - length n.children.items) is_b))

    sizes : length (set (set nodes u first) v second) ≡ length nodes
    sizes = length-set (set nodes u first) v second ∙ length-set nodes u first

    -- each list keeps its capacity
    pub keeps-both : a.children.capacity - length a.children.items ≤ first.children.capacity - length first.children.items
        → b.parents.capacity - length b.parents.items ≤ second.parents.capacity - length second.parents.items → KeepsReserved nodes (set (set nodes u first) v second)
    keeps-both c p = record {
      size = sizes;
      child = λ w. omega (
        arith,
        children-second w,
        child_reserved-set nodes u first (omega (arith, c, child_reserved-at nodes u a from, ap (λ n. n.children.capacity - length n.children.items) is_a)) w,
      );
      parent = λ w. omega (
        arith,
        parents-first w,
        parent_reserved-set (set nodes u first) v second
            (omega (arith, p, parent_reserved-at (set nodes u first) v b within, ap (λ n. n.parents.capacity - length n.parents.items) is_b)) w,
      );
    }

    -- each list has a number more in the same capacity
    pub uses-both : a.children.capacity - length a.children.items ≤ first.children.capacity - length first.children.items + 1
        → b.parents.capacity - length b.parents.items ≤ second.parents.capacity - length second.parents.items + 1 → UsesReserved nodes (set (set nodes u first) v second) u v
    uses-both c p = record {
      size = sizes;
      child = λ w. omega (
        arith,
        children-second w,
        child_reserved-less nodes u first from (omega (arith, c, child_reserved-at nodes u a from, ap (λ n. n.children.capacity - length n.children.items) is_a)) w,
      );
      parent = λ w. omega (
        arith,
        parents-first w,
        parent_reserved-less (set nodes u first) v second within
            (omega (arith, p, parent_reserved-at (set nodes u first) v b within, ap (λ n. n.parents.capacity - length n.parents.items) is_b)) w,
      );
    }

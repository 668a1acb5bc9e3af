-- Nodes of which one is written anew.
use Rattle.std.proofs.Common.{◌≡◌, ◌≢◌, ℕ, zero, suc, ◌<◌, true, false, List, [], ◌∷◌, ◌++◌, map, length, refl, sym, ap, ◌∙◌, arith, get_or, set, append-nil, nat_eq, length-set}
use Rattle.std.specs.Prelude.{if◌then◌else◌}
use Rattle.std.proofs.lemmas.Bool.{eqb-true, eqb-false}
use Rattle.label_graph.specs.Nodes.{Node, children_of, parents_of}

pub children-at : (nodes : List Node) (i : ℕ) (d : Node) → i < length nodes → children_of nodes i ≡ (get_or nodes i d).children.items
children-at [] i d h = absurd (omega arith)
children-at (x ∷ xs) zero d h = refl
children-at (x ∷ xs) (suc i) d h = children-at xs i d (omega arith)

pub parents-at : (nodes : List Node) (i : ℕ) (d : Node) → i < length nodes → parents_of nodes i ≡ (get_or nodes i d).parents.items
parents-at [] i d h = absurd (omega arith)
parents-at (x ∷ xs) zero d h = refl
parents-at (x ∷ xs) (suc i) d h = parents-at xs i d (omega arith)

pub children-set_same : (nodes : List Node) (i : ℕ) (x : Node) → i < length nodes → children_of (set nodes i x) i ≡ x.children.items
children-set_same [] i x h = absurd (omega arith)
children-set_same (y ∷ ys) zero x h = refl
children-set_same (y ∷ ys) (suc i) x h = children-set_same ys i x (omega arith)

pub children-set_other : (nodes : List Node) (i : ℕ) (x : Node) (w : ℕ) → w ≢ i → children_of (set nodes i x) w ≡ children_of nodes w
children-set_other [] i x w h = refl
children-set_other (y ∷ ys) zero x zero h = absurd (h refl)
children-set_other (y ∷ ys) zero x (suc w) h = refl
children-set_other (y ∷ ys) (suc i) x zero h = refl
children-set_other (y ∷ ys) (suc i) x (suc w) h = children-set_other ys i x w (λ e. h (ap suc e))

pub parents-set_same : (nodes : List Node) (i : ℕ) (x : Node) → i < length nodes → parents_of (set nodes i x) i ≡ x.parents.items
parents-set_same [] i x h = absurd (omega arith)
parents-set_same (y ∷ ys) zero x h = refl
parents-set_same (y ∷ ys) (suc i) x h = parents-set_same ys i x (omega arith)

pub parents-set_other : (nodes : List Node) (i : ℕ) (x : Node) (w : ℕ) → w ≢ i → parents_of (set nodes i x) w ≡ parents_of nodes w
parents-set_other [] i x w h = refl
parents-set_other (y ∷ ys) zero x zero h = absurd (h refl)
parents-set_other (y ∷ ys) zero x (suc w) h = refl
parents-set_other (y ∷ ys) (suc i) x zero h = refl
parents-set_other (y ∷ ys) (suc i) x (suc w) h = parents-set_other ys i x w (λ e. h (ap suc e))

-- a node that keeps its children
pub children-set_kept : (nodes : List Node) (i : ℕ) (x : Node) → i < length nodes → x.children.items ≡ children_of nodes i → (w : ℕ) → children_of (set nodes i x) w ≡ children_of nodes w
children-set_kept [] i x h e w = refl
children-set_kept (y ∷ ys) zero x h e zero = e
children-set_kept (y ∷ ys) zero x h e (suc w) = refl
children-set_kept (y ∷ ys) (suc i) x h e zero = refl
children-set_kept (y ∷ ys) (suc i) x h e (suc w) = children-set_kept ys i x (omega arith) e w

pub parents-set_kept : (nodes : List Node) (i : ℕ) (x : Node) → i < length nodes → x.parents.items ≡ parents_of nodes i → (w : ℕ) → parents_of (set nodes i x) w ≡ parents_of nodes w
parents-set_kept [] i x h e w = refl
parents-set_kept (y ∷ ys) zero x h e zero = e
parents-set_kept (y ∷ ys) zero x h e (suc w) = refl
parents-set_kept (y ∷ ys) (suc i) x h e zero = refl
parents-set_kept (y ∷ ys) (suc i) x h e (suc w) = parents-set_kept ys i x (omega arith) e w

pub labels-set : (nodes : List Node) (i : ℕ) (x : Node) → x.label ≡ (get_or nodes i x).label → map (λ n. n.label) (set nodes i x) ≡ map (λ n. n.label) nodes
labels-set [] i x e = refl
labels-set (y ∷ ys) zero x e = ap (λ l. l ∷ map (λ n. n.label) ys) e
labels-set (y ∷ ys) (suc i) x e = ap (λ r. y.label ∷ r) (labels-set ys i x e)

pub children-set_push : (nodes : List Node) (i : ℕ) (x : Node) (v : ℕ) → i < length nodes → x.children.items ≡ children_of nodes i ++ v ∷ []
    → (w : ℕ) → children_of (set nodes i x) w ≡ children_of nodes w ++ (if nat_eq w i then v ∷ [] else [])
children-set_push nodes i x v h e w =
    elim (nat_eq w i) as (λ b. nat_eq w i ≡ b → children_of (set nodes i x) w ≡ children_of nodes w ++ (if b then v ∷ [] else [])) [
      | true ↦ λ q. let s = eqb-true w i q in
          ap (children_of (set nodes i x)) s ∙ children-set_same nodes i x h ∙ e ∙ ap (λ k. children_of nodes k ++ v ∷ []) (sym s)
      | false ↦ λ q. children-set_other nodes i x w (eqb-false w i q) ∙ sym (append-nil (children_of nodes w))
    ] refl

pub parents-set_push : (nodes : List Node) (i : ℕ) (x : Node) (u : ℕ) → i < length nodes → x.parents.items ≡ parents_of nodes i ++ u ∷ []
    → (w : ℕ) → parents_of (set nodes i x) w ≡ parents_of nodes w ++ (if nat_eq w i then u ∷ [] else [])
parents-set_push nodes i x u h e w =
    elim (nat_eq w i) as (λ b. nat_eq w i ≡ b → parents_of (set nodes i x) w ≡ parents_of nodes w ++ (if b then u ∷ [] else [])) [
      | true ↦ λ q. let s = eqb-true w i q in
          ap (parents_of (set nodes i x)) s ∙ parents-set_same nodes i x h ∙ e ∙ ap (λ k. parents_of nodes k ++ u ∷ []) (sym s)
      | false ↦ λ q. parents-set_other nodes i x w (eqb-false w i q) ∙ sym (append-nil (parents_of nodes w))
    ] refl

-- the two writes of an edge, in the order in which they are made
module _ (nodes : List Node) (u v : ℕ) (first second a b : Node) (from : u < length nodes) (to : v < length nodes)
    (is_a : a ≡ get_or nodes u a) (is_b : b ≡ get_or (set nodes u first) v b)
    (child : first.children.items ≡ a.children.items ++ v ∷ []) (parents_kept : first.parents.items ≡ a.parents.items) (label_kept : first.label ≡ a.label)
    (parent : second.parents.items ≡ b.parents.items ++ u ∷ []) (children_kept : second.children.items ≡ b.children.items) (label_kept_too : second.label ≡ b.label) where
  within : v < length (set nodes u first)
  within = omega (arith, length-set nodes u first)

  pub edge-children : (w : ℕ) → children_of (set (set nodes u first) v second) w ≡ children_of nodes w ++ (if nat_eq w u then v ∷ [] else [])
  edge-children w =
      children-set_kept (set nodes u first) v second within (children_kept ∙ ap (λ n. n.children.items) is_b ∙ sym (children-at (set nodes u first) v b within)) w
      ∙ children-set_push nodes u first v from (child ∙ ap (λ n. n.children.items ++ v ∷ []) is_a ∙ ap (λ l. l ++ v ∷ []) (sym (children-at nodes u a from))) w

  kept : (w : ℕ) → parents_of (set nodes u first) w ≡ parents_of nodes w
  kept = parents-set_kept nodes u first from (parents_kept ∙ ap (λ n. n.parents.items) is_a ∙ sym (parents-at nodes u a from))

  pub edge-parents : (w : ℕ) → parents_of (set (set nodes u first) v second) w ≡ parents_of nodes w ++ (if nat_eq w v then u ∷ [] else [])
  edge-parents w =
      parents-set_push (set nodes u first) v second u within (parent ∙ ap (λ n. n.parents.items ++ u ∷ []) is_b ∙ ap (λ l. l ++ u ∷ []) (sym (parents-at (set nodes u first) v b within))) w
      ∙ ap (λ l. l ++ (if nat_eq w v then u ∷ [] else [])) (kept w)

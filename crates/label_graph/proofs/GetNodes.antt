-- The lists of one node.
use Rattle.std.proofs.Common.{◌≡◌, ℕ, zero, suc, ◌≤◌, List, [], ◌∷◌, ◌++◌, length, refl, arith}
use Rattle.label_graph.specs.Nodes.{Node, children_of, parents_of}

pub children-past : (nodes : List Node) (i : ℕ) → length nodes ≤ i → children_of nodes i ≡ []
children-past [] i h = refl
children-past (y ∷ ys) zero h = absurd (omega arith)
children-past (y ∷ ys) (suc i) h = children-past ys i (omega arith)

pub parents-past : (nodes : List Node) (i : ℕ) → length nodes ≤ i → parents_of nodes i ≡ []
parents-past [] i h = refl
parents-past (y ∷ ys) zero h = absurd (omega arith)
parents-past (y ∷ ys) (suc i) h = parents-past ys i (omega arith)

-- a node with no neighbours behind the others
pub children-push : (nodes : List Node) (x : Node) → x.children.items ≡ [] → (w : ℕ) → children_of (nodes ++ x ∷ []) w ≡ children_of nodes w
children-push [] x e zero = e
children-push [] x e (suc w) = refl
children-push (y ∷ ys) x e zero = refl
children-push (y ∷ ys) x e (suc w) = children-push ys x e w

pub parents-push : (nodes : List Node) (x : Node) → x.parents.items ≡ [] → (w : ℕ) → parents_of (nodes ++ x ∷ []) w ≡ parents_of nodes w
parents-push [] x e zero = e
parents-push [] x e (suc w) = refl
parents-push (y ∷ ys) x e zero = refl
parents-push (y ∷ ys) x e (suc w) = parents-push ys x e w

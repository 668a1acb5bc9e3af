-- Levels of bisimilarity are equivalences of the nodes, and each lies within the one below.
use Rattle.std.proofs.Common.{◌≡◌, ℕ, zero, suc, ◌⊎◌, Option, Some, None, IsSome, is_some, refl, sym, ◌∙◌, ap, inl, inr, true≢false}
use Rattle.graph_spec.specs.Shapes.{Shape, IsNode, IsShape}
use Rattle.bisim_spec.specs.Bisimilarity.{SameLabel, Matched, Bis, Both}

pub some_of : {A : Type 0} (o : Option A) → IsSome o → (x : A) × (o ≡ Some x)
some_of None h = absurd (true≢false (sym h))
some_of (Some x) h = (x, refl)

pub none_or_some : {A : Type 0} (o : Option A) → (o ≡ None) ⊎ ((x : A) × (o ≡ Some x))
none_or_some None = inl refl
none_or_some (Some x) = inr (x, refl)

pub is_some_at : {A : Type 0} (o : Option A) (x : A) → o ≡ Some x → IsSome o
is_some_at o x e = ap is_some e

-- matched neighbours, of relations with these laws

pub matched_sym : {Neighbour R : ℕ → ℕ → Type 0} {u v : ℕ} → Matched Neighbour R u v → Matched Neighbour R v u
matched_sym h = record { there = h.back; back = h.there }

pub matched_trans : {Neighbour R : ℕ → ℕ → Type 0} {u v w : ℕ} → ((x y z : ℕ) → R x y → R y z → R x z)
    → Matched Neighbour R u v → Matched Neighbour R v w → Matched Neighbour R u w
matched_trans trans h k = record {
  there = λ p e. let q = h.there p e in let r = k.there q.0 q.1 in (r.0, r.1, trans p q.0 r.0 q.2 r.2);
  back = λ p e. let q = k.back p e in let r = h.back q.0 q.1 in (r.0, r.1, trans p q.0 r.0 q.2 r.2);
}

pub matched_self : {Neighbour R : ℕ → ℕ → Type 0} {u : ℕ} → ((p : ℕ) → Neighbour p u → R p p) → Matched Neighbour R u u
matched_self self = record { there = λ p e. (p, e, self p e); back = λ p e. (p, e, self p e) }

pub matched_map : {Neighbour R Q : ℕ → ℕ → Type 0} {u v : ℕ} → ((x y : ℕ) → R x y → Q x y) → Matched Neighbour R u v → Matched Neighbour Q u v
matched_map within h = record {
  there = λ p e. let q = h.there p e in (q.0, q.1, within p q.0 q.2);
  back = λ p e. let q = h.back p e in (q.0, q.1, within p q.0 q.2);
}

-- nodes with one label

pub label_sym : (s : Shape) (u v : ℕ) → SameLabel s u v → SameLabel s v u
label_sym s u v h = (h.0, h.2, h.1)

pub label_trans : (s : Shape) (u v w : ℕ) → SameLabel s u v → SameLabel s v w → SameLabel s u w
label_trans s u v w h k = (h.0, h.1, let a = h.2 in let b = k.1 in let c = k.2 in let e : k.0 ≡ h.0 = cc in c ∙ ap Some e)

pub label_self : (s : Shape) (u : ℕ) → IsNode s u → SameLabel s u u
label_self s u h = let l = some_of (s.label u) h in (l.0, l.1, l.1)

pub label_node : (s : Shape) (u v : ℕ) → SameLabel s u v → IsNode s u
label_node s u v h = is_some_at (s.label u) h.0 h.1

pub label_same : (s : Shape) (u v : ℕ) → SameLabel s u v → s.label u ≡ s.label v
label_same s u v h = h.1 ∙ sym h.2

-- over parents

pub bis_sym : (s : Shape) (i u v : ℕ) → Bis s i u v → Bis s i v u
bis_sym s zero u v h = label_sym s u v h
bis_sym s (suc i) u v h = (bis_sym s i u v h.0, matched_sym h.1)

pub bis_trans : (s : Shape) (i u v w : ℕ) → Bis s i u v → Bis s i v w → Bis s i u w
bis_trans s zero u v w h k = label_trans s u v w h k
bis_trans s (suc i) u v w h k = (bis_trans s i u v w h.0 k.0, matched_trans (bis_trans s i) h.1 k.1)

pub bis_self : (s : Shape) → IsShape s → (i u : ℕ) → IsNode s u → Bis s i u u
bis_self s shape zero u h = label_self s u h
bis_self s shape (suc i) u h = (bis_self s shape i u h, matched_self (λ p e. bis_self s shape i p (shape.from p u e)))

pub bis_label : (s : Shape) (i u v : ℕ) → Bis s i u v → SameLabel s u v
bis_label s zero u v h = h
bis_label s (suc i) u v h = bis_label s i u v h.0

pub bis_node : (s : Shape) (i u v : ℕ) → Bis s i u v → IsNode s u
bis_node s i u v h = label_node s u v (bis_label s i u v h)

-- over parents and children

pub both_sym : (s : Shape) (i u v : ℕ) → Both s i u v → Both s i v u
both_sym s zero u v h = label_sym s u v h
both_sym s (suc i) u v h = (both_sym s i u v h.0, matched_sym h.1, matched_sym h.2)

pub both_trans : (s : Shape) (i u v w : ℕ) → Both s i u v → Both s i v w → Both s i u w
both_trans s zero u v w h k = label_trans s u v w h k
both_trans s (suc i) u v w h k =
    (both_trans s i u v w h.0 k.0, matched_trans (both_trans s i) h.1 k.1, matched_trans (both_trans s i) h.2 k.2)

pub both_self : (s : Shape) → IsShape s → (i u : ℕ) → IsNode s u → Both s i u u
both_self s shape zero u h = label_self s u h
both_self s shape (suc i) u h = (
  both_self s shape i u h,
  matched_self (λ p e. both_self s shape i p (shape.from p u e)),
  matched_self (λ c e. both_self s shape i c (shape.onto u c e)),
)

pub both_label : (s : Shape) (i u v : ℕ) → Both s i u v → SameLabel s u v
both_label s zero u v h = h
both_label s (suc i) u v h = both_label s i u v h.0

pub both_node : (s : Shape) (i u v : ℕ) → Both s i u v → IsNode s u
both_node s i u v h = label_node s u v (both_label s i u v h)

-- nodes that are bisimilar both ways are bisimilar
pub both_bis : (s : Shape) (i u v : ℕ) → Both s i u v → Bis s i u v
both_bis s zero u v h = h
both_bis s (suc i) u v h = (both_bis s i u v h.0, matched_map (both_bis s i) h.1)

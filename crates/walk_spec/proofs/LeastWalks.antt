-- The order of walks: of each two at most one comes first, so at most one walk is the least.
use Rattle.std.proofs.Common.{◌≡◌, ℕ, ◌⊎◌, inl, inr, List, [], ◌∷◌, sym, ap, arith}
use Rattle.graph_spec.specs.Shapes.{Shape}
use Rattle.path_spec.specs.Trees.{Expr}
use Rattle.walk_spec.specs.LeastWalks.{EndIn, Shows, IsLess, Before, IsLeast}

less_once : (nodes others : List ℕ) → IsLess nodes others → IsLess others nodes → ⊥
less_once [] others h k = h
less_once (u ∷ nodes) [] h k = h
less_once (u ∷ nodes) (x ∷ others) (inl h) (inl k) = absurd (omega (arith, h, k))
less_once (u ∷ nodes) (x ∷ others) (inl h) (inr k) = let e = k.0 in absurd (omega (arith, h, e))
less_once (u ∷ nodes) (x ∷ others) (inr h) (inl k) = let e = h.0 in absurd (omega (arith, k, e))
less_once (u ∷ nodes) (x ∷ others) (inr h) (inr k) = less_once nodes others h.1 k.1

-- no two lists come before each other
pub before_once : (nodes others : List ℕ) → Before nodes others → Before others nodes → ⊥
before_once nodes others (inl h) (inl k) = absurd (omega (arith, h, k))
before_once nodes others (inl h) (inr k) = let e = k.0 in absurd (omega (arith, h, e))
before_once nodes others (inr h) (inl k) = let e = h.0 in absurd (omega (arith, k, e))
before_once nodes others (inr h) (inr k) = less_once nodes others h.1 k.1

-- at most one walk is the least
pub least_once : (s : Shape) (e : Expr) (v : ℕ) (nodes others : List ℕ) → IsLeast s e v nodes → IsLeast s e v others → nodes ≡ others
least_once s e v nodes others a b = elim (a.least others b.shows) [
  | inl same ↦ sym same
  | inr first ↦ (elim (b.least nodes a.shows) [ inl same ↦ same | inr second ↦ absurd (before_once nodes others first second) ])
]

-- a walk of one node is the least
pub one_least : (s : Shape) (e : Expr) (v : ℕ) → Shows s e v (v ∷ []) → IsLeast s e v (v ∷ [])
one_least s e v h = record { shows = h; least = λ others k. by others k.end }
  where
    by : (others : List ℕ) → EndIn others v → (others ≡ v ∷ []) ⊎ Before (v ∷ []) others
    by [] k = absurd k
    by (u ∷ []) k = inl (ap (λ n. n ∷ []) k)
    by (u ∷ c ∷ others) k = inr (inl (omega arith))

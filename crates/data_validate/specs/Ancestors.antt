-- What leads to the members of a set by few edges.
use Rattle.std.specs.Prelude.{◌≡◌, ℕ, zero, suc, ◌≤◌, ◌⊎◌, ◌&&◌, ◌||◌, not, Bool, List, Option, None, Some, is_some, IsTrue, IsSome}
use Rattle.graph_spec.specs.Members.{has}

-- so many edges lead from u to v
abbrev pub HasWalk : (ℕ → ℕ → Bool) → ℕ → ℕ → ℕ → Type 0
HasWalk edge zero u v = u ≡ v
HasWalk edge (suc k) u v = (w : ℕ) × IsTrue (edge u w) × HasWalk edge k w v

-- not more edges than the bound, where there is one
abbrev pub IsFew : Option ℕ → ℕ → Type 0
IsFew None k = Unit {0}
IsFew (Some most) k = k ≤ most

-- the members have each node from which few edges lead to a node of the set
pub record AreAncestors (label_at : ℕ → Option ℕ) (edge : ℕ → ℕ → Bool) (most : Option ℕ) (set members : List ℕ) : Type 0 where
  -- if a node of the set has a label, and few enough edges lead to it from u, then u is a member
  pub has_all : (k u v : ℕ) → IsFew most k → IsTrue (has set v) → IsSome (label_at v) → HasWalk edge k u v → IsTrue (has members u)

-- whether it is a member of the set and a node
abbrev pub is_node_of : (ℕ → Option ℕ) → List ℕ → ℕ → Bool
is_node_of label_at set c = has set c && is_some (label_at c)

-- the numbers that pass are met, and those that weren't met before are found
pub record IsNoted (passes : ℕ → Bool) (met found met2 found2 : List ℕ) : Type 0 where
  -- those that were met before, and those that pass, are met
  pub meets : (c : ℕ) → has met2 c ≡ (has met c || passes c)
  -- those that were found before, and those that pass and weren't met, are found
  pub finds : (c : ℕ) → has found2 c ≡ (has found c || (passes c && not (has met c)))

-- the parents of the nodes are met, and those that weren't met before are found
pub record IsSpread (edge : ℕ → ℕ → Bool) (nodes met found met2 found2 : List ℕ) : Type 0 where
  -- what was met stays met
  pub stays : (u : ℕ) → IsTrue (has met u) → IsTrue (has met2 u)
  -- each parent of one of the nodes is met
  pub parents : (u v : ℕ) → IsTrue (has nodes v) → IsTrue (edge u v) → IsTrue (has met2 u)
  -- what wasn't met before is found
  pub fresh : (u : ℕ) → IsTrue (has met2 u) → IsTrue (has met u) ⊎ IsTrue (has found2 u)
  -- what was found stays found
  pub kept : (u : ℕ) → IsTrue (has found u) → IsTrue (has found2 u)
  -- what is newly found is a parent of some node
  pub source : (u : ℕ) → IsTrue (has found2 u) → IsTrue (has found u) ⊎ ((v : ℕ) × IsTrue (edge u v))

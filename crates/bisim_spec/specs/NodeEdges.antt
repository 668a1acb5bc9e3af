-- The edges at a node, and how many of them lead from one block to another. They are what a move of the node takes from
-- supports, and gives to them.
use Rattle.std.specs.Prelude.{◌≡◌, ◌≢◌, ℕ, ◌+◌, ◌&&◌, not, Bool, List, Option, nat_eq, map, count_by}
use Rattle.graph_spec.specs.Members.{at}
use Rattle.bisim_spec.specs.Supports.{joins}

-- the edges from each of these to n
abbrev pub edges_onto : ℕ → List ℕ → List (ℕ × ℕ)
edges_onto n parents = map (λ p. (p, n)) parents

-- the edges from n to each of these
abbrev pub edges_from : ℕ → List ℕ → List (ℕ × ℕ)
edges_from n children = map (λ c. (n, c)) children

-- the edge leads from a member of x to a member of y, and doesn't end at n
abbrev pub joins_off : ℕ → List (Option ℕ) → ℕ → ℕ → ℕ × ℕ → Bool
joins_off n block x y e = joins block x y e && not (nat_eq e.1 n)

-- how many of the edges at n, which has these parents and children, lead from a member of x to a member of y; a loop is
-- counted once
abbrev pub touching_count : ℕ → List ℕ → List ℕ → List (Option ℕ) → ℕ → ℕ → ℕ
touching_count n parents children block x y =
    count_by (joins block x y) (edges_onto n parents) + count_by (joins_off n block x y) (edges_from n children)

-- the two partitions differ at the node alone
pub record DifferAlone (n : ℕ) (block block2 : List (Option ℕ)) : Type 0 where
  -- each other node has the block that it had
  pub others : (m : ℕ) → m ≢ n → at block2 m ≡ at block m

-- How much there is to read at the nodes of a set. The costs of upkeep are said in it: K. Yi, H. He, I. Stanoi and J. Yang,
-- SIGMOD 2004, count what a change reaches.
use Rattle.std.specs.Prelude.{ℕ, ◌+◌, Bool, if◌then◌else◌}
use Rattle.graph_spec.specs.Shapes.{Shape}
use Rattle.bisim_spec.specs.Below.{count_below, sum_below}

-- how many numbers below the size are parents of the node
abbrev pub parent_count : Shape → ℕ → ℕ
parent_count s n = count_below s.size (λ p. s.edge p n)

-- how many numbers below the size are children of the node
abbrev pub child_count : Shape → ℕ → ℕ
child_count s n = count_below s.size (s.edge n)

-- one, and one for each parent and each child
abbrev pub weight_at : Shape → ℕ → ℕ
weight_at s n = 1 + parent_count s n + child_count s n

-- the weights of the numbers in the set, added up
abbrev pub weight : Shape → (ℕ → Bool) → ℕ
weight s set = sum_below s.size (λ n. if set n then weight_at s n else 0)

-- how many numbers are in the set
abbrev pub size_of : Shape → (ℕ → Bool) → ℕ
size_of s set = count_below s.size set

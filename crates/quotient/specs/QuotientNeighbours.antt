-- The lists of neighbours of blocks.
use Rattle.std.specs.Prelude.{◌≡◌, ◌≢◌, ℕ, ◌+◌, ◌<◌, ◌≤◌, ◌^◌, ◌&&◌, Bool, List, [], Option, Some, IsSome, length, cond, nat_eq, nat_lt, slice_index_or, count_by}
use Rattle.std.specs.FinMap as table
use Rattle.std.specs.FinSet as set
use Rattle.graph_spec.specs.Graphs.{Edges}
use Rattle.graph_spec.specs.Members.{Lists, at}
use Rattle.block_partition.specs.LabelledPartitions.{Partition}
use Rattle.bisim_spec.specs.Supports.{joins, support, edges_between}
use Rattle.bisim_spec.specs.NodeEdges.{edges_from}
use Rattle.bisim_spec.specs.IndexGraphs.{SupportTable, support_at}

-- the list with this number, and an empty one past the end
abbrev pub list_at : List (List ℕ) → ℕ → List ℕ
list_at lists n = slice_index_or lists n []

-- whether a has support to b
abbrev pub is_supported : SupportTable → ℕ → ℕ → Bool
is_supported t a b = nat_lt 0 (support_at t a b)

-- children and parents are listed exactly where there is support
pub record AreNeighbourLists (t : SupportTable) (children parents : List (List ℕ)) : Type 0 where
  -- the children of a are the blocks to which it has support, each once
  pub children_are : (a : ℕ) → Lists (is_supported t a) (list_at children a)
  -- the parents of b are the blocks that have support to it, each once
  pub parents_are : (b : ℕ) → Lists (λ a. is_supported t a b) (list_at parents b)

-- one more edge from a to b
abbrev pub with_one_more : SupportTable → ℕ → ℕ → SupportTable
with_one_more t a b = table.insert t (a, b) (support_at t a b + 1)

-- 1 if it is so, and else 0
abbrev pub one_if : Bool → ℕ
one_if b = cond b 1 0

-- how many of the edges from n to each of these lead from x to y
abbrev pub pairs_between : List (Option ℕ) → ℕ → List ℕ → ℕ → ℕ → ℕ
pairs_between block n children x y = count_by (joins block x y) (edges_from n children)

-- how many of the pairs of blocks are x and y
abbrev pub pairs_with : List (ℕ × ℕ) → ℕ → ℕ → ℕ
pairs_with pairs x y = count_by (λ p. nat_eq x p.0 && nat_eq y p.1) pairs

-- pairs with support are of numbers below this one
abbrev pub ArePairsBelow : ℕ → SupportTable → Type 0
ArePairsBelow n t = (a b : ℕ) → 0 < support_at t a b → (a < n) × (b < n)

-- how many of the edges that begin before a node lead from x to y
abbrev pub edges_below : Edges → List (Option ℕ) → ℕ → ℕ → ℕ → ℕ
edges_below edges block n x y = set.len (set.retain edges (λ e. nat_lt e.0 n && joins block x y e))

-- whatever the blocks: as many edges of the list lead from one to another as of the set
pub record AreListed (edges : Edges) (list : List (ℕ × ℕ)) : Type 0 where
  -- for each pair of blocks the numbers agree
  pub same : (block : List (Option ℕ)) (x y : ℕ) → support list block x y ≡ edges_between edges block x y

-- the same of those edges of the set that begin before a node
pub record AreListedBelow (edges : Edges) (n : ℕ) (list : List (ℕ × ℕ)) : Type 0 where
  -- whatever the partition, the list gives each pair as many edges as begin before the node
  pub same : (block : List (Option ℕ)) (x y : ℕ) → support list block x y ≡ edges_below edges block n x y

-- whatever the blocks: at most 2^30 edges of the list lead from one to another
pub record AreFew (list : List (ℕ × ℕ)) : Type 0 where
  -- for each pair of blocks
  pub most : (block : List (Option ℕ)) (x y : ℕ) → support list block x y ≤ 2 ^ 30

-- each pair in the table has edges
abbrev pub IsPositive : SupportTable → Type 0
IsPositive t = (p : ℕ × ℕ) → table.get t p ≢ Some 0

-- support is only between blocks
abbrev pub AreLive : Partition → SupportTable → Type 0
AreLive p t = (a b : ℕ) → 0 < support_at t a b → IsSome (at p.labels a) × IsSome (at p.labels b)

-- what holds of each quotient and its lists of neighbours
pub record IsSoundQuotient (p : Partition) (t : SupportTable) (children parents : List (List ℕ)) : Type 0 where
  -- children and parents are listed exactly where there is support
  pub neighbour_lists : AreNeighbourLists t children parents
  -- support is only between blocks
  pub live : AreLive p t
  -- there is a list for each block number, on either side
  pub length_children : length p.labels ≤ length children
  pub length_parents : length children ≤ length parents

-- the support of this pair rises by one, and no other changes
abbrev pub RaisesPair : ℕ → ℕ → (ℕ → ℕ → ℕ) → (ℕ → ℕ → ℕ) → Type 0
RaisesPair a b support support2 = (x y : ℕ) → support2 x y ≡ support x y + one_if (nat_eq x a && nat_eq y b)

-- the support of this pair falls by one, and no other changes
abbrev pub LowersPair : ℕ → ℕ → (ℕ → ℕ → ℕ) → (ℕ → ℕ → ℕ) → Type 0
LowersPair a b support support2 = (x y : ℕ) → support2 x y + one_if (nat_eq x a && nat_eq y b) ≡ support x y

-- the second list has each pair that passes once more than the first, and all others as often
abbrev pub AddsPairIf : (ℕ → ℕ → Bool) → List (ℕ × ℕ) → List (ℕ × ℕ) → Type 0
AddsPairIf passes pairs pairs2 = (x y : ℕ) → pairs_with pairs2 x y ≡ pairs_with pairs x y + one_if (passes x y)

-- the support of two blocks once the pairs of a list are counted too
abbrev pub total_support : SupportTable → List (ℕ × ℕ) → ℕ → ℕ → ℕ
total_support t pairs x y = support_at t x y + pairs_with pairs x y

-- the pairs of the list are counted, and no others
abbrev pub CountsPairs : List (ℕ × ℕ) → SupportTable → SupportTable → Type 0
CountsPairs pairs t t2 = (x y : ℕ) → support_at t2 x y ≡ total_support t pairs x y

-- what is counted and what is still gathered are together as many as before
abbrev pub SameTotals : SupportTable → List (ℕ × ℕ) → SupportTable → List (ℕ × ℕ) → Type 0
SameTotals t pairs t2 pairs2 = (x y : ℕ) → total_support t2 pairs2 x y ≡ total_support t pairs x y

-- those edges of the set that begin before a node are counted or gathered, and no others
pub record AreCountedBelow (edges : Edges) (block : List (Option ℕ)) (n : ℕ) (t : SupportTable) (pairs : List (ℕ × ℕ)) : Type 0 where
  -- the table and the list give each pair as many edges as begin before the node
  pub same : (x y : ℕ) → total_support t pairs x y ≡ edges_below edges block n x y

-- What merging two blocks makes of the supports.
use Rattle.std.specs.Prelude.{◌≡◌, ℕ, ◌+◌, ◌≤◌, ◌^◌, List, Option, Some, IsSome, nat_eq, if◌then◌else◌, Bool}
use Rattle.std.specs.FinSet as set
use Rattle.graph_spec.specs.Members.{at}
use Rattle.graph_spec.specs.Graphs.{Graph}
use Rattle.bisim_spec.specs.declared.sides.Side.{Side}
use Rattle.bisim_spec.specs.SideEdges.{edge_with}
use Rattle.one_spec.specs.EdgeCounts.{AreEdgeCounts}
use Rattle.quotient_draft.specs.Drafts.{is_pair}

-- the support between m, as a neighbour on this side, and c
abbrev pub support_by : Side → (ℕ → ℕ → ℕ) → ℕ → ℕ → ℕ
support_by side support m c = support (edge_with side m c).0 (edge_with side m c).1

-- the supports once those to b are added to those to a
abbrev pub with_column : ℕ → ℕ → (ℕ → ℕ → ℕ) → ℕ → ℕ → ℕ
with_column a b support x y = if nat_eq y b then 0 else (if nat_eq y a then support x a + support x b else support x y)

-- the supports once those from b are added to those from a
abbrev pub with_row : ℕ → ℕ → (ℕ → ℕ → ℕ) → ℕ → ℕ → ℕ
with_row a b support x y = if nat_eq x b then 0 else (if nat_eq x a then support a y + support b y else support x y)

-- the supports once that from b to itself is added to that from a to itself
abbrev pub with_loop : ℕ → ℕ → (ℕ → ℕ → ℕ) → ℕ → ℕ → ℕ
with_loop a b support x y = if is_pair (x, y) (b, b) then 0 else (if is_pair (x, y) (a, a) then support a a + support b b else support x y)

-- for each neighbour on this side that passes, the support of b goes over to a: it is added there, and none is left at
-- b; all other supports stay
abbrev pub AddsSupports : Side → (ℕ → Bool) → ℕ → ℕ → (ℕ → ℕ → ℕ) → (ℕ → ℕ → ℕ) → Type 0
AddsSupports side passes a b support support2 = (m c : ℕ)
    → support_by side support2 m c ≡ (if passes m then with_column a b (support_by side support) m c else support_by side support m c)

-- the same for all neighbours on this side
abbrev pub AddsAllSupports : Side → ℕ → ℕ → (ℕ → ℕ → ℕ) → (ℕ → ℕ → ℕ) → Type 0
AddsAllSupports side a b support support2 = (m c : ℕ) → support_by side support2 m c ≡ with_column a b (support_by side support) m c

-- the supports once b is replaced by a
abbrev pub merged_support : ℕ → ℕ → (ℕ → ℕ → ℕ) → ℕ → ℕ → ℕ
merged_support a b support = with_row a b (with_column a b support)

-- The supports are those of some graph with at most 2^30 edges, and each block with members has a label.
pub record HasGraph (block : List (Option ℕ)) (labels : ℕ → Option ℕ) (support : ℕ → ℕ → ℕ) : Type 0 where
  -- some graph
  pub graph : Graph
  -- the support of a pair is the number of its edges from the one block to the other
  pub supports : AreEdgeCounts graph block support
  -- it has at most 2^30 edges
  pub few : set.len graph.edges ≤ 2 ^ 30
  -- a block with a member has a label
  pub live : (n b : ℕ) → at block n ≡ Some b → IsSome (labels b)

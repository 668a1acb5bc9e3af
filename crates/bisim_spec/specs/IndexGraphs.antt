-- Index graphs: a partition with a label for each block, and the support of each pair of blocks.
use Rattle.std.specs.Prelude.{ℕ, ◌≡◌, List, length, Option, Some, IsSome, nat_lt, slice_get, unwrap_or, refl}
use Rattle.std.specs.Coded.{Coded, code_by, coded×, coded_ℕ, coded_list, coded_option}
use Rattle.std.specs.FinMap as table
use Rattle.graph_spec.specs.Graphs.{Graph, edge_cmp, label_of}
use Rattle.graph_spec.specs.Shapes.{Shape, shape_by}
use Rattle.graph_spec.specs.Members.{at}
use Rattle.bisim_spec.specs.Supports.{edges_between}

-- numbers of edges, by the block where they begin and the block where they end
abbrev pub SupportTable : Type 0
SupportTable = table.FinMap edge_cmp ℕ

-- the support of a pair of blocks; a pair that isn't in the table has none
abbrev pub support_at : SupportTable → ℕ → ℕ → ℕ
support_at supports a b = unwrap_or (table.get supports (a, b)) 0

-- the block of each node, the label of each block, and the support of each pair of blocks
pub record View : Type 0 where
  -- the block of each node
  pub block_of : List (Option ℕ)
  -- for each block the number of its label in the table of labels, and none where the number is no block
  pub labels : List (Option ℕ)
  -- the supports of pairs of blocks; a pair that isn't in the table has none
  pub supports : SupportTable

-- a view is stored as its three parts
abbrev pub view_code : Coded View
view_code =
    code_by (List (Option ℕ) × (List (Option ℕ) × SupportTable))
    (coded× (coded_list (coded_option coded_ℕ)) (coded× (coded_list (coded_option coded_ℕ)) (table.code {R = edge_cmp} (coded× coded_ℕ coded_ℕ) coded_ℕ)))
    (λ v. (v.block_of, (v.labels, v.supports)))
    (λ p. record { block_of = p.0; labels = p.1.0; supports = p.1.1 })
    (λ _. refl)

-- the index graph as a graph: its nodes are the blocks, and edges join the pairs that have support
abbrev pub shape_of_view : List (List ℕ) → View → Shape
shape_of_view texts v = shape_by texts (length v.labels) (at v.labels) (λ a b. nat_lt 0 (support_at v.supports a b))

-- The view is one of the graph: each block has a member, members have their block's label, and supports are the numbers of
-- edges.
pub record ViewFits (g : Graph) (v : View) : Type 0 where
  -- each block has a member
  pub inhabited : (b : ℕ) → IsSome (at v.labels b) → (n : ℕ) × (at v.block_of n ≡ Some b)
  -- each member has its block's label
  pub labelled : (n b : ℕ) → at v.block_of n ≡ Some b
      → (l : ℕ) × (t : List ℕ) × (at v.labels b ≡ Some l) × (slice_get g.seen l ≡ Some t) × (label_of g n ≡ Some t)
  -- the support of a pair is the number of edges from the one block to the other
  pub supports : (a b : ℕ) → support_at v.supports a b ≡ edges_between g.edges v.block_of a b

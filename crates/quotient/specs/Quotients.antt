-- The quotient of a graph by a partition of its nodes: how many edges lead from one block to another. It is the index graph
-- of the partition (T. Milo and D. Suciu, ICDT 1999; support counts: K. Yi, H. He, I. Stanoi and J. Yang, SIGMOD 2004).
use Rattle.std.specs.Prelude.{ℕ, ◌≡◌, ◌&&◌, Bool, List, [], Option, None, Some, is_some, cond, slice_set, nat_eq, nat_lt, refl, length}
use Rattle.std.specs.Coded.{Coded, code_by, coded×, coded_ℕ, coded_list, coded_option}
use Rattle.std.specs.FinMap as table
use Rattle.graph_spec.specs.Graphs.{Edges, edge_cmp}
use Rattle.graph_spec.specs.Members.{at}
use Rattle.graph_spec.specs.Shapes.{shape_by}
use Rattle.block_partition.specs.LabelledPartitions.{Partition, put}
use Rattle.bisim_spec.specs.Supports.{edges_between}
use Rattle.bisim_spec.specs.IndexGraphs.{View, SupportTable, support_at, shape_of_view}

-- what is reserved
pub record ReservedPairs : Type 0 where
  -- blocks with numbers below this one
  pub span : ℕ
  -- that many more pairs with support
  pub pairs : ℕ
  -- for each block number in turn, that many more children, and that many more parents
  pub children : List ℕ
  pub parents : List ℕ

-- a partition, with the supports of its blocks and the capacity reserved
pub record Quotient : Type 0 where
  -- the partition, with a label for each block
  pub blocks : Partition
  -- the support of each pair that has some
  pub supports : SupportTable
  -- for how many more pairs there is capacity
  pub reserved : ReservedPairs

-- no capacity is reserved
abbrev pub no_reserved_pairs : ReservedPairs
no_reserved_pairs = record { span = 0; pairs = 0; children = []; parents = [] }

-- a quotient is stored as its parts
abbrev pub quotient_code : Coded Quotient
quotient_code =
    code_by ((List (Option ℕ) × (List (Option ℕ) × (ℕ × ℕ))) × (SupportTable × ((ℕ × ℕ) × (List ℕ × List ℕ))))
    (coded× (coded× (coded_list (coded_option coded_ℕ)) (coded× (coded_list (coded_option coded_ℕ)) (coded× coded_ℕ coded_ℕ)))
    (coded× (table.code {R = edge_cmp} (coded× coded_ℕ coded_ℕ) coded_ℕ) (coded× (coded× coded_ℕ coded_ℕ) (coded× (coded_list coded_ℕ) (coded_list coded_ℕ)))))
    (λ q. (
      (q.blocks.block_of, (q.blocks.labels, (q.blocks.reserved.nodes, q.blocks.reserved.blocks))),
      (q.supports, ((q.reserved.span, q.reserved.pairs), (q.reserved.children, q.reserved.parents))),
    ))
    (λ p. record {
      blocks = record { block_of = p.0.0; labels = p.0.1.0; reserved = record { nodes = p.0.1.1.0; blocks = p.0.1.1.1 } };
      supports = p.1.0;
      reserved = record { span = p.1.1.0.0; pairs = p.1.1.0.1; children = p.1.1.1.0; parents = p.1.1.1.1 };
    })
    (λ _. refl)

-- the quotient without the reserved capacity of its tables
abbrev pub view_of : Quotient → View
view_of q = record { block_of = q.blocks.block_of; labels = q.blocks.labels; supports = q.supports }

-- each support is the number of edges
abbrev pub AreSupports : Edges → List (Option ℕ) → SupportTable → Type 0
AreSupports edges block supports = (a b : ℕ) → support_at supports a b ≡ edges_between edges block a b

-- how many pairs of blocks have support
abbrev pub pair_count : SupportTable → ℕ
pair_count supports = table.len (table.retain_keys supports (λ p. nat_lt 0 (support_at supports p.0 p.1)))

-- whether an edge of the index graph leads from a to b: both are blocks, and they have support
abbrev pub is_adjacent : Quotient → ℕ → ℕ → Bool
is_adjacent q a b = nat_lt 0 (support_at q.supports a b) && (is_some (at q.blocks.labels a) && is_some (at q.blocks.labels b))

-- whatever the texts of the labels: as a graph, the quotient has the shape of its view
abbrev pub HasShapeOfView : Quotient → Type 0
HasShapeOfView q = (texts : List (List ℕ)) → shape_by texts (length q.blocks.labels) (at q.blocks.labels) (is_adjacent q) ≡ shape_of_view texts (view_of q)

-- the supports, with this one for the pair; a pair without support isn't in the table
abbrev pub with_support : SupportTable → ℕ × ℕ → ℕ → SupportTable
with_support t p n = cond (nat_eq n 0) (table.remove t p) (table.insert t p n)

-- the blocks of nodes, with a node in this block or in none. Only a node that is put into a block lets the list grow
abbrev pub with_put : List (Option ℕ) → ℕ → Option ℕ → List (Option ℕ)
with_put block n None = slice_set block n None
with_put block n (Some b) = put block n b

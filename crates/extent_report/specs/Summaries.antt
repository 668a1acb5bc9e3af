-- What a summary alone says of the lists that are printed.
use Rattle.std.specs.Prelude.{◌≡◌, ℕ, ◌<◌, Bool, false, List, length, Option, Some, IsTrue, [], if◌then◌else◌, option_and_then}
use Rattle.graph_spec.specs.Graphs.{Graph}
use Rattle.graph_spec.specs.Shapes.{Shape, shape_of, shape_by}
use Rattle.graph_spec.specs.Members.{at}
use Rattle.block_partition.specs.LabelledPartitions.{Partition}
use Rattle.bisim_spec.specs.Partitions.{Agrees}
use Rattle.bisim_spec.specs.Tests.{together}
use Rattle.bisim_spec.specs.IndexGraphs.{ViewFits}
use Rattle.quotient.specs.Quotients.{Quotient, view_of}
use Rattle.extent_report.specs.ListedBlocks.{is_first, block_line, extents_text, size_line, block_total, adjacent_total}
use Rattle.index_api.specs.declared.kinds.Via.{Via}

-- the number of the label of a node's block
abbrev pub label_at : Partition → ℕ → Option ℕ
label_at p n = option_and_then (at p.labels) (at p.block_of n)

-- a partition as a graph without edges: a node's label is that of its block
abbrev pub shape_of_blocks : List (List ℕ) → Partition → Shape
shape_of_blocks texts p = shape_by texts (length p.block_of) (label_at p) (λ u v. false)

-- each block's label has a text
abbrev pub LabelsHaveTexts : List (List ℕ) → Partition → Type 0
LabelsHaveTexts texts p = (b l : ℕ) → at p.labels b ≡ Some l → l < length texts

-- the line of the block of a node
abbrev pub line_of : List (List ℕ) → Partition → ℕ → List ℕ
line_of texts p n = block_line (shape_of_blocks texts p) (together p.block_of) n

-- the same, if the node is the first of its block
abbrev pub line_at : List (List ℕ) → Partition → ℕ → List ℕ
line_at texts p n = if is_first (shape_of_blocks texts p) (together p.block_of) n then line_of texts p n else []

-- The summary is one of the graph, and its blocks are the classes of the nodes by the test.
pub record IsSummaryOf (g : Graph) (r : ℕ → ℕ → Bool) (q : Quotient) : Type 0 where
  -- blocks have members, with their labels, and supports are the numbers of edges
  pub fits : ViewFits g (view_of q)
  -- two nodes share a block exactly where the test passes them
  pub agrees : Agrees (shape_of g) q.blocks.block_of (λ u v. IsTrue (r u v))

-- The text lists the blocks of the relation: whatever graph and relation the summary is of, if these are the texts
-- of its labels.
abbrev pub ListsBlocks : List (List ℕ) → Quotient → List ℕ → Type 0
ListsBlocks texts q text = (g : Graph) (r : ℕ → ℕ → Bool) → IsSummaryOf g r q → g.seen ≡ texts → text ≡ extents_text (shape_of g) r

-- The line says how many blocks the relation has, and how many pairs of them an edge joins: whatever graph and relation
-- the summary is of.
abbrev pub CountsBlocks : Via → Quotient → List ℕ → Type 0
CountsBlocks via q line =
    (g : Graph) (r : ℕ → ℕ → Bool) → IsSummaryOf g r q → line ≡ size_line via (block_total (shape_of g) r) (adjacent_total (shape_of g) r)

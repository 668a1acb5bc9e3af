-- The rows of the nodes, and their lists among the cells.
use Rattle.std.specs.Prelude.{◌≡◌, ◌≢◌, ◌≤◌, ℕ, List, [], ◌∷◌, Option, None, Some, length, map, slice_get}
use Rattle.bisim_spec.specs.declared.sides.Side.{Side}
use Rattle.bisim_spec.specs.declared.sides.Side.TheVariants.{Parents, Children}
use Rattle.cell_lists.specs.declared.segment.Segment.{Segment}
use Rattle.label_graph.specs.declared.node.Row.{Row}
use Rattle.label_graph.specs.Nodes.{Node, NeighbourList, number_at}
use Rattle.cell_lists.specs.Segments.{items_in, LiesWithin, IsApart}

-- a node's list on that side
abbrev pub list_of : Side → Row → Segment
list_of Parents r = r.parents
list_of Children r = r.children

-- the row with this list on that side
abbrev pub with_list : Side → Row → Segment → Row
with_list Parents r s = record r { parents = s }
with_list Children r s = record r { children = s }

-- all lists, each node's children and then its parents
abbrev pub segments_of : List Row → List Segment
segments_of [] = []
segments_of (r ∷ rs) = r.children ∷ r.parents ∷ segments_of rs

-- each list that takes cells lies among them, apart from the others
pub record AreHeld (cells : List ℕ) (rows : List Row) : Type 0 where
  -- each list that takes cells lies among them
  pub within : (i : ℕ) (s : Segment) → slice_get (segments_of rows) i ≡ Some s → LiesWithin (length cells) s
  -- no cell belongs to two
  pub apart : (i j : ℕ) (s t : Segment) → i ≢ j → slice_get (segments_of rows) i ≡ Some s
      → slice_get (segments_of rows) j ≡ Some t → IsApart s t

-- for each row the number of its node's label, or none
abbrev pub row_labels : List Row → List (Option ℕ)
row_labels = map (λ r. r.label)

-- What the rows keep: their lists lie apart, and the rows behind those that are shown have no labels.
pub record AreRows (cells : List ℕ) (rows : List Row) (shown : ℕ) : Type 0 where
  -- each list lies among the cells, apart from the others
  pub held : AreHeld cells rows
  -- there is a row for each node that is shown
  pub within : shown ≤ length rows
  -- the rows behind these have no labels
  pub spare : (n : ℕ) → shown ≤ n → number_at (row_labels rows) n ≡ None

-- the list that lies there, with its capacity
abbrev pub list_in : List ℕ → Segment → NeighbourList
list_in cells s = record { items = items_in cells s; capacity = s.reserved }

-- the node of the row, with its lists as they lie among the cells
abbrev pub node_in : List ℕ → Row → Node
node_in cells r = record { label = r.label; children = list_in cells r.children; parents = list_in cells r.parents }

-- the node of each row
abbrev pub nodes_in : List ℕ → List Row → List Node
nodes_in cells = map (node_in cells)

-- What holds of each graph.
use Rattle.std.specs.Prelude.{◌≡◌, ℕ, ◌+◌, ◌<◌, ◌≤◌, ◌^◌, List, Option, Some, length, is_some, IsTrue, bytes_eq, nat_eq}
use Rattle.std.specs.List.{IsDistinct, count_by}
use Rattle.std.specs.FinSet as set
use Rattle.graph_spec.specs.Members.{has}
use Rattle.label_graph.specs.LabelTable.{LabelTable, entries, AreEntries}
use Rattle.label_graph.specs.Nodes.{Node, labels_of, number_at, texts_of, children_of, parents_of, child_reserved, parent_reserved, edges_of, Mirrors, IsLive, IsKept}
use Rattle.label_graph.specs.ReservedGraphs.{starting, ending}

-- The reserved labels are entries, there is a row for each node to come, and of each node that isn't gone the edges fit that
-- are reserved.
pub record ReservedFits (table : LabelTable) (shown : ℕ) (nodes : List Node) (numbers : List ℕ) (pairs : List (ℕ × ℕ)) (relabel_numbers : List ℕ) : Type 0 where
  -- the reserved labels are entries of the table
  pub labels : AreEntries (length (entries table)) numbers
  pub relabels : AreEntries (length (entries table)) relabel_numbers
  -- there is a row for each node to come
  pub rows : shown + length numbers ≤ length nodes
  -- at each node that isn't gone there is capacity for its reserved edges
  pub children : (w : ℕ) → IsKept shown nodes w → starting w pairs ≤ child_reserved nodes w
  pub parents : (w : ℕ) → IsKept shown nodes w → ending w pairs ≤ parent_reserved nodes w

-- edges lead from live nodes to live nodes
pub record EndsLive (shown : ℕ) (nodes : List Node) (u v : ℕ) : Type 0 where
  -- both ends are live
  pub from : IsLive shown nodes u
  pub onto : IsLive shown nodes v

-- the lists of the nodes, and what they hold
pub record AreSound (shown : ℕ) (nodes : List Node) (edge_count : ℕ) : Type 0 where
  -- a node is a child of its parents, and a parent of its children
  pub mirrors : Mirrors nodes
  -- no neighbour is listed twice
  pub children_once : (n : ℕ) → IsDistinct nat_eq (children_of nodes n)
  pub parents_once : (n : ℕ) → IsDistinct nat_eq (parents_of nodes n)
  -- edges join live nodes
  pub ends : (u v : ℕ) → IsTrue (has (children_of nodes u) v) → EndsLive shown nodes u v
  -- the edges are counted
  pub edge_count_is : edge_count ≡ set.len (edges_of nodes)
  -- there are at most 2^30
  pub few_edges : edge_count ≤ 2 ^ 30

-- the table of labels, and the numbers of the nodes' labels
pub record HaveLabelNumbers (table : LabelTable) (numbers : List (Option ℕ)) (node_count : ℕ) : Type 0 where
  -- there are at most 2^30 node numbers
  pub few_nodes : length numbers ≤ 2 ^ 30
  -- no label stands twice
  pub once : IsDistinct bytes_eq (entries table)
  -- nodes have numbers of labels that were seen
  pub below : (n l : ℕ) → number_at numbers n ≡ Some l → l < length table.texts
  -- the live nodes are counted
  pub node_count_is : node_count ≡ count_by is_some (texts_of table.texts numbers)

-- what each graph keeps of its lists, of its labels, and of what is reserved
pub record IsSoundGraph (table : LabelTable) (shown : ℕ) (nodes : List Node) (edge_count node_count : ℕ) (numbers : List ℕ)
    (pairs : List (ℕ × ℕ)) (relabel_numbers : List ℕ) : Type 0 where
  -- children and parents agree, each once, and are counted
  pub lists : AreSound shown nodes edge_count
  -- labels are distinct, and nodes have numbers of labels that were seen
  pub labels : HaveLabelNumbers table (labels_of shown nodes) node_count
  -- what is reserved fits without memory
  pub reserved : ReservedFits table shown nodes numbers pairs relabel_numbers

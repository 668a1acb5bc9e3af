-- What the indexes that are kept show of a graph, and the lists that are printed of them.
use Rattle.std.specs.Prelude.{ℕ, ◌≡◌, ◌⊎◌, ◌∷◌, ◌++◌, Bool, true, false, List, []}
use Rattle.graph_spec.specs.Graphs.{Graph}
use Rattle.graph_spec.specs.Shapes.{shape_of}
use Rattle.label_graph.specs.GraphViews.{live_count, edge_count}
use Rattle.index_api.specs.declared.kinds.Via.{Via}
use Rattle.index_api.specs.IndexOrder.{all_indexes}
use Rattle.index_api.specs.IndexKinds.{KeptIndexes, is_kept, Relates}
use Rattle.extent_report.specs.ListedBlocks.{DecidesEach, extents_text, block_total, adjacent_total, head_line, size_line}

-- What an index shows: it is kept, and the test decides its relation.
pub record ShowsIndex (g : Graph) (kept : KeptIndexes) (via : Via) (r : ℕ → ℕ → Bool) : Type 0 where
  -- the index is kept
  pub is_kept : is_kept kept via ≡ true
  -- the test passes two nodes exactly where the index relates them
  pub decides : DecidesEach r (Relates g kept via)

-- the text lists the blocks of the index
pub record ListsIndex (g : Graph) (kept : KeptIndexes) (via : Via) (text : List ℕ) : Type 0 where
  -- whether two nodes are in one block
  pub test : ℕ → ℕ → Bool
  -- the blocks are those of the index
  pub shows : ShowsIndex g kept via test
  -- the text lists them, each with its members
  pub text_is : text ≡ extents_text (shape_of g) test

-- the line says how many blocks the index has, and how many pairs of them an edge joins
pub record IsSizeLine (g : Graph) (kept : KeptIndexes) (via : Via) (line : List ℕ) : Type 0 where
  -- whether two nodes are in one block
  pub test : ℕ → ℕ → Bool
  -- the blocks are those of the index
  pub shows : ShowsIndex g kept via test
  -- the line gives their number, and the number of pairs with an edge from the one to the other
  pub line_is : line ≡ size_line via (block_total (shape_of g) test) (adjacent_total (shape_of g) test)

-- what is listed of the size of an index: its line if it is kept, else nothing
abbrev pub ShowsSize : Graph → KeptIndexes → Via → List ℕ → Type 0
ShowsSize g kept via text = IsSizeLine g kept via text ⊎ ((is_kept kept via ≡ false) × (text ≡ []))

-- what is listed of the sizes of these indexes, one after another
abbrev pub AreSizes : Graph → KeptIndexes → List Via → List ℕ → Type 0
AreSizes g kept [] text = text ≡ []
AreSizes g kept (via ∷ vias) text = (line : List ℕ) × (rest : List ℕ) × ShowsSize g kept via line × AreSizes g kept vias rest × (text ≡ line ++ rest)

-- the sizes: how many nodes and edges there are, and then the line of each index that is kept
abbrev pub ListsSizes : Graph → KeptIndexes → List ℕ → Type 0
ListsSizes g kept text = (lines : List ℕ) × AreSizes g kept (all_indexes kept.k) lines × (text ≡ head_line (live_count g) (edge_count g) ++ lines)

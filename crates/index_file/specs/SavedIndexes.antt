-- The file of a graph and of the indexes that are kept of it, as it is written.
use Rattle.std.specs.Prelude.{ℕ, ◌≡◌, ◌+◌, ◌⊎◌, ◌∷◌, ◌++◌, Bool, false, List, [], if◌then◌else◌}
use Rattle.graph_spec.specs.Graphs.{Graph}
use Rattle.graph_spec.specs.Shapes.{shape_of}
use Rattle.index_api.specs.declared.kinds.Via.{Via}
use Rattle.index_api.specs.IndexOrder.{all_indexes}
use Rattle.index_api.specs.IndexKinds.{KeptIndexes, is_kept}
use Rattle.extent_report.specs.PrintedLists.{ShowsIndex}
use Rattle.index_file.specs.WrittenFiles.{head_text, view_text}

-- the lines are the view of the index, by what it relates
pub record IsViewOf (g : Graph) (kept : KeptIndexes) (via : Via) (lines : List ℕ) : Type 0 where
  -- whether two nodes are in one block
  pub test : ℕ → ℕ → Bool
  -- the blocks are those of the index
  pub shows : ShowsIndex g kept via test
  -- the lines give the rank of each node's block
  pub lines_are : lines ≡ view_text (shape_of g) test via

-- what is saved of an index: its view if it is kept, else nothing
abbrev pub SavesIndex : Graph → KeptIndexes → Via → List ℕ → Type 0
SavesIndex g kept via text = IsViewOf g kept via text ⊎ ((is_kept kept via ≡ false) × (text ≡ []))

-- what is saved of these indexes, one after another
abbrev pub SavesIndexes : Graph → KeptIndexes → List Via → List ℕ → Type 0
SavesIndexes g kept [] text = text ≡ []
SavesIndexes g kept (via ∷ vias) text = (lines : List ℕ) × (rest : List ℕ) × SavesIndex g kept via lines × SavesIndexes g kept vias rest
    × (text ≡ lines ++ rest)

-- how many of these indexes are kept
abbrev pub count_kept : KeptIndexes → List Via → ℕ
count_kept kept [] = 0
count_kept kept (via ∷ vias) = (if is_kept kept via then 1 else 0) + count_kept kept vias

-- the file: the graph, and then the view of each index that is kept, in the order in which they are listed
abbrev pub SavesFile : Graph → KeptIndexes → List ℕ → Type 0
SavesFile g kept text =
    (lines : List ℕ) × SavesIndexes g kept (all_indexes kept.k) lines × (text ≡ head_text g kept.k (count_kept kept (all_indexes kept.k)) ++ lines)

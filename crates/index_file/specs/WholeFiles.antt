-- The file of a graph and of relations on its nodes: its whole text, and what it holds.
use Rattle.std.specs.Prelude.{ℕ, zero, suc, ◌≡◌, ◌≤◌, ◌<◌, ◌∷◌, ◌++◌, Bool, true, List, [], length, map, slice_get, Option, None, Some, is_some, IsTrue, if◌then◌else◌}
use Rattle.graph_spec.specs.Graphs.{Graph, IsGraph, label_of}
use Rattle.graph_spec.specs.Shapes.{Shape, IsNode, shape_of}
use Rattle.bisim_spec.specs.declared.kind.Kind.{Kind}
use Rattle.bisim_spec.specs.declared.kind.Kind.TheVariants as kind
use Rattle.bisim_spec.specs.Partitions.{Agrees}
use Rattle.graph_spec.specs.declared.limits.Limits.{Limits}
use Rattle.path_query.specs.Labels.{SpellsLabel}
use Rattle.index_api.specs.declared.kinds.Via.{Via}
use Rattle.index_api.specs.declared.kinds.Via.TheVariants.{A, One, Fb, B}
use Rattle.index_api.specs.IndexOrder.{levels_below}
use Rattle.index_api.specs.IndexKinds.{KeptIndexes, has_kind, is_kept, Relates}
use Rattle.index_file.specs.SavedFiles.{SavedFile, SavedView, seen_of}
use Rattle.index_file.specs.FittingViews.{IsStableMinimal, FitsView}
use Rattle.index_file.specs.Reads.{Spelled, Reads}
use Rattle.index_file.specs.Reads as outcome
use Rattle.index_file.specs.ReadFiles.{IsWithin}
use Rattle.index_file.specs.WrittenFiles.{head_text, view_text, rank_of}

-- a view to be written: its index, and whether two nodes are in one of its blocks
pub record TestedView : Type 0 where
  -- the index
  pub via : Via
  -- whether two nodes are in one block
  pub test : ℕ → ℕ → Bool

-- the views, one behind another
abbrev pub views_text : Shape → List TestedView → List ℕ
views_text s [] = []
views_text s (v ∷ vs) = view_text s v.test v.via ++ views_text s vs

-- the whole text: the graph, with levels up to k, and then the views, one after another
abbrev pub file_text : Graph → ℕ → List TestedView → List ℕ
file_text g k views = head_text g k (length views) ++ views_text (shape_of g) views

-- the rank of the block of a node, and none where the number is no node
abbrev pub block_at : Shape → (ℕ → ℕ → Bool) → ℕ → Option ℕ
block_at s r n = if is_some (s.label n) then Some (rank_of s r n) else None

-- the same for each number below n, rising
abbrev pub blocks_below : ℕ → Shape → (ℕ → ℕ → Bool) → List (Option ℕ)
blocks_below zero s r = []
blocks_below (suc n) s r = blocks_below n s r ++ block_at s r n ∷ []

-- the blocks of a relation
abbrev pub blocks_by : Shape → (ℕ → ℕ → Bool) → List (Option ℕ)
blocks_by s r = blocks_below s.size s r

-- the view as a file holds it
abbrev pub saved_view : Shape → TestedView → SavedView
saved_view s v = record { via = v.via; block_of = blocks_by s v.test }

-- the graph, with the labels of its nodes in the order of first use, and no others
abbrev pub saved_graph : Graph → Graph
saved_graph g = record g { seen = seen_of g.allocated }

-- what the file holds
abbrev pub saved_file_of : Graph → ℕ → List TestedView → SavedFile
saved_file_of g k views = record { graph = saved_graph g; k = k; views = map (saved_view (shape_of g)) views }

-- the label of each node is one: it is spelled as it is
abbrev pub HasLabels : Graph → Type 0
HasLabels g = (n : ℕ) (t : List ℕ) → label_of g n ≡ Some t → SpellsLabel t t

-- all indexes of these kinds with levels up to k, in the order in which indexes are listed
abbrev pub indexes_of : List Kind → ℕ → List Via
indexes_of kinds k =
    (if has_kind kinds kind.A then levels_below A (suc k) else [])
    ++ (if has_kind kinds kind.One then One ∷ [] else [])
    ++ (if has_kind kinds kind.Fb then Fb ∷ [] else [])
    ++ (if has_kind kinds kind.B then levels_below B (suc k) else [])

-- the test is an equivalence on the nodes
pub record IsEquivalence (s : Shape) (r : ℕ → ℕ → Bool) : Type 0 where
  -- each node is with itself
  pub reflexive : (u : ℕ) → IsNode s u → IsTrue (r u u)
  -- if u is with v, v is with u
  pub symmetric : (u v : ℕ) → IsNode s u → IsNode s v → IsTrue (r u v) → IsTrue (r v u)
  -- if u is with v and v with w, u is with w
  pub transitive : (u v w : ℕ) → IsNode s u → IsNode s v → IsNode s w → IsTrue (r u v) → IsTrue (r v w) → IsTrue (r u w)

-- what makes the text an index file
pub record IsWritable (g : Graph) (k : ℕ) (views : List TestedView) : Type 0 where
  -- levels go up to at most 8
  pub level : k ≤ 8
  -- the label of each node is spelled as it is
  pub labels : HasLabels g
  -- some kinds of indexes
  pub kinds : List Kind
  -- the views are those of all indexes of these kinds with levels up to k, as they are listed
  pub indexes : map (λ v. v.via) views ≡ indexes_of kinds k
  -- each test is an equivalence on the nodes
  pub tests : (j : ℕ) (v : TestedView) → slice_get views j ≡ Some v → IsEquivalence (shape_of g) v.test

-- a view of an index that is kept, with its relation
pub record IsKeptView (g : Graph) (kept : KeptIndexes) (v : SavedView) : Type 0 where
  -- the index is kept
  pub there : is_kept kept v.via ≡ true
  -- two nodes share a block exactly where it relates them
  pub agrees : Agrees (shape_of g) v.block_of (Relates g kept v.via)

-- What the file of a graph and of the indexes that are kept of it holds: the graph, the highest level, and for each index that
-- is kept, in the order in which they are listed, one view, which has its relation.
pub record IsFileOf (g : Graph) (kept : KeptIndexes) (file : SavedFile) : Type 0 where
  -- the graph is this one, as a file holds it
  pub graph : file.graph ≡ saved_graph g
  -- the highest level is that of the indexes
  pub level : file.k ≡ kept.k
  -- there is one view for each index that is kept, as they are listed
  pub indexes : map (λ v. v.via) file.views ≡ indexes_of kept.kinds kept.k
  -- each has the relation of its index
  pub views : (j : ℕ) (v : SavedView) → slice_get file.views j ≡ Some v → IsKeptView g kept v

-- what holds of a graph and of the indexes that are kept of it, so that they can be saved
pub record CanBeSaved (g : Graph) (kept : KeptIndexes) : Type 0 where
  -- the graph is one
  pub graph : IsGraph g
  -- fewer than 2^32 numbers were allocated
  pub numbers : length g.allocated ≤ 4294967295
  -- levels go up to at most 8
  pub level : kept.k ≤ 8
  -- the label of each node is spelled as it is
  pub labels : HasLabels g
  -- the 1-index, if it is kept, is stable, and no two of its blocks can be merged
  pub one : is_kept kept One ≡ true → IsStableMinimal (shape_of g) kept.one

-- The text is the index file of the graph and of the indexes that are kept: it holds these and nothing else, it is read as that, unless
-- a line of it passes a limit, and each view fits.
pub record IsIndexFile (g : Graph) (kept : KeptIndexes) (text : List ℕ) : Type 0 where
  -- what the text holds
  pub file : SavedFile
  -- the text spells it
  pub spelled : Spelled text file
  -- and nothing else
  pub only : (other : SavedFile) → Spelled text other → other ≡ file
  -- it is read wherever no line passes a limit
  pub reads : (limits : Limits) → IsWithin limits text → Reads limits text (outcome.holds file)
  -- it is the graph with its kept indexes
  pub holds : IsFileOf g kept file
  -- each view fits the graph
  pub fits : (j : ℕ) → j < length file.views → FitsView file j

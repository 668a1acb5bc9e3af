-- The graph of a file, as it is stored.
use Rattle.std.specs.Prelude.{ℕ, ◌≡◌, ◌≤◌, ◌<◌, List, [], length, map, take, get_or, Option, None, Some, slice_get, refl}
use Rattle.std.specs.Coded.{Coded, code_by, coded×, coded_ℕ, coded_list, coded_option}
use Rattle.graph_spec.specs.Graphs.{Graph, IsGraph, has_edge, graph_code}
use Rattle.graph_spec.specs.Members.{Lists}
use Rattle.index_api.specs.declared.kinds.Via.{Via}
use Rattle.index_api.specs.contracts.kinds.Via.{the_row as via_row}
use Rattle.adjacency.specs.Rows.{row, edges_in}
use Rattle.index_file.specs.SavedFiles.{SavedFile, SavedView, graph_of}
use Rattle.index_file.specs.Readings.{RankedView, live_in, view_in}
use Rattle.index_file.specs.ReadViews.{HaveRanks}

-- the file with these numbers, lists of children, and views
abbrev pub saved_file : List (Option (List ℕ)) → List (List ℕ) → ℕ → List RankedView → SavedFile
saved_file allocated children k views = record { graph = graph_of allocated (edges_in 0 children); k = k; views = map (view_in allocated) views }

-- the lists of neighbours are those of the graph
pub record AreNeighbours (g : Graph) (children parents : List (List ℕ)) : Type 0 where
  -- there is a list for each number, on either side
  pub children_all : length children ≡ length g.allocated
  pub parents_all : length parents ≡ length g.allocated
  -- the children of a number are those to which an edge leads, each once
  pub child_lists : (n : ℕ) → n < length g.allocated → Lists (has_edge g n) (row children n)
  -- its parents are those from which an edge leads here, each once
  pub parent_lists : (n : ℕ) → n < length g.allocated → Lists (λ p. has_edge g p n) (row parents n)

-- for each number how many nodes are live below it
pub record ArePlaces (allocated : List (Option (List ℕ))) (places : List ℕ) : Type 0 where
  -- there is an entry for each number
  pub all : length places ≡ length allocated
  -- it says how many nodes are live below
  pub each : (n : ℕ) → n < length allocated → get_or places n 0 ≡ live_in (take n allocated)

-- the places of the first n numbers, and how many of these are live
pub record ArePlacesBelow (allocated : List (Option (List ℕ))) (n live : ℕ) (places : List ℕ) : Type 0 where
  -- there is a place for each of the first n numbers
  pub all : length places ≡ n
  -- there are so many numbers
  pub within : n ≤ length allocated
  -- the place of a number is how many are live below it
  pub each : (m : ℕ) → m < n → get_or places m 0 ≡ live_in (take m allocated)
  -- so many of the first n are live
  pub live_is : live ≡ live_in (take n allocated)

-- what is written: few enough numbers and views, a graph with its lists, ranks for its live nodes, and their places
pub record IsSaved (allocated : List (Option (List ℕ))) (children parents : List (List ℕ)) (views : List RankedView) (places : List ℕ) : Type 0 where
  -- there are fewer than 2^32 numbers
  pub few_nodes : length allocated ≤ 4294967295
  -- there are at most 20 views
  pub few_views : length views ≤ 20
  -- the graph is one
  pub graph : IsGraph (graph_of allocated (edges_in 0 children))
  -- children and parents are listed as its edges say
  pub neighbours : AreNeighbours (graph_of allocated (edges_in 0 children)) children parents
  -- each view has a rank for each live node
  pub ranks : HaveRanks (live_in allocated) views 0
  -- the places are the counts of live nodes below
  pub placed : ArePlaces allocated places

-- the index of a view, if there is one
abbrev pub via_of_view : Option SavedView → Option Via
via_of_view None = None
via_of_view (Some v) = Some v.via

-- the index of the view in that place, if there is one
abbrev pub via_at : SavedFile → ℕ → Option Via
via_at file j = via_of_view (slice_get file.views j)

-- the blocks of a view; nothing where there is none
abbrev pub blocks_of : Option SavedView → List (Option ℕ)
blocks_of None = []
blocks_of (Some v) = v.block_of

-- the blocks of the view in that place; nothing where there is none
abbrev pub blocks_at : SavedFile → ℕ → List (Option ℕ)
blocks_at file j = blocks_of (slice_get file.views j)

-- a file is stored as its parts
abbrev pub saved_view_code : Coded SavedView
saved_view_code =
    code_by (Via × List (Option ℕ)) (coded× via_row.coded (coded_list (coded_option coded_ℕ))) (λ v. (v.via, v.block_of))
    (λ p. record { via = p.0; block_of = p.1 }) (λ _. refl)

-- the code of a file is that of its parts
abbrev pub saved_file_code : Coded SavedFile
saved_file_code =
    code_by (Graph × (ℕ × List SavedView)) (coded× graph_code (coded× coded_ℕ (coded_list saved_view_code))) (λ f. (f.graph, (f.k, f.views)))
    (λ p. record { graph = p.0; k = p.1.0; views = p.1.1 }) (λ _. refl)

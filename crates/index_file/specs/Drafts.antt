-- What was read of a file, as it is stored.
use Rattle.std.specs.Prelude.{ℕ, ◌≡◌, ◌≤◌, ◌+◌, List, [], length, Option, refl}
use Rattle.std.specs.Coded.{Coded, code_by, coded×, coded_ℕ, coded_list, coded_option}
use Rattle.index_file.specs.declared.due.Due.{Due}
use Rattle.index_file.specs.declared.due.Due.TheVariants.{Title, Allocated, Nodes, EdgesLeft, Ranks}
use Rattle.index_file.specs.contracts.due.Due.{the_row as due_row}
use Rattle.index_file.specs.Readings.{Reading, RankedView, live_in, last_via}
use Rattle.index_file.specs.ReadEdges.{AreReadEdges}
use Rattle.index_file.specs.ReadViews.{read_views_code, last_ranks, HaveRanks, most_views}

-- how many numbers may still come
abbrev pub nodes_left : Due → ℕ
nodes_left Title = 4294967295
nodes_left Allocated = 4294967295
nodes_left (Nodes n) = n
nodes_left (EdgesLeft m) = 0
nodes_left (Ranks m n) = 0

-- how many ranks of the last view are due
abbrev pub ranks_left : Due → ℕ
ranks_left Title = 0
ranks_left Allocated = 0
ranks_left (Nodes n) = 0
ranks_left (EdgesLeft m) = 0
ranks_left (Ranks m n) = m

-- how many edges may still come
abbrev pub edges_left : Due → ℕ
edges_left Title = 4294967295
edges_left Allocated = 4294967295
edges_left (Nodes n) = 4294967295
edges_left (EdgesLeft m) = m
edges_left (Ranks m n) = 0

-- the views come last, and each has a rank for each live node
abbrev pub FitDue : Due → ℕ → List RankedView → Type 0
FitDue Title live views = views ≡ []
FitDue Allocated live views = views ≡ []
FitDue (Nodes n) live views = views ≡ []
FitDue (EdgesLeft m) live views = views ≡ []
FitDue (Ranks m n) live views = HaveRanks live views m

-- the numbers, the edges, and the ranks of the last view, are fewer than 2^32 with those that are to come
pub record IsDraft (r : Reading) : Type 0 where
  -- the highest level is at most 8
  pub level : r.k ≤ 8
  -- the numbers are fewer than 2^32, with those that are to come
  pub few_nodes : length r.allocated + nodes_left r.due ≤ 4294967295
  -- so are the ranks of the last view
  pub few_ranks : length (last_ranks r.views) + ranks_left r.due ≤ 4294967295
  -- so are the edges
  pub few_edges : length r.pairs + edges_left r.due ≤ 4294967295
  -- there are no more views than may stand up to the last one
  pub few_views : length r.views ≤ most_views (last_via r.views)
  -- the edges are as they may be read
  pub edges : AreReadEdges r.allocated r.pairs
  -- the views have a rank for each live node, but for those that are due
  pub views : FitDue r.due (live_in r.allocated) r.views

-- what was read is stored as its parts
abbrev pub reading_code : Coded Reading
reading_code =
    code_by (Due × (ℕ × (List (Option (List ℕ)) × (List (ℕ × ℕ) × List RankedView))))
    (coded× due_row.coded
    (coded× coded_ℕ
    (coded× (coded_list (coded_option (coded_list coded_ℕ)))
    (coded× (coded_list (coded× coded_ℕ coded_ℕ)) read_views_code))))
    (λ r. (r.due, (r.k, (r.allocated, (r.pairs, r.views)))))
    (λ p. record { due = p.0; k = p.1.0; allocated = p.1.1.0; pairs = p.1.1.1.0; views = p.1.1.1.1 })
    (λ _. refl)

-- What the lines of an index file give, one after another.
use Rattle.std.specs.Prelude.{ℕ, zero, suc, ◌+◌, ◌&&◌, ◌||◌, not, Bool, true, false, List, [], ◌∷◌, ◌++◌, length, map, Option, None, Some, is_some, option_and_then, slice_get, if◌then◌else◌, nat_eq, nat_lt, nat_le}
use Rattle.graph_spec.specs.declared.limits.Limits.{Limits}
use Rattle.graph_spec.specs.Graphs.{is_seen}
use Rattle.index_api.specs.declared.kinds.Via.{Via}
use Rattle.index_api.specs.declared.kinds.Via.TheVariants.{Data, A, One, Fb, B}
use Rattle.index_file.specs.SavedFiles.{SavedFile, SavedView, seen_of, graph_of, ranks_at}
use Rattle.index_file.specs.declared.due.Due.{Due}
use Rattle.index_file.specs.declared.due.Due.TheVariants.{Title, Allocated, Nodes, EdgesLeft, Ranks}
use Rattle.index_file.specs.FoundNumbers.{saturated}
use Rattle.index_file.specs.Statements as statement
use Rattle.index_file.specs.Statements.{Statement}

-- a view as its lines give it: the ranks of the first nodes
pub record RankedView : Type 0 where
  -- the index, or the level, of which it is a view
  pub via : Via
  -- the rank of each live node's block, in the order of the numbers of nodes
  pub ranks : List ℕ

-- what was read, and what is due
pub record Reading : Type 0 where
  -- what the next line may be
  pub due : Due
  -- the highest level
  pub k : ℕ
  -- the label of each number of a node that was read; none for a gone node
  pub allocated : List (Option (List ℕ))
  -- the edges that were read
  pub pairs : List (ℕ × ℕ)
  -- the views that were read
  pub views : List RankedView

-- before the first line
abbrev pub nothing_read : Reading
nothing_read = record { due = Title; k = 0; allocated = []; pairs = []; views = [] }

-- what is last in a list
abbrev pub last_of : {X : Type 0} → List X → Option X
last_of [] = None
last_of (x ∷ []) = Some x
last_of (x ∷ y ∷ ys) = last_of (y ∷ ys)

-- whether the number is that of a live node
abbrev pub is_live_in : List (Option (List ℕ)) → ℕ → Bool
is_live_in allocated n = is_some (option_and_then (λ l. l) (slice_get allocated n))

-- how many nodes are live
abbrev pub live_in : List (Option (List ℕ)) → ℕ
live_in [] = 0
live_in (None ∷ allocated) = live_in allocated
live_in (Some t ∷ allocated) = suc (live_in allocated)

-- whether an edge stands behind the last one, by where it begins, and then by where it ends
abbrev pub is_behind : Option (ℕ × ℕ) → ℕ → ℕ → Bool
is_behind None u v = true
is_behind (Some e) u v = nat_lt e.0 u || (nat_eq e.0 u && nat_lt e.1 v)

-- Whether an index may stand behind the last one, where levels up to k are kept: first the A(i)-indexes, none or all from 0
-- to k, then the 1-index, the forward and backward index, and the bounded ones, none or all from 0 to k.
abbrev pub follows : ℕ → Option Via → Via → Bool
follows k last Data = false
follows k None (A level) = nat_eq level 0
follows k (Some Data) (A level) = false
follows k (Some (A below)) (A level) = nat_eq level (below + 1) && nat_le level k
follows k (Some One) (A level) = false
follows k (Some Fb) (A level) = false
follows k (Some (B below)) (A level) = false
follows k None One = true
follows k (Some Data) One = false
follows k (Some (A level)) One = nat_eq level k
follows k (Some One) One = false
follows k (Some Fb) One = false
follows k (Some (B level)) One = false
follows k None Fb = true
follows k (Some Data) Fb = false
follows k (Some (A level)) Fb = nat_eq level k
follows k (Some One) Fb = true
follows k (Some Fb) Fb = false
follows k (Some (B level)) Fb = false
follows k None (B level) = nat_eq level 0
follows k (Some Data) (B level) = false
follows k (Some (A below)) (B level) = nat_eq below k && nat_eq level 0
follows k (Some One) (B level) = nat_eq level 0
follows k (Some Fb) (B level) = nat_eq level 0
follows k (Some (B below)) (B level) = nat_eq level (below + 1) && nat_le level k

-- whether no level is missing behind the last index
abbrev pub is_end : ℕ → Option Via → Bool
is_end k None = true
is_end k (Some Data) = false
is_end k (Some (A level)) = nat_eq level k
is_end k (Some One) = true
is_end k (Some Fb) = true
is_end k (Some (B level)) = nat_eq level k

-- the index of the last view
abbrev pub last_via : List RankedView → Option Via
last_via [] = None
last_via (v ∷ []) = Some v.via
last_via (v ∷ w ∷ ws) = last_via (w ∷ ws)

-- one more than the greatest rank so far: the greatest number that the next rank may be
abbrev pub next_rank : ℕ → List ℕ → ℕ
next_rank n [] = n
next_rank n (r ∷ rs) = next_rank (if nat_eq r n then suc n else n) rs

-- the views with one more rank in the last of them; none where the rank is too great, or there is no view
abbrev pub with_rank : List RankedView → ℕ → Option (List RankedView)
with_rank [] r = None
with_rank (v ∷ []) r = if nat_le r (next_rank 0 v.ranks) then Some (record v { ranks = v.ranks ++ r ∷ [] } ∷ []) else None
with_rank (v ∷ w ∷ ws) r = option_and_then (λ vs. Some (v ∷ vs)) (with_rank (w ∷ ws) r)

-- A number of views past 10^18 counts as 10^18: there are fewer indexes than that.
abbrev pub counted_views : ℕ → ℕ
counted_views n = saturated n

-- n numbers are due, and levels go up to k; none where k is more than 8
abbrev pub take_allocated : ℕ → ℕ → Reading → Option Reading
take_allocated n k r = if nat_le k 8 then Some (record r { due = Nodes n; k = k }) else None

-- one more number has this label, or is gone; n are left
abbrev pub take_node : ℕ → Option (List ℕ) → Reading → Option Reading
take_node n label r = Some (record r { due = Nodes n; allocated = r.allocated ++ label ∷ [] })

-- whether an edge may come next: both ends are live, and it stands behind the last one
abbrev pub can_take_edge : Reading → ℕ → ℕ → Bool
can_take_edge r u v = is_live_in r.allocated u && (is_live_in r.allocated v && is_behind (last_of r.pairs) u v)

-- one more edge is read, and m are left; none where it can't come next
abbrev pub take_edge : ℕ → ℕ → ℕ → Reading → Option Reading
take_edge m u v r = if can_take_edge r u v then Some (record r { due = EdgesLeft m; pairs = r.pairs ++ (u, v) ∷ [] }) else None

-- whether a view of the index may come next, where there are so many views
abbrev pub can_take_view : Reading → ℕ → Via → Bool
can_take_view r n via = nat_lt (length r.views) n && follows r.k (last_via r.views) via

-- one more view begins, with no ranks yet; none where it can't come next
abbrev pub take_view : ℕ → Via → Reading → Option Reading
take_view n via r =
    if can_take_view r n via
    then Some (record r { due = Ranks (live_in r.allocated) n; views = r.views ++ record { via = via; ranks = [] } ∷ [] }) else None

-- one more rank of the last view is read, and m are left; none where it is too great, or there is no view
abbrev pub take_rank : ℕ → ℕ → ℕ → Reading → Option Reading
take_rank m n rank r = option_and_then (λ vs. Some (record r { due = Ranks m n; views = vs })) (with_rank r.views rank)

-- what is read once the line is, where this is due; none where it can't stand here
abbrev pub step : Due → Statement → Reading → Option Reading
step Title statement.title r = Some (record r { due = Allocated })
step Allocated (statement.allocated n k) r = take_allocated n k r
step (Nodes zero) (statement.edges m) r = Some (record r { due = EdgesLeft m })
step (Nodes (suc n)) (statement.live t) r = take_node n (Some t) r
step (Nodes (suc n)) statement.gone r = take_node n None r
step (EdgesLeft zero) (statement.views n) r = Some (record r { due = Ranks 0 (counted_views n) })
step (EdgesLeft (suc m)) (statement.edge u v) r = take_edge m u v r
step (Ranks zero n) (statement.view via) r = take_view n via r
step (Ranks (suc m) n) (statement.rank rank) r = take_rank m n rank r
step due s r = None

-- what is read once the line is; none where it can't stand here
abbrev pub next_reading : Statement → Reading → Option Reading
next_reading s r = step r.due s r

-- whether a line that may stand here passes a limit: that of numbers, of labels, of edges
abbrev pub exceeds_at : Limits → Due → Statement → Reading → Bool
exceeds_at limits Allocated (statement.allocated n k) r = nat_lt limits.nodes n
exceeds_at limits (Nodes (suc n)) (statement.live t) r = not (is_seen (seen_of r.allocated) t) && nat_le limits.labels (length (seen_of r.allocated))
exceeds_at limits (Nodes zero) (statement.edges m) r = nat_lt limits.edges m
exceeds_at limits due s r = false

-- the same, with what is due by the reading
abbrev pub exceeds : Limits → Statement → Reading → Bool
exceeds limits s r = exceeds_at limits r.due s r

-- whether nothing more is due, where there are so many views
abbrev pub is_done : Due → ℕ → Bool
is_done Title count = false
is_done Allocated count = false
is_done (Nodes n) count = false
is_done (EdgesLeft m) count = false
is_done (Ranks m n) count = nat_eq m 0 && nat_eq count n

-- whether the file may end here
abbrev pub is_complete : Reading → Bool
is_complete r = is_done r.due (length r.views) && is_end r.k (last_via r.views)

-- the view whose ranks were read, with one at the number of each live node
abbrev pub view_in : List (Option (List ℕ)) → RankedView → SavedView
view_in allocated v = record { via = v.via; block_of = ranks_at allocated v.ranks }

-- what the file holds
abbrev pub file_of : Reading → SavedFile
file_of r = record { graph = graph_of r.allocated r.pairs; k = r.k; views = map (view_in r.allocated) r.views }

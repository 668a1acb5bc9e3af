-- What an index means to those who use it: its kind, its views, and the views that it has staged; and what each call of an
-- index leaves of that.
use Rattle.std.specs.Prelude.{⊤, ℕ, ◌≡◌, ◌<◌, List, [], length, Option, Some, None, IsSome}
use Rattle.graph_spec.specs.Graphs.{Graph}
use Rattle.graph_spec.specs.Shapes.{shape_of}
use Rattle.bisim_spec.specs.declared.kind.Kind.{Kind}
use Rattle.bisim_spec.specs.declared.kind.Kind.TheVariants.{A, One, Fb, B}
use Rattle.bisim_spec.specs.Bisimilarity.{Bisim}
use Rattle.bisim_spec.specs.Partitions.{Agrees}
use Rattle.bisim_spec.specs.IndexGraphs.{View}
use Rattle.bisim_spec.specs.Fits.{Fits, view_at, view_count}
use Rattle.change_spec.specs.Steps.{Step, after}
use Rattle.change_spec.specs.NextOne.{OneStep}

-- what an index means to those who use it
pub record Meaning : Type 0 where
  -- the kind of the index
  pub kind : Kind
  -- the view of each level, none if it isn't computed
  pub views : List (Option View)
  -- the views that a change to come will leave, where one is prepared
  pub staged : Option (List (Option View))

-- the blocks of a view; nothing if it isn't computed
abbrev pub blocks_in : Option View → List (Option ℕ)
blocks_in None = []
blocks_in (Some v) = v.block_of

-- the index without what it has staged
abbrev pub unstaged : Meaning → Meaning
unstaged m = record m { staged = None }

-- the views fit the graph, and nothing is staged
pub record IsReady (m : Meaning) (g : Graph) : Type 0 where
  -- each view that is computed fits the graph
  pub fits : Fits m.kind m.views g
  -- no change is prepared
  pub unstaged : m.staged ≡ None

-- A view as a build makes it: that of the 1-index is full bisimilarity, also on graphs with cycles.
abbrev pub BeginsFull : Kind → Graph → Option View → Type 0
BeginsFull A g o = ⊤
BeginsFull One g None = ⊤
BeginsFull One g (Some v) = Agrees (shape_of g) v.block_of (Bisim (shape_of g))
BeginsFull Fb g o = ⊤
BeginsFull B g o = ⊤

-- the index is built from the graph, with levels up to k where it has levels
pub record IsBuilt (old new : Meaning) (g : Graph) (k : ℕ) : Type 0 where
  -- the kind stays
  pub kind : new.kind ≡ old.kind
  -- the views fit the graph, and nothing is staged
  pub ready : IsReady new g
  -- there are as many views as that kind has with levels up to k
  pub count : length new.views ≡ view_count old.kind k
  -- the view of a 1-index, where it is computed, shows full bisimilarity
  pub full : BeginsFull old.kind g (view_at new.views 0)

-- How a change leads from one view to the next. The partition of the 1-index moves by one step. The others are determined
-- by the graph after the change alone.
abbrev pub IsViewStep : Kind → Graph → Option View → List Step → Option View → Type 0
IsViewStep A g o c next = ⊤
IsViewStep One g o c next = OneStep g (blocks_in o) c (after c g) (blocks_in next)
IsViewStep Fb g o c next = ⊤
IsViewStep B g o c next = ⊤

-- these views are what a change makes of an index
pub record AreNext (old : Meaning) (c : List Step) (g : Graph) (views : List (Option View)) : Type 0 where
  -- the number of views stays
  pub count : length views ≡ length old.views
  -- the views fit the graph after the change
  pub fits : Fits old.kind views (after c g)
  -- the partition of a 1-index moves by one step
  pub step : IsViewStep old.kind g (view_at old.views 0) c (view_at views 0)

-- the change of the graph is prepared, and nothing else has happened
pub record IsPrepared (old new : Meaning) (c : List Step) (g : Graph) : Type 0 where
  -- the kind stays
  pub kind : new.kind ≡ old.kind
  -- the views that are in force stay
  pub views : new.views ≡ old.views
  -- the views after the change
  pub next : List (Option View)
  -- these are staged
  pub staged : new.staged ≡ Some next
  -- they are what the change makes of the views
  pub are_next : AreNext old c g next

-- what was staged is in force
pub record IsCommitted (old new : Meaning) : Type 0 where
  -- the kind stays
  pub kind : new.kind ≡ old.kind
  -- the views are those that were staged
  pub views : old.staged ≡ Some new.views
  -- nothing is staged any more
  pub unstaged : new.staged ≡ None

-- the kind and each view that is computed are as before
pub record KeepsViews (old new : Meaning) : Type 0 where
  -- the kind stays
  pub kind : new.kind ≡ old.kind
  -- the number of views stays
  pub count : length new.views ≡ length old.views
  -- a view that was computed is there, the same
  pub kept : (i : ℕ) (v : View) → view_at old.views i ≡ Some v → view_at new.views i ≡ Some v

-- each view is computed
pub record IsRefreshed (old new : Meaning) (g : Graph) : Type 0 where
  -- what was computed stays
  pub keeps : KeepsViews old new
  -- the views fit the graph, and nothing is staged
  pub ready : IsReady new g
  -- no view is left that isn't computed
  pub computed : (i : ℕ) → i < length new.views → IsSome (view_at new.views i)

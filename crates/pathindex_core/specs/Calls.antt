-- What the calls of an engine make of it: it is e before and f after.
use Rattle.std.specs.Prelude.{ℕ, ◌≡◌, ◌≢◌, ◌≤◌, ◌↔◌, ◌⊎◌, List, false, not, Result, Err, IfOk, OnOk, IsSome}
use Rattle.std.specs.List.{filter}
use Rattle.change_spec.specs.Steps.{Step, is_new}
use Rattle.px_base.specs.declared.allocation.Memory.{Memory}
use Rattle.graph_update.specs.declared.staging.Applied.{Applied}
use Rattle.graph_update.specs.StagedChanges.{applied_of}
use Rattle.graph_spec.specs.Shapes.{shape_of}
use Rattle.bisim_spec.specs.declared.kind.Kind.{Kind}
use Rattle.bisim_spec.specs.Partitions.{IsPartition}
use Rattle.bisim_spec.specs.Tests.{together}
use Rattle.bisim_spec.specs.IndexGraphs.{View}
use Rattle.index_api.specs.declared.kinds.Via.{Via}
use Rattle.index_api.specs.declared.kinds.Via.TheVariants.{Fb}
use Rattle.index_api.specs.Meanings.{KeepsViews}
use Rattle.index_api.specs.IndexKinds.{is_kind, is_kept, kinds_of}
use Rattle.extent_report.specs.PrintedLists.{ShowsIndex, ListsIndex, ListsSizes}
use Rattle.index_eval.specs.Exactness.{FitsVia}
use Rattle.pathindex_core.specs.declared.errors.AskError.{AskError}
use Rattle.pathindex_core.specs.declared.errors.AskError.TheVariants.{NoIndex}
use Rattle.pathindex_core.specs.Boxes.{IsFbComputed, via_view}
use Rattle.pathindex_core.specs.Engines.{EngineSeen, EachBecomes, graph_in, kept_in}
use Rattle.pathindex_core.specs.Updates.{IsUpdated, opened_after}
use Rattle.pathindex_core.specs.QueryAnswers.{counting_view}

-- An accepted change was made, and answered so.
pub record IsMade (c : List Step) (e f : EngineSeen) (answer : Applied) : Type 0 where
  -- the graph is the one after the change; the limits and the highest level stay
  pub opened : f.opened ≡ opened_after c e.opened
  -- each index is one of that graph; the partition of the 1-index moved by one step
  pub updated : EachBecomes (IsUpdated c (graph_in e.opened)) e.boxes f.boxes
  -- which kinds are kept stays
  pub kinds : kinds_of f.boxes ≡ kinds_of e.boxes
  -- a change whose steps are all idle leaves all as it was
  pub still : is_new c (graph_in e.opened) ≡ false → f ≡ e
  -- the numbers of its new nodes
  pub applied : answer ≡ applied_of c (graph_in e.opened)

-- The index of that kind, where one is kept, was taken out.
pub record IsForgotten (kind : Kind) (e f : EngineSeen) : Type 0 where
  -- the graph, the limits and the highest level stay
  pub opened : f.opened ≡ e.opened
  -- so do the other indexes
  pub boxes : f.boxes ≡ filter (λ m. not (is_kind kind m.kind)) e.boxes

-- The engine was asked something: at most it computes a view that wasn't computed.
pub record KeepsAllButViews (e f : EngineSeen) : Type 0 where
  -- the graph, the limits and the highest level stay
  pub opened : f.opened ≡ e.opened
  -- each view that is computed stays
  pub keeps : EachBecomes KeepsViews e.boxes f.boxes
  -- which indexes are kept, and the blocks of the 1-index, stay
  pub kept : kept_in f ≡ kept_in e

-- What a call of `extents` answers, computes and reads. The last two numbers count what was read of the graph, before
-- and after.
pub record IsListed (e f : EngineSeen) (via : Via) (result : Result (List ℕ) AskError) (before after : ℕ) : Type 0 where
  -- the text is the list of the blocks, each with its nodes
  pub text : IfOk result (ListsIndex (graph_in e.opened) (kept_in e) via)
  -- `NoIndex` comes exactly where the index isn't kept
  pub no_index : (result ≡ Err NoIndex) ↔ (is_kept (kept_in e) via ≡ false)
  -- unless an error comes, the view of the forward and backward index is computed afterwards, where that one is listed
  pub computed : via ≡ Fb → OnOk result (IsFbComputed f.boxes)
  -- where another one is listed, every index stays as it is
  pub others : via ≢ Fb → f.boxes ≡ e.boxes
  -- the whole graph is read at most once
  pub cost : after ≤ counting_view before (graph_in e.opened)
  -- nothing of it is read if another index is listed
  pub free : via ≢ Fb → after ≡ before
  -- nor where its view is computed already, or isn't kept
  pub still : IsFbComputed e.boxes → after ≡ before

-- What a call of `sizes` answers, computes and reads. The last two numbers count what was read of the graph, before and after.
pub record IsMeasured (e f : EngineSeen) (result : Result (List ℕ) Memory) (before after : ℕ) : Type 0 where
  -- the text is the list of the sizes
  pub text : IfOk result (ListsSizes (graph_in e.opened) (kept_in e))
  -- unless memory runs out, the view of the forward and backward index is computed afterwards, where that one is kept
  pub computed : OnOk result (IsFbComputed f.boxes)
  -- the whole graph is read at most once
  pub cost : after ≤ counting_view before (graph_in e.opened)
  -- nothing of it is read, where that index isn't kept or its view is computed already
  pub still : IsFbComputed e.boxes → after ≡ before

-- What a call of `ready` answers, computes and reads. The last two numbers count what was read of the graph, before and after.
pub record IsReadied (e f : EngineSeen) (via : Via) (result : Result (Unit {0}) AskError) (before after : ℕ) : Type 0 where
  -- unless an error comes, the view of the index is there afterwards
  pub there : OnOk result (IsSome (via_view f.boxes via))
  -- `NoIndex` comes exactly where the index isn't kept
  pub no_index : (result ≡ Err NoIndex) ↔ (is_kept (kept_in e) via ≡ false)
  -- if another index is asked for, every index stays
  pub others : via ≢ Fb → f.boxes ≡ e.boxes
  -- the whole graph is read at most once
  pub cost : after ≤ counting_view before (graph_in e.opened)
  -- nothing of it is read if another index is asked for
  pub free : via ≢ Fb → after ≡ before
  -- nor where its view is computed already, or isn't kept
  pub still : IsFbComputed e.boxes → after ≡ before

-- The view is that of an index that is kept: it fits the graph, exactly the nodes have a block, and two of them have the same one exactly
-- where the index relates them.
pub record IsViewIn (e : EngineSeen) (via : Via) (v : View) : Type 0 where
  -- the view fits the graph
  pub fits : FitsVia via (graph_in e.opened) v
  -- exactly the nodes have a block
  pub nodes : IsPartition (shape_of (graph_in e.opened)) v.block_of
  -- two nodes have the same block exactly where the index relates them
  pub shows : ShowsIndex (graph_in e.opened) (kept_in e) via (together v.block_of)

-- it is the graph itself, or an index that isn't kept, or it is the forward and backward index and its view isn't computed
abbrev pub LacksView : EngineSeen → Via → Type 0
LacksView e via = (is_kept (kept_in e) via ≡ false) ⊎ ((via ≡ Fb) × (¬ IsFbComputed e.boxes))

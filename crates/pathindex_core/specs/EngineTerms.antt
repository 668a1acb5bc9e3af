-- What clauses say of an engine, without naming its parts.
use Rattle.std.specs.Prelude.{◌≡◌, ℕ, List, Result, None, Some, IsSome, map}
use Rattle.graph_spec.specs.declared.limits.Limits.{Limits}
use Rattle.graph_spec.specs.declared.refusal.Refusal.{Refusal}
use Rattle.graph_spec.specs.Graphs.{Graph}
use Rattle.bisim_spec.specs.declared.kind.Kind.{Kind}
use Rattle.change_spec.specs.Steps.{Step}
use Rattle.index_api.specs.declared.kinds.Via.{Via}
use Rattle.index_api.specs.IndexKinds.{kinds_of}
use Rattle.index_api.specs.Meanings.{Meaning}
use Rattle.pathindex_core.specs.Boxes.{via_view}
use Rattle.pathindex_core.specs.Engines.{Opened, EngineOf, EngineSeen, graph_in}
use Rattle.pathindex_core.specs.Updates.{outcome_in}

-- the engine isn't open
abbrev pub IsUnopened : {B : Type 0} → EngineOf B → Type 0
IsUnopened e = e.opened ≡ None

-- it is open
abbrev pub IsOpened : {B : Type 0} → EngineOf B → Type 0
IsOpened e = IsSome e.opened

-- it is open with this graph, these limits, and this highest level of the families
abbrev pub IsOpenedWith : {B : Type 0} → EngineOf B → Graph → Limits → ℕ → Type 0
IsOpenedWith e g limits k = e.opened ≡ Some (record { graph = g; limits = limits; k = k })

-- the graph, the limits and the highest level stay
abbrev pub StaysOpened : {B : Type 0} → EngineOf B → EngineOf B → Type 0
StaysOpened e f = f.opened ≡ e.opened

-- the graph of an open engine
abbrev pub engine_graph : {B : Type 0} → EngineOf B → Graph
engine_graph e = graph_in e.opened

-- the kinds of the indexes that are kept
abbrev pub engine_kinds : {B : Type 0} → (B → Meaning) → EngineOf B → List Kind
engine_kinds meaning e = kinds_of (map meaning e.boxes)

-- the index is kept, and its view is computed
abbrev pub HasView : {B : Type 0} → (B → Meaning) → EngineOf B → Via → Type 0
HasView meaning e via = IsSome (via_view (map meaning e.boxes) via)

-- the graph once a change is made, or why it is refused
abbrev pub engine_outcome : {B : Type 0} → List Step → EngineOf B → Result Graph Refusal
engine_outcome c e = outcome_in c e.opened

-- ---- of an engine by what its indexes mean

-- it is open
abbrev pub IsSeenOpened : EngineSeen → Type 0
IsSeenOpened e = IsSome e.opened

-- this is what is open
abbrev pub IsSeenOpenedAs : EngineSeen → Opened → Type 0
IsSeenOpenedAs e o = e.opened ≡ Some o

-- its graph
abbrev pub seen_graph : EngineSeen → Graph
seen_graph e = graph_in e.opened

-- the graph once a change is made, or why it is refused
abbrev pub seen_outcome : List Step → EngineSeen → Result Graph Refusal
seen_outcome c e = outcome_in c e.opened

-- Graphs as contracts see them through `Digraph`. Where a test is named, the nodes that it keeps and the edges between
-- these are seen alone.
use Rattle.std.specs.Prelude.{ℕ, Bool, List, Option, IsTrue}
use Rattle.graph_spec.specs.Members.{has}
use Rattle.graph_spec.specs.Shapes.{Shape, shape_by}
use Rattle.label_graph.specs.declared.digraph.Digraph.{Ghosts as Digraph}
use Rattle.label_graph.specs.LabelTable.{LabelTable}
use Rattle.path_automaton.specs.declared.state.State.{State}
use Rattle.path_automaton.specs.Programs.{state_at}
use Rattle.path_automaton.specs.ProductSteps.{label_in, edge_in, AreEnds}
use Rattle.path_automaton.specs.NewMarks.{Passes, Next, NextOf, IsPlace, SucceedsOne, EntersAt, IsEntered, MarksOne}

-- the shape of a graph whose labels are numbers of the table
abbrev pub shape_through : {A : Type 0} → Digraph A → LabelTable → A → Shape
shape_through G labels g = shape_by labels.texts (G.span g) (G.label_at g) (G.edge g)

-- each is a node, or the place before all nodes
abbrev pub ArePlaces : {A : Type 0} → Digraph A → A → List ℕ → Type 0
ArePlaces G g places = (v : ℕ) → IsTrue (has places v) → IsPlace (G.span g) (G.label_at g) v

-- the nodes at which a word can end that is read from the state on after one of the places, rising
abbrev pub AreEndsFrom : {A : Type 0} → Digraph A → A → List State → ℕ → List ℕ → List ℕ → Type 0
AreEndsFrom G g states start places nodes = AreEnds (state_at states) (G.span g) (G.label_at g) (G.edge g) (λ v. IsTrue (has places v)) start nodes

-- the test keeps the node, and its label passes
abbrev pub PassesWithin : {A : Type 0} → Digraph A → A → (ℕ → Bool) → Option ℕ → ℕ → Type 0
PassesWithin G g keeps test c = Passes (label_in keeps (G.label_at g)) test c

-- it is one of the nodes, and passes
abbrev pub PassesAmong : {A : Type 0} → Digraph A → A → (ℕ → Bool) → Option ℕ → List ℕ → ℕ → Type 0
PassesAmong G g keeps test nodes c = IsTrue (has nodes c) × PassesWithin G g keeps test c

-- the node comes next to the place, and passes, over the nodes that the test keeps
abbrev pub NextWithin : {A : Type 0} → Digraph A → A → (ℕ → Bool) → Option ℕ → ℕ → ℕ → Type 0
NextWithin G g keeps test v c = Next (G.span g) (label_in keeps (G.label_at g)) (edge_in keeps (G.edge g)) test v c

-- the node comes next to one of the places, and passes, over the nodes that the test keeps
abbrev pub NextOfWithin : {A : Type 0} → Digraph A → A → (ℕ → Bool) → Option ℕ → List ℕ → ℕ → Type 0
NextOfWithin G g keeps test places c = NextOf (G.span g) (label_in keeps (G.label_at g)) (edge_in keeps (G.edge g)) test places c

-- a node that the test keeps, or the place before all nodes
abbrev pub IsPlaceWithin : {A : Type 0} → Digraph A → A → (ℕ → Bool) → ℕ → Type 0
IsPlaceWithin G g keeps v = IsPlace (G.span g) (label_in keeps (G.label_at g)) v

-- each is a node that the test keeps, or the place before all nodes
abbrev pub ArePlacesWithin : {A : Type 0} → Digraph A → A → (ℕ → Bool) → List ℕ → Type 0
ArePlacesWithin G g keeps places = (v : ℕ) → IsTrue (has places v) → IsPlaceWithin G g keeps v

-- over the nodes that the test keeps, s at c succeeds the state at one of the places, or one that it enters
abbrev pub MarksWithin : {A : Type 0} → Digraph A → A → (ℕ → Bool) → List State → ℕ → List ℕ → ℕ → ℕ → Type 0
MarksWithin G g keeps states state places s c =
    MarksOne (state_at states) (G.span g) (label_in keeps (G.label_at g)) (edge_in keeps (G.edge g)) state places s c

-- over the nodes that the test keeps, s at c succeeds the state at one of the places
abbrev pub SucceedsWithin : {A : Type 0} → Digraph A → A → (ℕ → Bool) → List State → ℕ → List ℕ → ℕ → ℕ → Type 0
SucceedsWithin G g keeps states state places s c =
    SucceedsOne (G.span g) (label_in keeps (G.label_at g)) (edge_in keeps (G.edge g)) (state_at states state) places s c

-- over the nodes that the test keeps, s at c is the state k at one of the places, or succeeds it there
abbrev pub EntersWithin : {A : Type 0} → Digraph A → A → (ℕ → Bool) → List State → ℕ → List ℕ → ℕ → ℕ → Type 0
EntersWithin G g keeps states k places s c =
    EntersAt (state_at states) (G.span g) (label_in keeps (G.label_at g)) (edge_in keeps (G.edge g)) k places s c

-- the state k is the end, or marked at the places, or what succeeds it over the nodes that the test keeps is marked
abbrev pub IsEnteredWithin : {A : Type 0} → Digraph A → A → (ℕ → Bool) → List State → ℕ → List ℕ → List (List Bool) → Type 0
IsEnteredWithin G g keeps states k places marks =
    IsEntered (state_at states) (G.span g) (label_in keeps (G.label_at g)) (edge_in keeps (G.edge g)) k places marks

-- the same as `AreEndsFrom`, over the nodes that the test keeps and the edges between them
abbrev pub AreEndsWithin : {A : Type 0} → Digraph A → A → (ℕ → Bool) → List State → ℕ → List ℕ → List ℕ → Type 0
AreEndsWithin G g keeps states start places nodes =
    AreEnds (state_at states) (G.span g) (label_in keeps (G.label_at g)) (edge_in keeps (G.edge g)) (λ v. IsTrue (has places v)) start nodes

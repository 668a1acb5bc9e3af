-- What an automaton reads along the nodes of a graph. A place is a node, or the graph's size, which stands for the place
-- before all nodes.
use Rattle.std.specs.Prelude.{ℕ, ◌≡◌, Bool, List, [], ◌∷◌, Option, None, Some, IsTrue}
use Rattle.label_graph.specs.declared.digraph.Digraph.{Ghosts as Digraph}
use Rattle.path_automaton.specs.declared.state.State.{State}
use Rattle.path_automaton.specs.declared.state.State.TheVariants.{End, Stuck, Any, Label, Fork}
use Rattle.path_automaton.specs.Programs.{state_at}
use Rattle.path_automaton.specs.ProductSteps.{leads}
use Rattle.path_automaton.specs.NewMarks.{Enters}

-- the state reads the label of the node, and goes on to the next one
abbrev pub Takes : (ℕ → Option ℕ) → Option State → ℕ → ℕ → Type 0
Takes label_at None c next = ⊥
Takes label_at (Some End) c next = ⊥
Takes label_at (Some Stuck) c next = ⊥
Takes label_at (Some (Any k)) c next = next ≡ k
Takes label_at (Some (Label l k)) c next = (next ≡ k) × (label_at c ≡ Some l)
Takes label_at (Some (Fork a b)) c next = ⊥

-- From the state at the place on the nodes are read, each of which comes next to the one before. Behind the last, which
-- is v, a word ends; if no node is left, the place itself is v.
pub data Way (at : ℕ → Option State) (size : ℕ) (label_at : ℕ → Option ℕ) (edge : ℕ → ℕ → Bool) (v : ℕ) : ℕ → ℕ → List ℕ → Type 0 where
  done : (s : ℕ) → at s ≡ Some End → Way at size label_at edge v s v []
  enter : (s k c : ℕ) (nodes : List ℕ) → Enters (at s) k → Way at size label_at edge v k c nodes → Way at size label_at edge v s c nodes
  take : (s k c x : ℕ) (nodes : List ℕ) → IsTrue (leads size label_at edge c x) → Takes label_at (at s) x k → Way at size label_at edge v k x nodes
      → Way at size label_at edge v s c (x ∷ nodes)

-- from the start before all nodes on the nodes are read, to the end v
abbrev pub WayThrough : {A : Type 0} → Digraph A → A → List State → ℕ → ℕ → List ℕ → Type 0
WayThrough G g states start v nodes = Way (state_at states) (G.span g) (G.label_at g) (G.edge g) v start (G.span g) nodes

-- Layers of pairs of a state and a place, by how many labels are read from there to the end.
use Rattle.std.specs.Prelude.{ℕ, ◌≡◌, ◌<◌, ◌≤◌, ◌+◌, ◌⊎◌, Bool, List, [], length, slice_index_or, Option, None, Some, ◌↔◌, IsTrue, IsSome, MatchOption}
use Rattle.graph_spec.specs.Members.{has}
use Rattle.graph_spec.specs.Shapes.{Shape}
use Rattle.px_base.specs.BitSets.{BitSet}
use Rattle.label_graph.specs.declared.digraph.Digraph.{Ghosts as Digraph}
use Rattle.path_automaton.specs.declared.state.State.{State}
use Rattle.path_automaton.specs.Programs.{state_at}
use Rattle.path_automaton.specs.declared.state.State.TheVariants.{End}
use Rattle.path_automaton.specs.ProductSteps.{leads}
use Rattle.path_automaton.specs.NewMarks.{Enters, IsPlace}
use Rattle.path_spec.specs.Trees.{Expr}
use Rattle.path_spec.specs.PathAnswers.{IsAnswer}
use Rattle.walk_spec.specs.LeastWalks.{Before, IsLeast}
use Rattle.walk_spec.specs.Ways.{Takes, Way, WayThrough}
use Rattle.state_sets.specs.StateSets.{ForkedTo, Behind}
use Rattle.walk_proof.specs.declared.marks.Pair.{Pair}
use Rattle.walk_proof.specs.Marking.{IsMarked, Among}

-- the pairs of a layer; none past the last
abbrev pub layer_at : List (List Pair) → ℕ → List Pair
layer_at layers i = slice_index_or layers i []

-- the state at the place leads to a listed pair by a label
abbrev pub IntoBy : (ℕ → Option State) → ℕ → (ℕ → Option ℕ) → (ℕ → ℕ → Bool) → List Pair → ℕ → ℕ → Type 0
IntoBy at size label_at edge last s c = (k : ℕ) × (x : ℕ) × Among last k x × Takes label_at (at s) x k × IsTrue (leads size label_at edge c x)

-- and by no label, once or more often
abbrev pub ForkedInto : (ℕ → Option State) → List Pair → ℕ → ℕ → Type 0
ForkedInto at layer s c = (k : ℕ) × Among layer k c × ForkedTo at s k

-- Each layer has the pairs from which the end is reached by as many labels, and by no fewer; and the marked pairs are
-- those of the layers.
pub record IsLayeredBy (at : ℕ → Option State) (size : ℕ) (label_at : ℕ → Option ℕ) (edge : ℕ → ℕ → Bool) (v : ℕ)
    (layers : List (List Pair)) (rows : List BitSet) : Type 0 where
  -- there is a layer
  pub some : 0 < length layers
  -- each marked pair is in a layer
  pub marked : (s c : ℕ) → IsMarked rows s c → (i : ℕ) × (i < length layers) × Among (layer_at layers i) s c
  -- each pair of a layer is marked
  pub marks : (i s c : ℕ) → i < length layers → Among (layer_at layers i) s c → IsMarked rows s c
  -- no pair is in two layers
  pub once : (i j s c : ℕ) → i < length layers → j < length layers → Among (layer_at layers i) s c → Among (layer_at layers j) s c → i ≡ j
  -- from each pair of layer i on, i nodes are read to the end
  pub sound : (i s c : ℕ) → i < length layers → Among (layer_at layers i) s c
      → (nodes : List ℕ) × (length nodes ≡ i) × Way at size label_at edge v s c nodes
  -- it is of a state and a place that there are
  pub place : (i s c : ℕ) → i < length layers → Among (layer_at layers i) s c → IsSome (at s) × IsPlace size label_at c
  -- each state where a word ends is in the first layer, at the end
  pub ends : (s : ℕ) → at s ≡ Some End → Among (layer_at layers 0) s v
  -- what leads to a pair without a label is in its layer or an earlier one
  pub forks : (i k s c : ℕ) → i < length layers → Among (layer_at layers i) k c → Enters (at s) k
      → (j : ℕ) × (j ≤ i) × Among (layer_at layers j) s c
  -- what leads to it by a label is at most one layer later
  pub reads : (i k s c x : ℕ) → i + 1 < length layers → Among (layer_at layers i) k x → Takes label_at (at s) x k
      → IsTrue (leads size label_at edge c x)
      → (j : ℕ) × (j ≤ i + 1) × Among (layer_at layers j) s c

-- it is read, and comes before each other list that is
pub record IsLeastWayBy (at : ℕ → Option State) (size : ℕ) (label_at : ℕ → Option ℕ) (edge : ℕ → ℕ → Bool) (v start : ℕ)
    (nodes : List ℕ) : Type 0 where
  -- the nodes are read from the state on
  pub way : Way at size label_at edge v start size nodes
  -- each other list that is read comes after it
  pub least : (others : List ℕ) → Way at size label_at edge v start size others → (others ≡ nodes) ⊎ Before nodes others

-- this state reads the label of the node and goes on to the given one, and its place leads to the node
abbrev pub ReadsOneBy : (ℕ → Option State) → ℕ → (ℕ → Option ℕ) → (ℕ → ℕ → Bool) → ℕ → ℕ → ℕ → ℕ → ℕ → Type 0
ReadsOneBy at size label_at edge source k x s c = (s ≡ source) × Takes label_at (at s) x k × IsTrue (leads size label_at edge c x)

-- from this state the given one is entered at the place
abbrev pub EntersOne : (ℕ → Option State) → ℕ → ℕ → ℕ → ℕ → ℕ → Type 0
EntersOne at source k x s c = (s ≡ source) × Enters (at s) k × (c ≡ x)

-- one of the states reads the label of the node and goes on to the given one, and its place leads to the node
abbrev pub ReadsFromBy : (ℕ → Option State) → ℕ → (ℕ → Option ℕ) → (ℕ → ℕ → Bool) → List ℕ → ℕ → ℕ → ℕ
    → ℕ → Type 0
ReadsFromBy at size label_at edge sources k x s c = IsTrue (has sources s) × Takes label_at (at s) x k × IsTrue (leads size label_at edge c x)

-- from one of the states the given one is entered at the place
abbrev pub EntersFrom : (ℕ → Option State) → List ℕ → ℕ → ℕ → ℕ → ℕ → Type 0
EntersFrom at sources k x s c = IsTrue (has sources s) × Enters (at s) k × (c ≡ x)

-- the pairs have so many states, and places below a width
abbrev pub AreInside : ℕ → ℕ → List Pair → Type 0
AreInside states width layer = (s c : ℕ) → Among layer s c → (s < states) × (c < width)

-- one of the states leads by the label of the node to a state that makes one of the pairs there
abbrev pub IsPassing : (ℕ → Option State) → (ℕ → Option ℕ) → (ℕ → ℕ → Type 0) → List ℕ → ℕ → Type 0
IsPassing at label_at Pairs states c = (k : ℕ) × Behind at label_at states c k × Pairs k c

-- and the node comes next to the place
abbrev pub IsCandidateBy : (ℕ → Option State) → ℕ → (ℕ → Option ℕ) → (ℕ → ℕ → Bool) → (ℕ → ℕ → Type 0)
    → List ℕ → ℕ → ℕ → Type 0
IsCandidateBy at size label_at edge Pairs states place c = IsTrue (leads size label_at edge place c) × IsPassing at label_at Pairs states c

-- the least number of the kind, or none where there is none
abbrev pub IsLeastOf : (ℕ → Type 0) → Option ℕ → Type 0
IsLeastOf P None = (c : ℕ) → P c → ⊥
IsLeastOf P (Some n) = P n × ((c : ℕ) → P c → n ≤ c)

-- the last layer has no pair
abbrev pub HasEmptyLast : List (List Pair) → Type 0
HasEmptyLast layers = (s c n : ℕ) → n + 1 ≡ length layers → Among (layer_at layers n) s c → ⊥

-- the pair stands in no layer before the last
abbrev pub IsFirst : List (List Pair) → ℕ → ℕ → Type 0
IsFirst layers s c = (i : ℕ) → i + 1 < length layers → Among (layer_at layers i) s c → ⊥

-- the same through a graph, with the states of an automaton
abbrev pub leads_through : {A : Type 0} → Digraph A → A → ℕ → ℕ → Bool
leads_through G g c x = leads (G.span g) (G.label_at g) (G.edge g) c x

-- the state s at the place c leads to a listed pair by a label
abbrev pub Into : {A : Type 0} → Digraph A → A → List State → List Pair → ℕ → ℕ → Type 0
Into G g states last s c = IntoBy (state_at states) (G.span g) (G.label_at g) (G.edge g) last s c

-- s is this state, reads the label of x and goes on to k, and its place c leads to x
abbrev pub ReadsOne : {A : Type 0} → Digraph A → A → List State → ℕ → ℕ → ℕ → ℕ → ℕ → Type 0
ReadsOne G g states source k x s c = ReadsOneBy (state_at states) (G.span g) (G.label_at g) (G.edge g) source k x s c

-- s is one of the states, reads the label of x and goes on to k, and its place c leads to x
abbrev pub ReadsFrom : {A : Type 0} → Digraph A → A → List State → List ℕ → ℕ → ℕ → ℕ → ℕ → Type 0
ReadsFrom G g states sources k x s c = ReadsFromBy (state_at states) (G.span g) (G.label_at g) (G.edge g) sources k x s c

-- each layer has the pairs from which v is reached by as many labels, and by no fewer; and the rows mark those of the layers
abbrev pub IsLayered : {A : Type 0} → Digraph A → A → List State → ℕ → List (List Pair) → List BitSet → Type 0
IsLayered G g states v layers rows = IsLayeredBy (state_at states) (G.span g) (G.label_at g) (G.edge g) v layers rows

-- c comes next to the place, and one of the states leads by its label to a state that makes one of the pairs there
abbrev pub IsCandidate : {A : Type 0} → Digraph A → A → List State → (ℕ → ℕ → Type 0) → List ℕ → ℕ → ℕ → Type 0
IsCandidate G g program Pairs states place c = IsCandidateBy (state_at program) (G.span g) (G.label_at g) (G.edge g) Pairs states place c

-- the nodes are read from the start to v, and come before each other list that is
abbrev pub IsLeastWay : {A : Type 0} → Digraph A → A → List State → ℕ → ℕ → List ℕ → Type 0
IsLeastWay G g states start v nodes = IsLeastWayBy (state_at states) (G.span g) (G.label_at g) (G.edge g) v start nodes

-- the state at the place leads to the node, whatever its label
abbrev pub LeadsAt : {A : Type 0} → Digraph A → A → ℕ → ℕ → ℕ → ℕ → Type 0
LeadsAt G g state node s c = (s ≡ state) × IsTrue (leads_through G g c node)

-- k is a state behind the label of c, from one of these states
abbrev pub BehindIn : {A : Type 0} → Digraph A → A → List State → List ℕ → ℕ → ℕ → Type 0
BehindIn G g program states c k = Behind (state_at program) (G.label_at g) states c k

-- it is one of the states, and leads by the label of the node to the next one
abbrev pub IsSource : {A : Type 0} → Digraph A → A → List State → List ℕ → ℕ → ℕ → ℕ → Type 0
IsSource G g program states node next s = IsTrue (has states s) × Takes (G.label_at g) (state_at program s) node next

-- a node, and one of the states leads by its label to a state that makes one of the pairs there
abbrev pub IsFirstNode : {A : Type 0} → Digraph A → A → List State → (ℕ → ℕ → Type 0) → List ℕ → ℕ → Type 0
IsFirstNode G g program Pairs states c = IsSome (G.label_at g c) × IsPassing (state_at program) (G.label_at g) Pairs states c

-- the least candidate next to the place, or none where there is none
abbrev pub IsLeastNext : {A : Type 0} → Digraph A → A → List State → (ℕ → ℕ → Type 0) → List ℕ → ℕ → Option ℕ → Type 0
IsLeastNext G g program Pairs states place found = IsLeastOf (λ c. IsCandidate G g program Pairs states place c) found

-- by either pairs the same nodes are candidates
abbrev pub HaveSameNext : {A : Type 0} → Digraph A → A → List State → (ℕ → ℕ → Type 0) → (ℕ → ℕ → Type 0) → List ℕ
    → ℕ → Type 0
HaveSameNext G g program Pairs Others states place = (c : ℕ)
    → IsCandidate G g program Pairs states place c ↔ IsCandidate G g program Others states place c

-- the least list that is read from the start, and none where none is
abbrev pub IsFoundWay : {A : Type 0} → Digraph A → A → List State → ℕ → ℕ → Option (List ℕ) → Type 0
IsFoundWay G g states start v found =
    MatchOption found ((nodes : List ℕ) → WayThrough G g states start v nodes → ⊥) (λ nodes. IsLeastWay G g states start v nodes)

-- the least walk that shows why v answers, and none where v is no answer
abbrev pub IsFound : Shape → Expr → ℕ → Option (List ℕ) → Type 0
IsFound s e v found = MatchOption found (IsAnswer s e v → ⊥) (λ walk. IsLeast s e v walk)

-- The steps of the search of the product of an automaton and a graph. A place is a node, or the number of nodes, which
-- stands for the place before all nodes.
use Rattle.std.specs.Prelude.{ℕ, ◌≡◌, ◌<◌, ◌⊎◌, ◌&&◌, Bool, if◌then◌else◌, nat_eq, List, Option, None, Some, is_some, IsTrue}
use Rattle.std.specs.List.Sorted.{IsStrictlyIncreasing}
use Rattle.graph_spec.specs.Members.{has}
use Rattle.path_automaton.specs.declared.state.State.{State}
use Rattle.path_automaton.specs.declared.state.State.TheVariants.{End, Stuck, Any, Label, Fork}

-- the labels of the nodes that a test keeps, and the edges between these
abbrev pub label_in : (ℕ → Bool) → (ℕ → Option ℕ) → ℕ → Option ℕ
label_in keeps label_at n = if keeps n then label_at n else None

-- an edge leads from u to v, and the test keeps both
abbrev pub edge_in : (ℕ → Bool) → (ℕ → ℕ → Bool) → ℕ → ℕ → Bool
edge_in keeps edge u v = keeps u && (keeps v && edge u v)

-- whether the node comes next: any one if the place is before all nodes, else a child
abbrev pub leads : ℕ → (ℕ → Option ℕ) → (ℕ → ℕ → Bool) → ℕ → ℕ → Bool
leads size label_at edge v c = if nat_eq v size then is_some (label_at c) else edge v c

-- this state at the place v is succeeded by the state s at the place c
abbrev pub Succeeds : ℕ → (ℕ → Option ℕ) → (ℕ → ℕ → Bool) → Option State → ℕ → ℕ → ℕ → Type 0
Succeeds size label_at edge None v s c = ⊥
Succeeds size label_at edge (Some End) v s c = ⊥
Succeeds size label_at edge (Some Stuck) v s c = ⊥
Succeeds size label_at edge (Some (Any next)) v s c = (s ≡ next) × IsTrue (leads size label_at edge v c)
Succeeds size label_at edge (Some (Label l next)) v s c = (s ≡ next) × IsTrue (leads size label_at edge v c) × (label_at c ≡ Some l)
Succeeds size label_at edge (Some (Fork a b)) v s c = ((s ≡ a) ⊎ (s ≡ b)) × (c ≡ v)

-- what is reached from the first state at some first place
pub data Reached (at : ℕ → Option State) (size : ℕ) (label_at : ℕ → Option ℕ) (edge : ℕ → ℕ → Bool) (First : ℕ → Type 0) (start : ℕ) : ℕ → ℕ → Type 0 where
  begin : (v : ℕ) → First v → Reached at size label_at edge First start start v
  onward : (s v s2 v2 : ℕ) → Reached at size label_at edge First start s v → Succeeds size label_at edge (at s) v s2 v2
      → Reached at size label_at edge First start s2 v2

-- the nodes at which a word can end, rising
pub record AreEnds (at : ℕ → Option State) (size : ℕ) (label_at : ℕ → Option ℕ) (edge : ℕ → ℕ → Bool) (First : ℕ → Type 0) (start : ℕ) (nodes : List ℕ)
    : Type 0 where
  -- from the least number to the greatest, with no repeats
  pub rising : IsStrictlyIncreasing nodes
  -- each listed node is reached in an accepting state
  pub sound : (v : ℕ) → IsTrue (has nodes v) → (s : ℕ) × (at s ≡ Some End) × (v < size) × Reached at size label_at edge First start s v
  -- each node that is so reached is listed
  pub complete : (s v : ℕ) → at s ≡ Some End → v < size → Reached at size label_at edge First start s v → IsTrue (has nodes v)

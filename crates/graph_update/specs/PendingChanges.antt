-- A graph, and a change that is to be made in it.
use Rattle.std.specs.Prelude.{◌≡◌, ℕ, ◌+◌, ◌<◌, ◌≤◌, ◌^◌, ◌&&◌, not, nat_lt, Bool, true, List, length, take, refl}
use Rattle.std.specs.Coded.{Coded, code_by, coded×}
use Rattle.bisim_spec.specs.declared.sides.Side.{Side}
use Rattle.bisim_spec.specs.declared.sides.Side.TheVariants.{Parents, Children}
use Rattle.graph_spec.specs.Graphs.{Graph, IsGraph, graph_code}
use Rattle.change_spec.specs.Steps.{Step, after}
use Rattle.change_spec.specs.Codes.{steps_code}
use Rattle.change_spec.specs.Lost.{lost_onto, lost_from}
use Rattle.label_graph.specs.LabelTable.{LabelTable, entries}
use Rattle.graph_steps.specs.NamedSteps.{DropsLast}
use Rattle.graph_steps.specs.NewChanges.{IsNew}
use Rattle.graph_update.specs.NamedSteps.{TellsDrops}

-- a graph, and the steps of a change that isn't made in it yet
pub record Pending : Type 0 where
  -- the graph as it is
  pub before : Graph
  pub change : List Step

-- both are stored, the graph first
abbrev pub pending_code : Coded Pending
pending_code =
    code_by (Graph × List Step) (coded× graph_code steps_code) (λ p. (p.before, p.change)) (λ p. record { before = p.0; change = p.1 }) (λ _. refl)

-- the graph as the change will leave it
abbrev pub graph_after : Pending → Graph
graph_after p = after p.change p.before

-- how many edges that join the node to neighbours on this side are taken away
abbrev pub lost_at : Side → Pending → ℕ → ℕ
lost_at Parents p n = lost_onto p.before (graph_after p) n
lost_at Children p n = lost_from p.before (graph_after p) n

-- the number is allocated by steps that lead from one graph to the other
abbrev pub is_added : Graph → Graph → ℕ → Bool
is_added g g2 n = not (nat_lt n (length g.allocated)) && nat_lt n (length g2.allocated)

-- The labels that will be seen are the first entries of the table: those that the steps bring lie ahead, in their order.
pub record AreAhead (c : List Step) (g : Graph) (table : LabelTable) : Type 0 where
  -- how many labels will have been seen
  pub count : ℕ
  -- they are the first of the table
  pub seen : (after c g).seen ≡ take count (entries table)

-- With an entry that was among the first ones as many are labels, and with the next one more.
abbrev pub IsShownPast : ℕ → ℕ → ℕ → Type 0
IsShownPast number shown more = (number < shown → more ≡ shown) × (shown ≤ number → (number ≡ shown) × (more ≡ shown + 1))

-- What a pending change keeps: it is new to the graph, no step of it names a node that one before it takes away, the table has the
-- graph's labels, the graph is sound, so many numbers will be allocated, where no step may drop a node none does, and the labels to come
-- are ahead where they are said to be.
pub record IsPending (c : List Step) (g : Graph) (table : LabelTable) (created : ℕ) (drops ahead : Bool) : Type 0 where
  -- the change is accepted within some limits, and changes the graph
  pub new : IsNew c g
  -- no step behind names a node that was taken away
  pub last : DropsLast c
  -- the table has the labels of the graph
  pub seen : table.texts ≡ g.seen
  -- the graph before is a graph
  pub sound : IsGraph g
  -- so many numbers are allocated once the change is made
  pub created_is : created ≡ length (after c g).allocated
  -- no more than 2^30 numbers
  pub few : created ≤ 2 ^ 30
  -- whether some step takes a node away
  pub stays : TellsDrops c drops
  -- what is looked up ahead is as in the graph after
  pub ahead_are : ahead ≡ true → AreAhead c g table

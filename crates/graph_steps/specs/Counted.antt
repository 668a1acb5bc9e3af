-- How much there is in a graph, and what a step comes to.
use Rattle.std.specs.Prelude.{◌≡◌, ℕ, ◌+◌, ◌≤◌, not, IsTrue, List, length, take, slice_get, Some, Result, Ok, Err}
use Rattle.std.specs.FinSet as set
use Rattle.graph_spec.specs.declared.limits.Limits.{Limits}
use Rattle.graph_spec.specs.declared.refusal.Refusal.{Refusal}
use Rattle.graph_spec.specs.Graphs.{Graph}
use Rattle.change_spec.specs.Steps.{Step, touches, made, is_idle, apply_step, after}
use Rattle.change_spec.specs.Places.{CanMake}
use Rattle.graph_steps.specs.StepLists.{step_of, steps_of}
use Rattle.graph_steps.specs.declared.counting.Counts.{Counts}
use Rattle.graph_steps.specs.declared.counting.Exact.{Exact}
use Rattle.graph_steps.specs.declared.counting.Taken.{Taken}
use Rattle.graph_steps.specs.declared.changes.Step.{Step as Asked}

-- how many edges begin or end at the node
abbrev pub touching : Graph → ℕ → ℕ
touching g u = set.len (set.retain g.edges (touches u))

-- no fewer than there are, and just as many where they are counted
pub record AreCounts (exact : Exact) (c : Counts) (g : Graph) : Type 0 where
  -- the number of node numbers
  pub created : c.created ≡ length g.allocated
  -- no fewer edges than there are
  pub edges : set.len g.edges ≤ c.edges
  -- no fewer labels than were seen
  pub labels : length g.seen ≤ c.labels
  -- just as many edges, where they are counted
  pub edges_are : IsTrue exact.edges → c.edges ≡ set.len g.edges
  -- just as many labels, where they are counted
  pub labels_are : IsTrue exact.labels → c.labels ≡ length g.seen

-- the step is accepted
pub record IsTakenFrom (exact : Exact) (c : Counts) (s : Step) (g : Graph) (limits : Limits) (t : Taken) : Type 0 where
  -- the step is accepted
  pub accepted : apply_step s g limits ≡ Ok (made s g)
  -- what it names is there
  pub can : CanMake s g
  -- it alters the graph exactly if it isn't idle
  pub alters : t.alters ≡ not (is_idle s g)
  -- the counts are those of the graph that it leaves
  pub counts : AreCounts exact t.counts (made s g)
  -- of edges and of labels at most one more is counted
  pub edges_more : t.counts.edges ≤ c.edges + 1
  pub labels_more : t.counts.labels ≤ c.labels + 1

-- what a step comes to
abbrev pub StepComes : Exact → Counts → Step → Graph → Limits → Result Taken Refusal → Type 0
StepComes exact c s g limits (Err r) = apply_step s g limits ≡ Err r
StepComes exact c s g limits (Ok t) = IsTakenFrom exact c s g limits t

-- what the step at a place comes to, behind those before it
abbrev pub ComesAt : Exact → Counts → List Asked → ℕ → Graph → Limits → Result Taken Refusal → Type 0
ComesAt exact c ss i g limits r = (s : Asked) → slice_get ss i ≡ Some s → StepComes exact c (step_of s) (after (steps_of (take i ss)) g) limits r

-- Changes that alter a graph.
use Rattle.std.specs.Prelude.{◌≡◌, ◌^◌, List, IsTrue, Ok}
use Rattle.graph_spec.specs.declared.limits.Limits.{Limits}
use Rattle.graph_spec.specs.Graphs.{Graph}
use Rattle.change_spec.specs.Steps.{Step, apply, after, is_new}

-- within some limits the change is accepted, and some step of it isn't idle
pub record IsNew (c : List Step) (g : Graph) : Type 0 where
  -- some step changes the graph
  pub new : IsTrue (is_new c g)
  -- limits that the change keeps
  pub limits : Limits
  -- the change is accepted within them
  pub accepted : apply c g limits ≡ Ok (after c g)

-- no limits on a graph are higher
pub record AreHighest (limits : Limits) : Type 0 where
  -- 2^30 numbers of nodes
  pub nodes : limits.nodes ≡ 2 ^ 30
  -- 2^30 edges
  pub edges : limits.edges ≡ 2 ^ 30
  -- 2^30 labels
  pub labels : limits.labels ≡ 2 ^ 30

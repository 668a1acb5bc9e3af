-- The neighbours of a node on one side of it, in the graph that steps will leave.
use Rattle.std.specs.Prelude.{◌≡◌, ℕ, not, Bool, true, false, List, [], ◌∷◌, ◌++◌, Option, None, Some, nat_eq, drop, if◌then◌else◌}
use Rattle.std.specs.List.{filter}
use Rattle.bisim_spec.specs.declared.sides.Side.{Side}
use Rattle.bisim_spec.specs.declared.sides.Side.TheVariants.{Parents, Children}
use Rattle.graph_spec.specs.Graphs.{Graph, has_edge}
use Rattle.change_spec.specs.Steps.{Step, node, link, unlink, drop as drop_step, relabel}
use Rattle.change_spec.specs.Named.{is_dropped}
use Rattle.change_spec.specs.EdgesAfter.{concerns, concerned, new_parents, new_children, edge_after}

-- an edge joins n to m, which is its neighbour on this side
abbrev pub leads_between : Side → Graph → ℕ → ℕ → Bool
leads_between Parents g n m = has_edge g m n
leads_between Children g n m = has_edge g n m

-- the step concerns that edge
abbrev pub concerns_at : Side → Step → ℕ → ℕ → Bool
concerns_at Parents s n m = concerns m n s
concerns_at Children s n m = concerns n m s

-- some step does so
abbrev pub concerned_at : Side → List Step → ℕ → ℕ → Bool
concerned_at Parents c n m = concerned c m n
concerned_at Children c n m = concerned c n m

-- the neighbour that an edge from u to v joins to n
abbrev pub other_end : Side → ℕ → ℕ → ℕ → Option ℕ
other_end Parents n u v = if nat_eq n v then Some u else None
other_end Children n u v = if nat_eq n u then Some v else None

-- the neighbour that the step links to n
abbrev pub linked_at : Side → Step → ℕ → Option ℕ
linked_at side (node t) n = None
linked_at side (link u v) n = other_end side n u v
linked_at side (unlink u v) n = None
linked_at side (drop_step u) n = None
linked_at side (relabel u t) n = None

-- that neighbour, unless a later step concerns the edge
abbrev pub unless_later : Side → List Step → ℕ → Option ℕ → Option ℕ
unless_later side rest n None = None
unless_later side rest n (Some m) = if concerned_at side rest n m then None else Some m

-- the number, if there is one, in front of others
abbrev pub with_first : Option ℕ → List ℕ → List ℕ
with_first None ms = ms
with_first (Some m) ms = m ∷ ms

-- the neighbours that come with links
abbrev pub new_at : Side → List Step → ℕ → List ℕ
new_at Parents c n = new_parents c n
new_at Children c n = new_children c n

-- whether the edge comes with links
abbrev pub comes_at : Side → List Step → ℕ → ℕ → Bool
comes_at Parents c n m = edge_after c m n false
comes_at Children c n m = edge_after c n m false

-- whether n hasn't that neighbour
abbrev pub is_fresh : Side → Graph → ℕ → ℕ → Bool
is_fresh side g n m = not (leads_between side g n m)

-- of these neighbours those that no step concerns
abbrev pub kept_at : Side → List Step → ℕ → List ℕ → List ℕ
kept_at side c n items = filter (λ m. not (concerned_at side c n m)) items

-- the neighbours that n will have, where it has these
abbrev pub shown_at : Side → List Step → ℕ → List ℕ → List ℕ
shown_at side c n items = kept_at side c n items ++ new_at side c n

-- the first of the neighbours that no step concerns, and those behind it
pub record IsFirstKept (side : Side) (c : List Step) (n m : ℕ) (items rest : List ℕ) : Type 0 where
  -- m is the first that stays, and those behind it that stay are those of the rest
  pub is : kept_at side c n items ≡ m ∷ kept_at side c n rest

-- the first of the neighbours that come with the steps from a place on, and the place behind its step
pub record IsFirstAdded (side : Side) (c : List Step) (n m from next : ℕ) : Type 0 where
  -- m comes first, and the others that come are those of the steps behind it
  pub is : new_at side (drop from c) n ≡ m ∷ new_at side (drop next c) n

-- a node that goes has no neighbours to show
abbrev pub AreShown : List Step → ℕ → List ℕ → Type 0
AreShown c n items = is_dropped c n ≡ true → items ≡ []

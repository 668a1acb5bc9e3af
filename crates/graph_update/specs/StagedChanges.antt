-- A change that is staged, and what it does once it is made.
use Rattle.std.specs.Prelude.{◌≡◌, ℕ, ◌-◌, ◌<◌, ◌^◌, true, false, ⊤, List, [], ◌∷◌, length, map, if◌then◌else◌, IsTrue}
use Rattle.std.specs.FinSet as set
use Rattle.graph_spec.specs.Graphs.{Graph, is_live, has_edge, is_seen}
use Rattle.graph_spec.specs.Changes.{with_edge, without_edge}
use Rattle.change_spec.specs.Steps.{Step, node, link, unlink, drop, relabel, made, is_idle, after, without_node, labelled}
use Rattle.label_graph.specs.ReservedGraphs.{ReservedGraph, FitsLabels, FirstFitsLabels, AddsReserved, without_reserved_pair, without_reserved_relabel, has_pair}
use Rattle.graph_update.specs.declared.staging.Applied.{Applied}
use Rattle.graph_update.specs.declared.staging.Plan.{Plan}
use Rattle.graph_update.specs.declared.staging.Plan.TheVariants.{Node, Link, Unlink, Drop, Relabel}

-- the steps that aren't idle at their place
abbrev pub effective : List Step → Graph → List Step
effective [] g = []
effective (s ∷ ss) g = if is_idle s g then effective ss (made s g) else s ∷ effective ss (made s g)

-- the labels for new nodes that steps need, the edges, and the labels for nodes that there are, in their order
abbrev pub needed_labels : List Step → List (List ℕ)
needed_labels [] = []
needed_labels (node t ∷ ss) = t ∷ needed_labels ss
needed_labels (link u v ∷ ss) = needed_labels ss
needed_labels (unlink u v ∷ ss) = needed_labels ss
needed_labels (drop u ∷ ss) = needed_labels ss
needed_labels (relabel u t ∷ ss) = needed_labels ss

-- the edges that links need, in their order
abbrev pub needed_pairs : List Step → List (ℕ × ℕ)
needed_pairs [] = []
needed_pairs (node t ∷ ss) = needed_pairs ss
needed_pairs (link u v ∷ ss) = (u, v) ∷ needed_pairs ss
needed_pairs (unlink u v ∷ ss) = needed_pairs ss
needed_pairs (drop u ∷ ss) = needed_pairs ss
needed_pairs (relabel u t ∷ ss) = needed_pairs ss

-- the labels that relabelled nodes need, in the order of the steps
abbrev pub needed_relabels : List Step → List (List ℕ)
needed_relabels [] = []
needed_relabels (node t ∷ ss) = needed_relabels ss
needed_relabels (link u v ∷ ss) = needed_relabels ss
needed_relabels (unlink u v ∷ ss) = needed_relabels ss
needed_relabels (drop u ∷ ss) = needed_relabels ss
needed_relabels (relabel u t ∷ ss) = t ∷ needed_relabels ss

-- how a step is planned; a new node's label is the next one that the graph has reserved
abbrev pub plan_of : Step → Plan
plan_of (node t) = Node
plan_of (link u v) = Link u v
plan_of (unlink u v) = Unlink u v
plan_of (drop u) = Drop u
plan_of (relabel u t) = Relabel u t

-- the change is staged in the graph
pub record IsStaged (c : List Step) (held : ReservedGraph) (plans : List Plan) : Type 0 where
  -- a plan for each step that isn't idle, in their order
  pub plans_are : plans ≡ map plan_of (effective c held.graph)
  -- capacity is reserved for the labels that come
  pub labels : held.reserved.labels ≡ needed_labels (effective c held.graph)
  -- capacity is reserved for the edges that come
  pub pairs : held.reserved.pairs ≡ needed_pairs (effective c held.graph)
  -- capacity is reserved for the nodes that get another label
  pub relabels : held.reserved.relabels ≡ needed_relabels (effective c held.graph)

-- the step can be made within some limits, and isn't idle
abbrev pub HasEffect : Step → Graph → Type 0
HasEffect (node t) g = (length g.allocated < 2 ^ 30) × FitsLabels g t
HasEffect (link u v) g = IsTrue (is_live g u) × IsTrue (is_live g v) × (has_edge g u v ≡ false) × (set.len g.edges < 2 ^ 30)
HasEffect (unlink u v) g = has_edge g u v ≡ true
HasEffect (drop u) g = IsTrue (is_live g u)
HasEffect (relabel u t) g = IsTrue (is_live g u) × FitsLabels g t

-- so for each of the steps, at its place
abbrev pub HaveEffect : List Step → Graph → Type 0
HaveEffect [] g = ⊤
HaveEffect (s ∷ ss) g = HasEffect s g × HaveEffect ss (made s g)

-- these are the plans of the steps, what they need is reserved, and no more, and none of them is idle
pub record ArePlanned (steps : List Step) (held : ReservedGraph) (plans : List Plan) : Type 0 where
  -- there is a plan for each step, in their order
  pub plans_are : plans ≡ map plan_of steps
  -- just the labels of new nodes are reserved
  pub labels : held.reserved.labels ≡ needed_labels steps
  -- just the edges that the steps add
  pub pairs : held.reserved.pairs ≡ needed_pairs steps
  -- just the labels that nodes get instead of theirs
  pub relabels : held.reserved.relabels ≡ needed_relabels steps
  -- no step is idle at its place
  pub effect : HaveEffect steps held.graph

-- what is planned can be made with what is reserved
abbrev pub CanBeMade : Plan → ReservedGraph → Type 0
CanBeMade Node held = (0 < length held.reserved.labels) × (length held.graph.allocated < 2 ^ 30) × FirstFitsLabels held
CanBeMade (Link u v) held = IsTrue (has_pair held.reserved.pairs u v) × HasEffect (link u v) held.graph
CanBeMade (Unlink u v) held = has_edge held.graph u v ≡ true
CanBeMade (Drop u) held = IsTrue (is_live held.graph u)
CanBeMade (Relabel u t) held = IsTrue (is_seen held.reserved.relabels t) × HasEffect (relabel u t) held.graph

-- what is made of it
abbrev pub IsMadeBy : Plan → ReservedGraph → ReservedGraph → Type 0
IsMadeBy Node old new = AddsReserved old new
IsMadeBy (Link u v) old new = new ≡ record { graph = with_edge old.graph u v; reserved = without_reserved_pair old.reserved u v }
IsMadeBy (Unlink u v) old new = new ≡ record { graph = without_edge old.graph u v; reserved = old.reserved }
IsMadeBy (Drop u) old new = new ≡ record { graph = without_node old.graph u; reserved = old.reserved }
IsMadeBy (Relabel u t) old new = new ≡ record { graph = labelled old.graph u t; reserved = without_reserved_relabel old.reserved t }

-- edges at the node are gone, and all else is as it was
pub record LosesEdgesAt (u : ℕ) (old new : ReservedGraph) : Type 0 where
  -- without the node the graphs are the same
  pub rest : without_node new.graph u ≡ without_node old.graph u
  -- the node is live exactly if it was
  pub live : is_live new.graph u ≡ is_live old.graph u
  -- what is reserved stays
  pub reserved : new.reserved ≡ old.reserved

-- the numbers that it allocates
abbrev pub applied_of : List Step → Graph → Applied
applied_of c g = record { first = length g.allocated; added = length (after c g).allocated - length g.allocated }

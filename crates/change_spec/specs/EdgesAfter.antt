-- The neighbours of a node in the graph that steps will leave, by those that it has and the steps.
use Rattle.std.specs.Prelude.{ℕ, ◌||◌, ◌&&◌, not, Bool, false, List, [], ◌∷◌, ◌++◌, nat_eq, if◌then◌else◌}
use Rattle.std.specs.List.{list_any, filter}
use Rattle.change_spec.specs.Steps.{Step, node, link, unlink, drop, relabel}

-- the step names the edge, or takes one of its ends away
abbrev pub concerns : ℕ → ℕ → Step → Bool
concerns p n (node t) = false
concerns p n (link u v) = nat_eq p u && nat_eq n v
concerns p n (unlink u v) = nat_eq p u && nat_eq n v
concerns p n (drop u) = nat_eq p u || nat_eq n u
concerns p n (relabel u t) = false

-- some step does so
abbrev pub concerned : List Step → ℕ → ℕ → Bool
concerned c p n = list_any (concerns p n) c

-- whether the edge is there behind the step, where it was or wasn't
abbrev pub edge_by : Step → ℕ → ℕ → Bool → Bool
edge_by (node t) p n b = b
edge_by (link u v) p n b = (nat_eq p u && nat_eq n v) || b
edge_by (unlink u v) p n b = not (nat_eq p u && nat_eq n v) && b
edge_by (drop u) p n b = b && not (nat_eq p u || nat_eq n u)
edge_by (relabel u t) p n b = b

-- the same behind steps
abbrev pub edge_after : List Step → ℕ → ℕ → Bool → Bool
edge_after [] p n b = b
edge_after (s ∷ ss) p n b = edge_after ss p n (edge_by s p n b)

-- where the step links a node to n, that node, unless a later step concerns the edge
abbrev pub added_onto : Step → List Step → ℕ → List ℕ
added_onto (node t) rest n = []
added_onto (link u v) rest n = if nat_eq n v && not (concerned rest u n) then u ∷ [] else []
added_onto (unlink u v) rest n = []
added_onto (drop u) rest n = []
added_onto (relabel u t) rest n = []

-- the parents that come with links
abbrev pub new_parents : List Step → ℕ → List ℕ
new_parents [] n = []
new_parents (s ∷ ss) n = added_onto s ss n ++ new_parents ss n

-- the parents that n will have, where it has these
abbrev pub shown_parents : List Step → ℕ → List ℕ → List ℕ
shown_parents c n parents = filter (λ p. not (concerned c p n)) parents ++ new_parents c n

-- the same for children
abbrev pub added_from : Step → List Step → ℕ → List ℕ
added_from (node t) rest n = []
added_from (link u v) rest n = if nat_eq n u && not (concerned rest n v) then v ∷ [] else []
added_from (unlink u v) rest n = []
added_from (drop u) rest n = []
added_from (relabel u t) rest n = []

-- the children that come with links
abbrev pub new_children : List Step → ℕ → List ℕ
new_children [] n = []
new_children (s ∷ ss) n = added_from s ss n ++ new_children ss n

-- the children that n will have, where it has these
abbrev pub shown_children : List Step → ℕ → List ℕ → List ℕ
shown_children c n children = filter (λ m. not (concerned c n m)) children ++ new_children c n

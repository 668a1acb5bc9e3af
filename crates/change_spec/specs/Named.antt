-- The nodes that steps name.
use Rattle.std.specs.Prelude.{ℕ, ◌||◌, Bool, false, List, nat_eq}
use Rattle.std.specs.List.{list_any}
use Rattle.change_spec.specs.Steps.{Step, node, link, unlink, drop, relabel}

-- the node is an end of the step's edge, or the node that the step is about; that of a new node is not named
abbrev pub names : ℕ → Step → Bool
names n (node t) = false
names n (link u v) = nat_eq n u || nat_eq n v
names n (unlink u v) = nat_eq n u || nat_eq n v
names n (drop u) = nat_eq n u
names n (relabel u t) = nat_eq n u

-- some step names the node
abbrev pub is_named : List Step → ℕ → Bool
is_named c n = list_any (names n) c

-- the step takes the node away
abbrev pub takes_away : Step → ℕ → Bool
takes_away (node t) n = false
takes_away (link u v) n = false
takes_away (unlink u v) n = false
takes_away (drop u) n = nat_eq n u
takes_away (relabel u t) n = false

-- some step does so
abbrev pub is_dropped : List Step → ℕ → Bool
is_dropped c n = list_any (λ s. takes_away s n) c

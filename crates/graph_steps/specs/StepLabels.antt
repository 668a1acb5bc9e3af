-- The labels that steps give nodes.
use Rattle.std.specs.Prelude.{ℕ, nat_eq, if◌then◌else◌, List, [], ◌∷◌, Option, Some, None}
use Rattle.std.specs.Option.{option_or}
use Rattle.change_spec.specs.Steps.{Step, node, link, unlink, drop, relabel}

-- the label that the step gives the node that it adds
abbrev pub label_added : Step → Option (List ℕ)
label_added (node t) = Some t
label_added (link u v) = None
label_added (unlink u v) = None
label_added (drop u) = None
label_added (relabel u t) = None

-- the label that a step gives the node n by its number
abbrev pub relabel_by : Step → ℕ → Option (List ℕ)
relabel_by (node t) n = None
relabel_by (link u v) n = None
relabel_by (unlink u v) n = None
relabel_by (drop u) n = None
relabel_by (relabel u t) n = if nat_eq n u then Some t else None

-- the label that the last of the steps gives it so
abbrev pub relabelled : List Step → ℕ → Option (List ℕ)
relabelled [] n = None
relabelled (s ∷ ss) n = option_or (relabelled ss n) (relabel_by s n)

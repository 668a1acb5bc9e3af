-- Steps that give labels.
use Rattle.std.specs.Prelude.{List, [], ◌∷◌, ⊤}
use Rattle.change_spec.specs.Steps.{Step, node, link, unlink, drop, relabel}
use Rattle.path_query.specs.Labels.{SpellsLabel}

-- the label that the step gives to a node, if it does, is spelled as it is
abbrev pub GivesLabel : Step → Type 0
GivesLabel (node t) = SpellsLabel t t
GivesLabel (link u v) = ⊤
GivesLabel (unlink u v) = ⊤
GivesLabel (drop u) = ⊤
GivesLabel (relabel u t) = SpellsLabel t t

-- the labels that the steps give are each spelled as they are
abbrev pub GiveLabels : List Step → Type 0
GiveLabels [] = ⊤
GiveLabels (s ∷ steps) = GivesLabel s × GiveLabels steps

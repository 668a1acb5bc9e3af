-- Steps that give labels leave a graph whose nodes have labels.
use Rattle.std.proofs.Common.{◌≡◌, ℕ, zero, suc, List, [], ◌∷◌, ◌++◌, Option, Some, None, subst}
use Rattle.std.specs.Prelude.{option_and_then, slice_get, slice_set}
use Rattle.graph_spec.specs.Graphs.{Graph}
use Rattle.change_spec.specs.Steps.{Step, node, link, unlink, drop, relabel, made, after}
use Rattle.path_query.specs.Labels.{SpellsLabel}
use Rattle.index_file.specs.WholeFiles.{HasLabels}
use Rattle.index_file.specs.LabelledSteps.{GivesLabel, GiveLabels}

-- each text in the list is spelled as it is
abbrev AreLabels : List (Option (List ℕ)) → Type 0
AreLabels allocated = (n : ℕ) (t : List ℕ) → option_and_then (λ l. l) (slice_get allocated n) ≡ Some t → SpellsLabel t t

abbrev IsLabel : Option (List ℕ) → Type 0
IsLabel o = (t : List ℕ) → o ≡ Some t → SpellsLabel t t

some_text : (t u : List ℕ) → Some t ≡ Some u → t ≡ u
some_text t u e = cc

is_label : (t : List ℕ) → SpellsLabel t t → IsLabel (Some t)
is_label t h u e = subst (λ x. SpellsLabel x x) (some_text t u e) h

no_label : IsLabel None
no_label t e = absurd (cc)

none_there : AreLabels []
none_there n t e = absurd (let z : None ≡ Some t = e in cc)

rest_are : (o : Option (List ℕ)) (allocated : List (Option (List ℕ))) → AreLabels (o ∷ allocated) → AreLabels allocated
rest_are o allocated h n t e = h (suc n) t e

labels_put : (allocated : List (Option (List ℕ))) (o : Option (List ℕ)) → AreLabels allocated → IsLabel o → AreLabels (allocated ++ o ∷ [])
labels_put [] o h k zero t e = k t e
labels_put [] o h k (suc n) t e = none_there n t e
labels_put (x ∷ allocated) o h k zero t e = h zero t e
labels_put (x ∷ allocated) o h k (suc n) t e = labels_put allocated o (rest_are x allocated h) k n t e

labels_set : (allocated : List (Option (List ℕ))) (u : ℕ) (o : Option (List ℕ)) → AreLabels allocated → IsLabel o → AreLabels (slice_set allocated u o)
labels_set [] u o h k n t e = h n t e
labels_set (x ∷ allocated) zero o h k zero t e = k t e
labels_set (x ∷ allocated) zero o h k (suc n) t e = h (suc n) t e
labels_set (x ∷ allocated) (suc u) o h k zero t e = h zero t e
labels_set (x ∷ allocated) (suc u) o h k (suc n) t e = labels_set allocated u o (rest_are x allocated h) k n t e

pub step_labels : (s : Step) (g : Graph) → HasLabels g → GivesLabel s → HasLabels (made s g)
step_labels (node t) g h k = labels_put g.allocated (Some t) h (is_label t k)
step_labels (link u v) g h k = h
step_labels (unlink u v) g h k = h
step_labels (drop u) g h k = labels_set g.allocated u None h no_label
step_labels (relabel u t) g h k = labels_set g.allocated u (Some t) h (is_label t k)

pub steps_labels : (steps : List Step) (g : Graph) → HasLabels g → GiveLabels steps → HasLabels (after steps g)
steps_labels [] g h k = h
steps_labels (s ∷ steps) g h k = steps_labels steps (made s g) (step_labels s g h k.0) k.1

-- The steps that the code's values stand for.
use Rattle.std.specs.Prelude.{List, map}
use Rattle.change_spec.specs.Steps.{Step, node, link, unlink, drop, relabel}
use Rattle.graph_steps.specs.declared.changes.Step.{Step as Asked}
use Rattle.graph_steps.specs.declared.changes.Step.TheVariants.{Node, Link, Unlink, Drop, Relabel}

-- the step that a value of the code stands for
abbrev pub step_of : Asked → Step
step_of (Node t) = node t
step_of (Link u v) = link u v
step_of (Unlink u v) = unlink u v
step_of (Drop u) = drop u
step_of (Relabel u t) = relabel u t

-- the step that each value stands for
abbrev pub steps_of : List Asked → List Step
steps_of ss = map step_of ss

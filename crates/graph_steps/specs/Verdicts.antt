-- What a verdict says of a change.
use Rattle.std.specs.Prelude.{◌≡◌, false, IsTrue, List, Result, Ok, Err}
use Rattle.graph_spec.specs.declared.limits.Limits.{Limits}
use Rattle.graph_spec.specs.declared.refusal.Refusal.{Refusal}
use Rattle.graph_spec.specs.Graphs.{Graph}
use Rattle.change_spec.specs.Steps.{Step, apply, after, is_new}
use Rattle.graph_steps.specs.declared.changes.Verdict.{Verdict}
use Rattle.graph_steps.specs.declared.changes.Verdict.TheVariants.{New, Same}

-- A change is refused just as it can't be applied. It is the same where no step alters the graph, and then it leaves the graph as it
-- is; each other change that can be applied is new, and leaves the graph that its steps make.
abbrev pub Judges : List Step → Graph → Limits → Result Verdict Refusal → Type 0
Judges c g limits (Err r) = apply c g limits ≡ Err r
Judges c g limits (Ok Same) = (is_new c g ≡ false) × (apply c g limits ≡ Ok g)
Judges c g limits (Ok New) = IsTrue (is_new c g) × (apply c g limits ≡ Ok (after c g))

-- What the clauses of the calls say together.
use Rattle.std.proofs.Common.{◌≡◌, List, Option, Some, Ok, Err, Result, IfOk, refl, ap, sym, subst, ◌∙◌}
use Rattle.std.specs.Result.{result_ok}
use Rattle.graph_spec.specs.declared.refusal.Refusal.{Refusal}
use Rattle.graph_spec.specs.Graphs.{Graph}
use Rattle.change_spec.specs.Steps.{Step, apply}
use Rattle.pathindex_core.specs.Engines.{Opened, graph_in}
use Rattle.pathindex_core.specs.Updates.{graph_or, outcome_in, opened_after}

-- what a call promises of a value that is kept of it, or of its success
pub of_kept : {X E : Type 0} (r : Result X E) (o : Option X) (x : X) (P : X → Type 0) → o ≡ result_ok r → o ≡ Some x → IfOk r P → P x
of_kept (Ok y) o x P e q p = (let same : y ≡ x = cc in subst P same p)
of_kept (Err y) o x P e q p = cc

pub not_refused : {X E : Type 0} (r : Result X E) (o : Option X) (x : X) (y : E) → o ≡ result_ok r → o ≡ Some x → r ≡ Err y → ⊥
not_refused (Ok z) o x y e q f = cc
not_refused (Err z) o x y e q f = cc

accepted : (o : Result Graph Refusal) (g : Graph) → ((r : Refusal) → o ≡ Err r → ⊥) → o ≡ Ok (graph_or g o)
accepted (Ok h) g f = refl
accepted (Err r) g f = absurd (f r refl)

-- an engine that is open with a graph has the graph after a change that isn't refused
pub after_change : (c : List Step) (o : Opened) (before after : Option Opened) → before ≡ Some o → after ≡ opened_after c before
    → ((r : Refusal) → outcome_in c before ≡ Err r → ⊥) → apply c o.graph o.limits ≡ Ok (graph_in after)
after_change c o before after b a f =
    accepted (apply c o.graph o.limits) o.graph (λ r e. f r (ap (outcome_in c) b ∙ e)) ∙ ap (λ x. Ok (graph_in x)) (sym (a ∙ ap (opened_after c) b))

use Rattle.std.proofs.Common.{◌≡◌, ℕ, List, subst}
use Rattle.graph_spec.specs.declared.limits.Limits.{Limits}
use Rattle.graph_spec.specs.Graphs.{Graph}
use Rattle.graph_load.specs.Loads.{Outcome, Loads, loaded, syntax, limit}
use Rattle.graph_load.specs.LoadSteps.{LoadsObservable}
use Rattle.command_line.specs.FormValues.{settings_value}
use Rattle.pathindex_run.proofs.CompleteLemmas.{refused_completes}
use Rattle.pathindex_run.proofs.entry.run_loaded.Goals as goal

no_syntax : (n : ℕ) (g : Graph) → syntax n ≡ loaded g → ⊥
no_syntax n g e = cc

no_limit : (n : ℕ) (g : Graph) → limit n ≡ loaded g → ⊥
no_limit n g e = cc

abbrev OneOutcome : Limits → Type 0
OneOutcome m = (text : List ℕ) (a b : Outcome) → Loads m text a → Loads m text b → a ≡ b

pub returns-in-Err-Syntax-clause-complete : goal.returns-in-Err-Syntax-clause-complete
returns-in-Err-Syntax-clause-complete g c =
    let files = g.H.Shelf.files c.args.shelf.now in
    let name = c.args.name.now in
    let line = c.in-Err-Syntax.line in
    refused_completes (settings_value c.args.settings.now) name files (syntax line) _ _ _ _ _ c.requires.named
    (subst (λ (m : Limits). LoadsObservable m files name (syntax line)) c.program.ensures (rw c.in-Err-Syntax.field-0-is at c.in-Err-Syntax.ensures.refused))
    (no_syntax line) (subst OneOutcome c.program.ensures c.load_named.ensures.once)

pub returns-in-Err-Limit-clause-complete : goal.returns-in-Err-Limit-clause-complete
returns-in-Err-Limit-clause-complete g c =
    let files = g.H.Shelf.files c.args.shelf.now in
    let name = c.args.name.now in
    let line = c.in-Err-Limit.line in
    refused_completes (settings_value c.args.settings.now) name files (limit line) _ _ _ _ _ c.requires.named
    (subst (λ (m : Limits). LoadsObservable m files name (limit line)) c.program.ensures (rw c.in-Err-Limit.field-0-is at c.in-Err-Limit.ensures.refused))
    (no_limit line) (subst OneOutcome c.program.ensures c.load_named.ensures.once)

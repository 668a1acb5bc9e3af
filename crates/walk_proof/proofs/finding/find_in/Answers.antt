use Rattle.std.proofs.Common.{◌≡◌, ℕ, length, ap, subst}
use Rattle.std.specs.Prelude.{slice_get, Some}
use Rattle.path_automaton.specs.declared.state.State.TheVariants.{End}
use Rattle.path_expr.specs.ExprAutomata.{Stands}
use Rattle.path_expr.proofs.ProductSearch.{IsTabled}
use Rattle.walk_proof.proofs.Found.{walk_found}
use Rattle.walk_proof.proofs.finding.find_in.Goals as goal

pub returns : goal.returns
returns g c =
    let texts = c.args.labels.now.texts in
    let at = λ (k : ℕ). slice_get c.compile_expr.new.program k in
    let size = g.G.Digraph.span c.args.g.now in
    let label_at = g.G.Digraph.label_at c.args.g.now in
    let edge = g.G.Digraph.edge c.args.g.now in
    let start = c.in_ok-start.start in
    let low = length c.in_ok-program.program in
    let tabled : IsTabled texts size label_at edge =
    record { distinct = c.len-known.ensures.distinct; labelled = c.requires.labelled; below = g.met.G.Digraph.below c.args.g.now; ends = g.met.G.Digraph.ends c.args.g.now } in
    let end : at 0 ≡ Some End = c.in_ok-start.ensures.grows.kept 0 End (ap (λ p. slice_get p 0) c.in_ok-program.ensures) in
    let stands = subst (λ e. Stands texts at e low start 0) c.tree.ensures c.in_ok-start.ensures.stands in
    let below = g.met.G.Digraph.below c.args.g.now c.args.v c.requires.node in
    walk_found texts at size label_at edge c.args.v tabled c.args.e.now low start stands end below c.in_ok-found.found c.in_ok-found.ensures

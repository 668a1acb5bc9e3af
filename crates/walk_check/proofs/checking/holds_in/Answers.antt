use Rattle.std.proofs.Common.{◌≡◌, ℕ, length, sym, ap, ◌∙◌, subst, refl, true≢false}
use Rattle.std.specs.Prelude.{slice_get, Some}
use Rattle.graph_spec.specs.Shapes.{shape_by}
use Rattle.path_automaton.specs.Programs.{state_at}
use Rattle.path_automaton.specs.declared.state.State.TheVariants.{End}
use Rattle.path_expr.specs.ExprAutomata.{Stands}
use Rattle.path_expr.proofs.ProductSearch.{IsTabled}
use Rattle.walk_spec.proofs.WayLaws.{shows_way, way_shows}
use Rattle.walk_check.proofs.Ends.{end_node}
use Rattle.walk_check.proofs.checking.holds_in.Goals as goal

pub returns-then-not-is_node : goal.returns-then-not-is_node
returns-then-not-is_node g c =
    let texts = c.args.labels.now.texts in
    let label_at = g.G.Digraph.label_at c.args.g.now in
    let shape = shape_by texts (g.G.Digraph.span c.args.g.now) label_at (g.G.Digraph.edge c.args.g.now) in (
      λ e. absurd (true≢false (sym e)),
      λ s. absurd (true≢false (sym (end_node texts label_at shape c.args.e.now c.args.v c.args.walk.now refl s) ∙ sym c.is_node.ensures ∙ c.if-not-is_node.true)),
    )

pub returns : goal.returns
returns g c =
    let texts = c.args.labels.now.texts in
    let at = state_at c.compile_expr.new.program in
    let size = g.G.Digraph.span c.args.g.now in
    let label_at = g.G.Digraph.label_at c.args.g.now in
    let edge = g.G.Digraph.edge c.args.g.now in
    let start = c.in_ok-start.start in
    let low = length c.in_ok-program.program in
    let tabled : IsTabled texts size label_at edge =
    record { distinct = c.len-known.ensures.distinct; labelled = c.requires; below = g.met.G.Digraph.below c.args.g.now; ends = g.met.G.Digraph.ends c.args.g.now } in
    let end : at 0 ≡ Some End = c.in_ok-start.ensures.grows.kept 0 End (ap (λ p. slice_get p 0) c.in_ok-program.ensures) in
    let stands = subst (λ e. Stands texts at e low start 0) c.tree.ensures c.in_ok-start.ensures.stands in
    let below = g.met.G.Digraph.below c.args.g.now c.args.v (sym c.is_node.ensures ∙ c.if-not-is_node.false) in
    let nodes = c.args.walk.now in
    let both = c.in_ok-right.ensures in (
      λ e. way_shows texts at size label_at edge c.args.v tabled c.args.e.now low start stands end nodes below (both.0 e),
      λ s. both.1 (shows_way texts at size label_at edge c.args.v tabled c.args.e.now low start stands end nodes s),
    )

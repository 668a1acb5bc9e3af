use Rattle.std.proofs.Common.{ℕ, [], ◌∷◌, ap, length, IsTrue}
use Rattle.graph_spec.specs.Members.{has}
use Rattle.path_expr.proofs.SingleSlots.{one_there, one_only}
use Rattle.std.specs.Prelude.{slice_get}
use Rattle.std.proofs.lemmas.Result.{IfOk-weaker}
use Rattle.path_automaton.specs.ProductSteps.{label_in, edge_in, AreEnds}
use Rattle.path_automaton.specs.declared.state.State.TheVariants.{End}
use Rattle.path_spec.specs.Trimmed.{trimmed}
use Rattle.path_spec.specs.PartialGraphs.{part_of}
use Rattle.graph_spec.specs.Shapes.{shape_by}
use Rattle.path_spec.proofs.TrimmedLaws.{answers_trimmed}
use Rattle.path_expr.proofs.ProductSearch.{IsTabled, ends_answers}
use Rattle.path_expr.proofs.Within.{answers_of_part, tabled_in}
use Rattle.path_expr.proofs.answers.eval_within.Goals as goal

pub returns-clause-answers : goal.returns-clause-answers
returns-clause-answers g c =
    let span = g.G.Digraph.span c.args.g.now in
    let label_at = g.G.Digraph.label_at c.args.g.now in
    let edge = g.G.Digraph.edge c.args.g.now in
    let keeps = has c.args.set.now.members in
    let texts = c.args.labels.now.texts in
    let at = λ (k : ℕ). slice_get c.compile_trimmed.new.program k in
    let First : ℕ → Type 0 = λ v. IsTrue (has (c.size.result ∷ []) v) in
    let start = c.in_ok-start.start in
    let made = c.in_ok-program.ensures in
    let end = c.in_ok-start.ensures.grows.kept 0 End (ap (λ p. slice_get p 0) made) in
    let tabled : IsTabled texts span label_at edge = record { distinct = c.len-known.ensures.distinct; labelled = c.requires.labelled; below = g.met.G.Digraph.below c.args.g.now; ends = g.met.G.Digraph.ends c.args.g.now } in
    IfOk-weaker c.search_within.result (λ b. AreEnds at span (label_in keeps label_at) (edge_in keeps edge) First start b.members) _
    (λ b h. (answers_trimmed (part_of keeps (shape_by texts span label_at edge)) c.args.expr.now b.members).0
    (answers_of_part texts span label_at edge keeps (trimmed c.args.expr.now) b.members
    (ends_answers texts at span (label_in keeps label_at) (edge_in keeps edge) (tabled_in texts span label_at edge keeps tabled)
    (trimmed c.args.expr.now) (length c.in_ok-program.program) start c.in_ok-start.ensures.stands end First (one_there span c.size.result (c.size.ensures)) (λ v f. one_only span c.size.result v c.size.ensures f) b.members h))) c.search_within.ensures.ends

use Rattle.std.proofs.Common.{◌≡◌, ◌∙◌, ap, sym, true, Ok, Err}
use Rattle.std.specs.Prelude.{◌||◌, nat_lt, if◌then◌else◌}
use Rattle.std.specs.FinSet as set
use Rattle.std.proofs.lemmas.Bool.{and_from}
use Rattle.graph_spec.specs.declared.refusal.Refusal.TheVariants.{NoNode, Limit}
use Rattle.graph_spec.specs.Graphs.{is_live, has_edge}
use Rattle.graph_spec.specs.Changes.{edge_fits, with_edge}
use Rattle.change_spec.specs.Steps.{link}
use Rattle.change_spec.proofs.SingleSteps.{one_step}
use Rattle.graph_steps.proofs.GrownCounts.{edges_same}
use Rattle.graph_load.proofs.limited_changes.link_live.Goals as goal

pub returns-then-edge_before-clause-made : goal.returns-then-edge_before-clause-made
returns-then-edge_before-clause-made c =
    let g = c.args.graph.now.graph in
    let u = c.args.from in
    let v = c.args.to in
    let limits = c.args.limits.now in
    let there : has_edge g u v ≡ true = sym c.edge_before.ensures ∙ c.if-edge_before.true in
    one_step (link u v) g limits
    ∙ ap (λ b. if b then (if edge_fits g limits u v then Ok (with_edge g u v) else Err Limit) else Err NoNode) (and_from (is_live g u) (is_live g v) c.requires.from c.requires.onto)
    ∙ ap (λ b. if b || nat_lt (set.len g.edges) limits.edges then Ok (with_edge g u v) else Err Limit) there
    ∙ ap (λ es. Ok (record g { edges = es })) (edges_same g.edges (u, v) there)

use Rattle.std.proofs.Common.{length, sym, subst}
use Rattle.std.specs.Prelude.{IsSome}
use Rattle.graph_spec.specs.Shapes.{shape_by}
use Rattle.label_graph.specs.GraphViews.{label_number, is_linked}
use Rattle.walk_proof.specs.Layering.{IsFound}
use Rattle.walk_proof.proofs.Found.{live_numbered}
use Rattle.walk_proof.proofs.finding.find.Goals as goal

pub find_in-requires-clause-node : goal.find_in-requires-clause-node
find_in-requires-clause-node g c =
    subst (λ w. IsSome (label_number w c.args.v)) (sym c.view-view.ensures.view) (live_numbered c.args.g.now.graph c.args.v c.view-view.ensures.shape c.requires)

pub returns-clause-found : goal.returns-clause-found
returns-clause-found g c =
    let e = c.args.e.now in
    let v = c.args.v in
    let graph = c.args.g.now.graph in
    let found = c.in_ok-found.found in
    let texts = c.labels.result.now.texts in
    subst (λ s. IsFound s e v found) c.view-view.ensures.shape
    (subst (λ t. IsFound (shape_by t (length graph.allocated) (label_number graph) (is_linked graph)) e v found) c.labels.ensures.seen
    (subst (λ w. IsFound (shape_by texts (length w.allocated) (label_number w) (is_linked w)) e v found) c.view-view.ensures.view c.in_ok-found.ensures))

use Rattle.std.proofs.Common.{Ok, ap, ◌∙◌, []}
use Rattle.graph_spec.specs.Graphs.{Graph}
use Rattle.bisim_spec.specs.Supports.{edges_between}
use Rattle.label_graph.specs.ReservedGraphs.{ReservedGraph}
use Rattle.quotient_moves.proofs.tests.check_new.Goals as goal

pub check_move-requires-clause-new : goal.check_move-requires-clause-new
check_move-requires-clause-new g c = c.judge.ensures.new (c.in-Ok-New.is ∙ ap Ok c.in-Ok-New.field-0-is)

pub check_move-requires-clause-supports : goal.check_move-requires-clause-supports
check_move-requires-clause-supports g c = λ a b.
    c.in_ok-base.ensures.supports a b
    ∙ ap (λ (h : Graph). edges_between h.edges [] a b) (c.view.ensures.view ∙ ap (λ (r : ReservedGraph). r.graph) c.in_ok-graph.ensures)

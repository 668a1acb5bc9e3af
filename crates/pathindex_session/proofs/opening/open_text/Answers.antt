use Rattle.std.proofs.Common.{subst}
use Rattle.graph_load.specs.Loads.{Loads, LoadsNamed, loaded}
use Rattle.pathindex_session.proofs.opening.open_text.Goals as goal

pub returns-in-Ok-open_graph-clause-opened : goal.returns-in-Ok-open_graph-clause-opened
returns-in-Ok-open_graph-clause-opened c = record {
  graph = c.in-Ok.graph.graph;
  loads = subst (λ l. Loads l c.args.text.now (loaded c.in-Ok.graph.graph)) c.program.ensures c.in-Ok.ensures.loaded;
  named = subst (λ l. LoadsNamed l c.args.text.now c.in-Ok.graph.graph c.in-Ok.names.names) c.program.ensures c.in-Ok.ensures.named;
  opens = c.in-Ok-open_graph.ensures.opened;
}

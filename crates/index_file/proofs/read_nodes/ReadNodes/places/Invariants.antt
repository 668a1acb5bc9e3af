use Rattle.index_file.specs.SavedGraphs.{ArePlacesBelow}
use Rattle.index_file.proofs.read_nodes.ReadNodes.places.Given as goal

abbrev pub invariant-loop-n : goal.invariant-loop-n
invariant-loop-n l = record { placed : ArePlacesBelow l.self l.n l.live l.places.items }

use Rattle.std.proofs.lemmas.Result.{on_ok_weaker}
use Rattle.graph_spec.specs.Shapes.{shape_of}
use Rattle.bisim_levels.proofs.WrittenSides.{lists_parents}
use Rattle.graph_update.specs.PendingChanges.{graph_after}
use Rattle.level_update.proofs.keys.read_neighbours.Goals as goal

pub returns-in-Parents-clause-lists : goal.returns-in-Parents-clause-lists
returns-in-Parents-clause-lists g c =
    rw c.in-Parents.is (on_ok_weaker c.read_parents.result (λ h. lists_parents (shape_of (graph_after c.args.after.now)) c.args.n _ _ h) c.read_parents.ensures.parents)

pub returns-in-Parents-clause-cost : goal.returns-in-Parents-clause-cost
returns-in-Parents-clause-cost g c = rw c.in-Parents.is c.read_parents.ensures.cost

pub returns-in-Both-clause-lists : goal.returns-in-Both-clause-lists
returns-in-Both-clause-lists g c = rw c.in-Both.is c.read_both.ensures.lists

pub returns-in-Both-clause-cost : goal.returns-in-Both-clause-cost
returns-in-Both-clause-cost g c = rw c.in-Both.is c.read_both.ensures.cost

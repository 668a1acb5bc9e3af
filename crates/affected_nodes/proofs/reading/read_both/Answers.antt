use Rattle.std.proofs.Common.{ℕ, Bool}
use Rattle.graph_spec.specs.Graphs.{has_edge}
use Rattle.graph_spec.specs.Members.{has}
use Rattle.graph_update.specs.PendingChanges.{graph_after}
use Rattle.affected_nodes.proofs.MetChildren.{prefix_more, met_both}
use Rattle.affected_nodes.proofs.reading.read_both.Goals as goal

pub returns-clause-prefix : goal.returns-clause-prefix
returns-clause-prefix g c =
    prefix_more c.args.met.now.keys c.read_children.new.met.keys c.read_parents.new.met.keys c.in_ok-read_children.ensures.prefix c.in_ok-read_parents.ensures.prefix

pub returns-clause-has : goal.returns-clause-has
returns-clause-has g c = λ m.
    let after = graph_after c.args.after.now in
    met_both (has c.args.met.now.keys m) (has c.read_children.new.met.keys m) (has c.read_parents.new.met.keys m) (has_edge after c.args.n m) (has_edge after m c.args.n)
    (c.in_ok-read_children.ensures.has m) (c.in_ok-read_parents.ensures.has m)

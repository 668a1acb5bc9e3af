use Rattle.std.proofs.Common.{◌+◌, arith, drop}
use Rattle.graph_update.specs.ShownNeighbours.{concerned_at}
use Rattle.graph_update.proofs.NamedParts.{neighbour_next, node_next, passed_there}
use Rattle.graph_update.proofs.neighbours.concerned_at_either.Goals as goal

pub steps-init : goal.steps-init
steps-init c = record {
  node = node_next c.args.side c.args.change.now c.args.n c.args.m c.args.from c.args.from c.next_naming-i.result (omega arith) c.requires.both c.next_naming-i.ensures;
  low = c.next_naming-i.ensures.ordered;
  neighbour = neighbour_next c.args.side c.args.change.now c.args.n c.args.m c.args.from c.args.first c.requires.stays c.requires.first;
}

pub steps-preserved : goal.steps-preserved
steps-preserved c =
    let whole = c.args.change.now in
    let i = c.steps.i in
    let j = c.steps.j in
    let next_i = c.next_naming-i-in-steps.result in
    let next_j = c.next_naming-j.result in
    let low = c.steps.invariant.low in
    let further = c.next_naming-i-in-steps.ensures.ordered in
    record {
      node = passed_there (concerned_at c.args.side (drop i whole) c.args.n c.args.m) c.is_concerned_by.result (concerned_at c.args.side (drop (i + 1) whole) c.args.n c.args.m)
          (concerned_at c.args.side (drop next_i whole) c.args.n c.args.m) (concerned_at c.args.side (drop c.args.from whole) c.args.n c.args.m) c.is_concerned_by.ensures c.if-is_concerned_by.false
          (node_next c.args.side whole c.args.n c.args.m c.args.from (i + 1) next_i (omega (arith, low)) c.requires.both c.next_naming-i-in-steps.ensures) c.steps.invariant.node;
      low = omega (arith, low, further);
      neighbour = passed_there (concerned_at c.args.side (drop j whole) c.args.n c.args.m) c.is_concerned_by-in-steps.result (concerned_at c.args.side (drop (j + 1) whole) c.args.n c.args.m)
          (concerned_at c.args.side (drop next_j whole) c.args.n c.args.m) (concerned_at c.args.side (drop c.args.from whole) c.args.n c.args.m) c.is_concerned_by-in-steps.ensures c.if-is_concerned_by-2.false
          (neighbour_next c.args.side whole c.args.n c.args.m (j + 1) next_j c.requires.stays c.next_naming-j.ensures) c.steps.invariant.neighbour;
    }

use Rattle.std.proofs.Common.{◌∙◌, sym, arith, drop}
use Rattle.graph_update.specs.ShownNeighbours.{concerned_at}
use Rattle.graph_update.proofs.NamedParts.{neighbour_next, none_there, gone_concerned}
use Rattle.graph_update.proofs.neighbours.concerned_from.Goals as goal

pub returns-then-first-step_count : goal.returns-then-first-step_count
returns-then-first-step_count c =
    let len = c.step_count.ensures in
    let past = c.if-first-step_count.true in
    none_there c.args.side c.args.change.now c.args.n c.args.m c.next_naming-first.result (concerned_at c.args.side (drop c.args.from c.args.change.now) c.args.n c.args.m) (omega (arith, len, past))
    (neighbour_next c.args.side c.args.change.now c.args.n c.args.m c.args.from c.next_naming-first.result c.requires.stays c.next_naming-first.ensures)

pub returns-then-drops_from : goal.returns-then-drops_from
returns-then-drops_from c = sym (gone_concerned c.args.side (drop c.args.from c.args.change.now) c.args.n c.args.m (sym c.drops_from.ensures ∙ c.if-drops_from.true))

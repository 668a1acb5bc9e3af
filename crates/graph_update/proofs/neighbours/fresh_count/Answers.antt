use Rattle.std.proofs.Common.{◌∙◌, ◌+◌, ap, arith, drop}
use Rattle.change_spec.specs.Counts.{tally}
use Rattle.graph_update.specs.ShownNeighbours.{new_at, is_fresh}
use Rattle.graph_update.proofs.NamedParts.{new_next}
use Rattle.graph_update.proofs.ShownLaws.{first_fresh, fresh_few}
use Rattle.graph_update.proofs.neighbours.fresh_count.Goals as goal

pub loop-i-init : goal.loop-i-init
loop-i-init c =
    let same = ap (tally (is_fresh c.args.side c.args.graph.now.graph c.args.n)) (new_next c.args.side c.args.change.now c.args.n 0 c.next_naming-i.result c.next_naming-i.ensures) in
    record { count = omega (arith, same); few = omega arith }

pub loop-i-preserved : goal.loop-i-preserved
loop-i-preserved c =
    let fresh = is_fresh c.args.side c.args.graph.now.graph c.args.n in
    let place = c.loop-i.i + 1 in
    let so_far = c.loop-i.invariant.count in
    let few = c.loop-i.invariant.few in
    let more = ap (tally fresh) c.linked.ensures ∙ first_fresh fresh c.linked.result (new_at c.args.side (drop place c.args.change.now) c.args.n) in
    let same = ap (tally fresh) (new_next c.args.side c.args.change.now c.args.n place c.next_naming-i-in-loop-i.result c.next_naming-i-in-loop-i.ensures) in
    let one = c.count_fresh-count.ensures in
    let most = fresh_few fresh c.linked.result in
    let further = c.next_naming-i-in-loop-i.ensures.ordered in
    record { count = omega (arith, so_far, more, same, one); few = omega (arith, few, one, most, further) }

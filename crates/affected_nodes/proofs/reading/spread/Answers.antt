use Rattle.std.proofs.Common.{◌≡◌, ◌+◌, ◌<◌, length, arith, ap, sym, ◌∙◌}
use Rattle.std.proofs.lemmas.List.Sums.{sum_by-take-le}
use Rattle.std.specs.Prelude.{slice_index}
use Rattle.graph_spec.specs.Shapes.{shape_of}
use Rattle.graph_update.specs.PendingChanges.{graph_after}
use Rattle.bisim_spec.specs.SidedLevels.{spread}
use Rattle.affected_nodes.specs.ReadCosts.{spread_cost}
use Rattle.affected_nodes.proofs.MetChildren.{spread_more, stays_at, spread_longer}
use Rattle.one_spec.proofs.Sums.{sum_next}
use Rattle.affected_nodes.proofs.reading.spread.Goals as goal

pub node_at-n-requires : goal.node_at-n-requires
node_at-n-requires g c =
    let longer = spread_longer (spread c.args.sides (shape_of (graph_after c.args.after.now))) c.args.met.now.keys c.loop-i.met.keys c.loop-i.i c.loop-i.invariant.spread in
    let below = c.loop-i-test.true in
    let len = c.len-i-end.ensures.len in
    omega (arith, longer, below, len)

pub returns-in_err-read_around-clause-cost : goal.returns-in_err-read_around-clause-cost
returns-in_err-read_around-clause-cost g c =
    let keys = c.args.met.now.keys in
    let below : c.loop-i.i < length keys = (let t = c.loop-i-test.true in let len = c.len-i-end.ensures.len in omega (arith, t, len)) in
    let is : slice_index keys c.loop-i.i ≡ c.node_at-n.result = sym (stays_at keys c.loop-i.met.keys c.loop-i.i c.loop-i.invariant.spread.prefix below) ∙ c.node_at-n.ensures in
    let next = sum_next (spread_cost c.args.sides c.args.after.now) keys c.loop-i.i 0 below in
    let part = sum_by-take-le (spread_cost c.args.sides c.args.after.now) keys (c.loop-i.i + 1) in
    let so_far = c.loop-i.invariant.cost in
    let cost = c.read_around.ensures.cost in
    let same = ap (spread_cost c.args.sides c.args.after.now) is in
    omega (arith, next, part, so_far, cost, same)

pub loop-i-preserved : goal.loop-i-preserved
loop-i-preserved g c =
    let keys = c.args.met.now.keys in
    let below : c.loop-i.i < length keys = (let t = c.loop-i-test.true in let len = c.len-i-end.ensures.len in omega (arith, t, len)) in
    let is : slice_index keys c.loop-i.i ≡ c.node_at-n.result = sym (stays_at keys c.loop-i.met.keys c.loop-i.i c.loop-i.invariant.spread.prefix below) ∙ c.node_at-n.ensures in
    let next = sum_next (spread_cost c.args.sides c.args.after.now) keys c.loop-i.i 0 below in
    let so_far = c.loop-i.invariant.cost in
    let cost = c.read_around.ensures.cost in
    let same = ap (spread_cost c.args.sides c.args.after.now) is in
    record {
      spread = spread_more (spread c.args.sides (shape_of (graph_after c.args.after.now))) keys c.loop-i.met.keys c.read_around.new.met.keys c.loop-i.i c.node_at-n.result c.loop-i.invariant.spread is
          c.in_ok-read_around.ensures.prefix c.in_ok-read_around.ensures.has;
      cost = omega (arith, next, so_far, cost, same);
    }

pub returns-clause-cost : goal.returns-clause-cost
returns-clause-cost g c =
    let part = sum_by-take-le (spread_cost c.args.sides c.args.after.now) c.args.met.now.keys c.loop-i.i in
    let so_far = c.loop-i.invariant.cost in
    omega (arith, part, so_far)

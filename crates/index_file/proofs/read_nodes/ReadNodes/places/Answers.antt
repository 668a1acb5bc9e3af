use Rattle.std.proofs.Common.{arith}
use Rattle.index_file.proofs.SavedViewLaws.{places_first, places_step, places_all, live_bound}
use Rattle.index_file.proofs.read_nodes.ReadNodes.places.Goals as goal

pub loop-n-init : goal.loop-n-init
loop-n-init c = record { placed = rw c.in_ok-places.ensures.items (places_first c.args.self.now) }

pub count_if-live-requires : goal.count_if-live-requires
count_if-live-requires c =
    let t = c.loop-n-test.true in
    let e = c.len-n-end.ensures in
    live_bound c.args.self.now c.loop-n.n c.loop-n.live _ c.loop-n.invariant.placed (omega (arith, t, e)) c.requires.few

pub loop-n-preserved : goal.loop-n-preserved
loop-n-preserved c =
    let t = c.loop-n-test.true in
    let e = c.len-n-end.ensures in
    record {
      placed = places_step c.args.self.now c.loop-n.n c.loop-n.live _ c.loop-n.places.items _ c.is_live.result c.loop-n.invariant.placed (omega (arith, t, e)) c.is_live.ensures c.count_if-live.ensures
          c.in_ok-push.ensures.items;
    }

pub returns : goal.returns
returns c =
    let t = c.loop-n-test.false in
    let e = c.len-n-end.ensures in
    places_all c.args.self.now c.loop-n.n c.loop-n.live _ c.loop-n.invariant.placed (omega (arith, t, e))

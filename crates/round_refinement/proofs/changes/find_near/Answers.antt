use Rattle.std.proofs.Common.{subst, arith}
use Rattle.std.proofs.lemmas.List.{take_all}
use Rattle.round_refinement.specs.NeighbourSides.{is_neighbour}
use Rattle.round_refinement.proofs.ChangeLaws.{ListsNear, near_more, near_all}
use Rattle.round_refinement.proofs.changes.find_near.Goals as goal

pub loop-q-preserved : goal.loop-q-preserved
loop-q-preserved g c =
    near_more (is_neighbour c.args.side (g.G.Digraph.edge c.args.g.now)) c.args.moved.now c.loop-q.q-index 0 c.loop-q.near c.put_beside.new.near c.loop-q-test.true c.loop-q.invariant
    c.in_ok-put_beside.ensures

pub returns : goal.returns
returns g c =
    let all = take_all c.loop-q.q-index c.args.moved.now (let end = c.loop-q-test.false in omega (arith, end)) in
    λ before now m. near_all (is_neighbour c.args.side (g.G.Digraph.edge c.args.g.now)) before now c.args.moved.now c.loop-q.near
    (subst (λ xs. ListsNear (is_neighbour c.args.side (g.G.Digraph.edge c.args.g.now)) xs c.loop-q.near) all c.loop-q.invariant) m

use Rattle.std.proofs.Common.{◌≡◌, ◌<◌, sym, subst, arith, length}
use Rattle.std.specs.Prelude.{slice_get, Some}
use Rattle.graph_steps.specs.NodePlaces.{node_places}
use Rattle.graph_steps.proofs.NodePlaces.{place_prefix, fewer_places}
use Rattle.graph_steps.proofs.prefix.Prefix.node_place.Goals as goal

pub node_place-requires : goal.node_place-requires
node_place-requires c =
    let below = subst (λ k. c.args.earlier < length (node_places k)) (sym c.self.view_is) c.requires in
    let fewer = fewer_places c.self.inside.change.now c.self.inside.past in
    omega (arith, below, fewer)

pub returns : goal.returns
returns c =
    let below = subst (λ k. c.args.earlier < length (node_places k)) (sym c.self.view_is) c.requires in
    subst (λ k. slice_get (node_places k) c.args.earlier ≡ Some c.node_place.result) c.self.view_is
    (place_prefix c.self.inside.change.now c.self.inside.past c.args.earlier c.node_place.result below c.node_place.ensures)

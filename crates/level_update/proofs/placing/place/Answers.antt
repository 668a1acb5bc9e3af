use Rattle.std.proofs.Common.{◌+◌, ℕ, List, sym, ◌∙◌, subst}
use Rattle.graph_spec.specs.Members.{at}
use Rattle.graph_spec.specs.Shapes.{shape_of}
use Rattle.bisim_levels.specs.SidedKeys.{ListNeighbours, on_side}
use Rattle.bisim_levels.proofs.WrittenSides.{sided_key_of}
use Rattle.graph_update.specs.PendingChanges.{graph_after}
use Rattle.ak_family.specs.LevelDrafts.{blocks_shown, labels_shown, key_shown, HasBlock}
use Rattle.level_update.proofs.MovedNodes.{placed_none, placed_one}
use Rattle.level_update.proofs.placing.place.Goals as goal

pub returns-in_default-clause-placed : goal.returns-in_default-clause-placed
returns-in_default-clause-placed g c =
    placed_none c.args.sides (graph_after c.args.after.now) c.args.family.now c.args.draft.now c.args.i c.args.n c.requires.levels (sym c.shown.ensures.block ∙ c.in_default.is)

pub returns-clause-placed : goal.returns-clause-placed
returns-clause-placed g c =
    let which = c.args.sides in
    let s = shape_of (graph_after c.args.after.now) in
    let f = c.args.family.now in
    let d = c.args.draft.now in
    let d1 = c.keyed_block.new.d in
    let i = c.args.i + 1 in
    let n = c.args.n in
    let own = c.in-Some.own in
    let below = blocks_shown f d c.args.i in
    let parents = c.deref.result.now in
    let children = c.deref-2.result.now in
    let own_is = sym c.shown.ensures.block ∙ c.in-Some.is in
    let lists =
    subst (λ (xs : List ℕ). ListNeighbours which s n (on_side xs children)) (sym c.deref.ensures.value)
    (subst (λ (xs : List ℕ). ListNeighbours which s n (on_side c.read_neighbours.new.parents.items xs)) (sym c.deref-2.ensures.value) c.in_ok-read_neighbours.ensures.lists)
    in
    let key = sided_key_of which s (at below) below n own (on_side parents children) c.write_level_key.new.key.items lists own_is c.in_ok-write_level_key.ensures in
    let block = subst (λ (numbers : List ℕ). HasBlock c.label.result numbers c.in_ok-b.b (labels_shown f d i) (labels_shown f d1 i) (key_shown f d i) (key_shown f d1 i)) c.deref-3.ensures.value
    c.in_ok-b.ensures.block in
    placed_one which (graph_after c.args.after.now) f d d1 c.move_to.new.draft c.args.i n own c.in_ok-b.b c.label.result c.write_level_key.new.key.items c.requires.levels own_is
    c.label.ensures.number key c.keyed_block.ensures.others c.keyed_block.ensures.blocks block c.in_ok-move_to.ensures.moved

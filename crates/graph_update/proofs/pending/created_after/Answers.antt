use Rattle.std.proofs.Common.{arith}
use Rattle.graph_steps.proofs.NodePlaces.{places_count, places_few}
use Rattle.graph_update.proofs.pending.created_after.Goals as goal

pub overflow_cast-result : goal.overflow_cast-result
overflow_cast-result c =
    let added = c.added.ensures in
    let most = places_few 0 c.args.change.now in
    let short = c.requires.few in
    omega (arith, added, most, short)

pub overflow_add-result : goal.overflow_add-result
overflow_add-result c =
    let count = c.created.ensures.count in
    let few = c.created.ensures.few in
    let added = c.added.ensures in
    let most = places_few 0 c.args.change.now in
    let short = c.requires.few in
    omega (arith, count, few, added, most, short)

pub returns-clause-created : goal.returns-clause-created
returns-clause-created c =
    let count = c.created.ensures.count in
    let added = c.added.ensures in
    let most = places_few 0 c.args.change.now in
    let short = c.requires.few in
    let law = places_count 0 c.args.change.now c.args.graph.now.graph in
    omega (arith, count, added, most, short, law)

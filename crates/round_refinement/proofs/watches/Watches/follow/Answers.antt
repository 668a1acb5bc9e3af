use Rattle.std.proofs.Common.{subst, refl}
use Rattle.round_refinement.specs.Watches.{PutsMoved}
use Rattle.round_refinement.proofs.WatchLaws.{followed}
use Rattle.round_refinement.proofs.watches.Watches.follow.Goals as goal

pub returns-in_ok-put_all_moved : goal.returns-in_ok-put_all_moved
returns-in_ok-put_all_moved g c = λ old watched differs.
    let edge = g.G.Digraph.edge c.args.g.now in
    let w = c.args.self.now in
    let puts = subst (λ marks. PutsMoved edge c.args.block.now marks c.args.moved.now w.places c.put_all_moved.new.self) c.deref.ensures.value c.in_ok-put_all_moved.ensures in
    c.trim.ensures edge c.args.block.now
    (followed edge old c.args.block.now c.args.moved.now w (record { places = c.put_all_moved.new.self; watched = w.watched; neighbours = w.neighbours; passed = w.passed }) watched differs puts refl)

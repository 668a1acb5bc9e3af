use Rattle.std.proofs.Common.{sym, subst}
use Rattle.round_refinement.specs.NeighbourSides.{is_neighbour}
use Rattle.round_refinement.specs.Watches.{IsWatched}
use Rattle.round_refinement.proofs.ChangeLaws.{changes_handed}
use Rattle.round_refinement.proofs.changes.write_changes.Goals as goal

pub push_lost-requires-clause-watched : goal.push_lost-requires-clause-watched
push_lost-requires-clause-watched g c = subst (λ b. IsWatched (g.G.Digraph.edge c.args.g.now) b c.args.keys.now.watches) (sym c.deref-5.ensures.value) c.requires.watched

pub returns-clause-watched : goal.returns-clause-watched
returns-clause-watched g c = subst (λ b. IsWatched (g.G.Digraph.edge c.args.g.now) b c.push_lost.new.watches) c.deref-5.ensures.value c.in_ok-push_lost.ensures.watched

pub returns-clause-changes : goal.returns-clause-changes
returns-clause-changes g c =
    changes_handed (is_neighbour c.args.side (g.G.Digraph.edge c.args.g.now)) c.args.parts.now.before.items c.deref-4.result.now c.args.parts.now.block.items c.deref-2.result.now
    c.deref-5.result.now c.args.n c.args.keys.now.near c.read_near.new.around.items c.deref.result.now c.deref-3.result.now c.write_set.new.images.items c.write_set-2.new.images.items
    c.deref-6.result.now c.push_lost.new.key.items c.sort_dedup.new.numbers.items c.requires.near c.in_ok-read_near.ensures c.deref.ensures.value c.deref-2.ensures.value
    c.in_ok-write_set.ensures c.deref-3.ensures.value c.deref-4.ensures.value c.in_ok-write_set-2.ensures c.deref-5.ensures.value c.deref-6.ensures.value c.in_ok-push_lost.ensures.lost
    c.sort_dedup.ensures.rising c.sort_dedup.ensures.same

use Rattle.std.proofs.Common.{◌∙◌, ap, sym, refl}
use Rattle.round_refinement.specs.Active.{mark_in}
use Rattle.round_refinement.proofs.WatchLaws.{asked_watched, answer_by_lists}
use Rattle.round_refinement.proofs.watches.Watches.answer.Goals as goal

pub returns-in_ok-found-clause-watched : goal.returns-in_ok-found-clause-watched
returns-in_ok-found-clause-watched g c =
    asked_watched (g.G.Digraph.edge c.args.g.now) c.args.block.now c.args.self.now (record { places = c.ask.new.self; watched = c.args.self.now.watched; neighbours = c.args.self.now.neighbours; passed = c.args.self.now.passed })
    c.args.n c.args.side c.args.b c.in_ok-found.found c.requires.watched c.in_ok-found.ensures.asked c.in_ok-found.ensures.ordered refl

pub returns-in_ok-found-clause-found : goal.returns-in_ok-found-clause-found
returns-in_ok-found-clause-found g c =
    answer_by_lists (g.G.Digraph.edge c.args.g.now) c.args.block.now c.args.self.now c.ask.new.self c.args.n c.args.side c.args.b c.in_ok-found.found c.requires.watched
    (ap (λ marks. mark_in marks c.args.n) (sym c.deref.ensures.value) ∙ sym c.is_on.ensures ∙ c.if-is_on.true) c.in_ok-found.ensures.asked

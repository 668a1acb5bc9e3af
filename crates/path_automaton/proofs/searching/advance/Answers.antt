use Rattle.std.proofs.Common.{[]}
use Rattle.std.proofs.lemmas.List.{get_or_read}
use Rattle.path_automaton.specs.ProductSteps.{label_in, edge_in}
use Rattle.path_automaton.specs.NewMarks.{NextOf}
use Rattle.path_automaton.proofs.PairMarks.{spreads_found}
use Rattle.path_automaton.proofs.searching.advance.Goals as goal

pub returns-clause-spreads : goal.returns-clause-spreads
returns-clause-spreads g c =
    spreads_found (NextOf (g.G.Digraph.span c.args.g.now) (label_in (g.S.Scope.keeps c.args.scope.now) (g.G.Digraph.label_at c.args.g.now)) (edge_in (g.S.Scope.keeps c.args.scope.now) (g.G.Digraph.edge c.args.g.now)) c.args.test c.args.places.now)
    c.args.frontier.now.rows.items c.args.frontier.now.worklist c.push.new.self c.args.state
    c.index_mut.result.now c.follow.new.row c.clear.new.self.items c.follow.new.found.items c.deref.result.now c.requires.there
    (get_or_read c.args.frontier.now.rows.items c.args.state _ c.requires.there c.index_mut.ensures.value []) c.clear.ensures.items c.deref.ensures.value
    c.in_ok-follow.ensures.gathers c.in_ok-push.ensures

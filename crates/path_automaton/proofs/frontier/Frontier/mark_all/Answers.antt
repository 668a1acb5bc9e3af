use Rattle.std.proofs.Common.{[], IsTrue}
use Rattle.std.proofs.lemmas.List.{get_or_read}
use Rattle.graph_spec.specs.Members.{has}
use Rattle.path_automaton.proofs.PairMarks.{spreads_found}
use Rattle.path_automaton.proofs.frontier.Frontier.mark_all.Goals as goal

pub returns-clause-spreads : goal.returns-clause-spreads
returns-clause-spreads c =
    spreads_found (λ v. IsTrue (has c.args.places.now v)) c.args.self.now.rows.items c.args.self.now.worklist c.push.new.self c.args.state
    c.index_mut.result.now c.mark_each.new.row c.clear.new.self.items c.mark_each.new.found.items c.deref.result.now c.requires.there
    (get_or_read c.args.self.now.rows.items c.args.state _ c.requires.there c.index_mut.ensures.value []) c.clear.ensures.items c.deref.ensures.value
    c.in_ok-mark_each.ensures.gathers c.in_ok-push.ensures

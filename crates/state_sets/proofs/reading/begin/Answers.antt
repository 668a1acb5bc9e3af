use Rattle.std.proofs.Common.{◌≡◌, sym, subst, IsTrue}
use Rattle.std.proofs.lemmas.Result.{on_ok_weaker}
use Rattle.graph_spec.specs.Members.{has}
use Rattle.path_automaton.specs.Programs.{state_at}
use Rattle.state_sets.specs.StateSets.{AreClosed}
use Rattle.state_sets.proofs.Enlarged.{closed_from}
use Rattle.state_sets.proofs.reading.begin.Goals as goal

pub returns-clause-closed : goal.returns-clause-closed
returns-clause-closed c =
    let at = state_at c.args.program.now in
    let begun = c.enter.new.self.1 in
    on_ok_weaker c.close.result (λ (h : AreClosed at (λ s. IsTrue (has begun s)) c.close.new.states.1). closed_from at (λ s. s ≡ c.args.start) c.clear.new.self.1 begun c.close.new.states.1 c.clear.ensures.none c.in_ok-enter.ensures.enlarges
    (λ s e. subst (λ x. IsTrue (has begun x)) (sym e) c.in_ok-enter.ensures.entered) h) c.close.ensures.closed

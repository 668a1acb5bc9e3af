use Rattle.std.proofs.Common.{Some, IsTrue}
use Rattle.std.proofs.lemmas.Result.{on_ok_weaker}
use Rattle.graph_spec.specs.Members.{has}
use Rattle.path_automaton.specs.Programs.{state_at}
use Rattle.state_sets.specs.StateSets.{AreClosed, Behind}
use Rattle.state_sets.proofs.Enlarged.{closed_from}
use Rattle.state_sets.proofs.reading.read.Goals as goal

pub returns-clause-closed : goal.returns-clause-closed
returns-clause-closed c =
    let at = state_at c.args.program.now in
    let begun = c.read_each.new.states.1 in
    on_ok_weaker c.close.result (λ (h : AreClosed at (λ s. IsTrue (has begun s)) c.close.new.states.1). closed_from at (Behind at (λ n. Some c.args.label) c.args.from.now 0) c.clear.new.self.1 begun c.close.new.states.1 c.clear.ensures.none c.in_ok-read_each.ensures.enlarges
    (λ k b. c.in_ok-read_each.ensures.entered k b) h) c.close.ensures.closed

use Rattle.std.proofs.Common.{Ok, Err}
use Rattle.std.specs.Prelude.{Result, OnOk}
use Rattle.std.proofs.lemmas.Result.{on_ok_weaker}
use Rattle.path_automaton.specs.Programs.{state_at}
use Rattle.path_automaton.specs.ProductSteps.{label_in, edge_in}
use Rattle.path_automaton.proofs.PairMarks.{spreads_as}
use Rattle.path_automaton.proofs.Forks.{fork_marks, fork_entered}
use Rattle.path_automaton.proofs.searching.visit.Goals as goal

both : {T E P Q R : Type 0} (r : Result T E) → (P → Q → R) → OnOk r P → OnOk r Q → OnOk r R
both (Ok x) f p q = f p q
both (Err e) f p q = tt

pub returns-in-Fork-clause-spreads : goal.returns-in-Fork-clause-spreads
returns-in-Fork-clause-spreads g c =
    let span = g.G.Digraph.span c.args.g.now in
    let label_at = label_in (g.S.Scope.keeps c.args.scope.now) (g.G.Digraph.label_at c.args.g.now) in
    let edge = edge_in (g.S.Scope.keeps c.args.scope.now) (g.G.Digraph.edge c.args.g.now) in
    on_ok_weaker c.fork.result (spreads_as _ _ _ _ _ _ (fork_marks (state_at c.args.program.now) span label_at edge c.args.state c.in-Fork.first c.in-Fork.second c.args.places.now c.in-Fork.ensures.there)) c.fork.ensures.spreads

pub returns-in-Fork-clause-entered : goal.returns-in-Fork-clause-entered
returns-in-Fork-clause-entered g c =
    let span = g.G.Digraph.span c.args.g.now in
    let label_at = label_in (g.S.Scope.keeps c.args.scope.now) (g.G.Digraph.label_at c.args.g.now) in
    let edge = edge_in (g.S.Scope.keeps c.args.scope.now) (g.G.Digraph.edge c.args.g.now) in
    both c.fork.result (fork_entered (state_at c.args.program.now) span label_at edge c.args.state c.in-Fork.first c.in-Fork.second c.args.places.now c.in-Fork.ensures.there c.fork.new.frontier.rows.items) c.fork.ensures.first c.fork.ensures.second

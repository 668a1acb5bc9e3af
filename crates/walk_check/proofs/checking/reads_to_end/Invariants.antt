use Rattle.std.proofs.Common.{◌≡◌, length, drop}
use Rattle.path_automaton.specs.Programs.{state_at}
use Rattle.path_automaton.specs.NewMarks.{IsPlace}
use Rattle.state_sets.proofs.Readings.{IsReading}
use Rattle.walk_check.proofs.checking.reads_to_end.Given as goal

abbrev pub invariant-nodes : goal.invariant-nodes
invariant-nodes g l = record {
  states : l.states.0 ≡ length l.program;
  next : l.next.0 ≡ length l.program;
  place : IsPlace (g.G.Digraph.span l.g) (g.G.Digraph.label_at l.g) l.place;
  reading : IsReading (state_at l.program) (g.G.Digraph.span l.g) (g.G.Digraph.label_at l.g) (g.G.Digraph.edge l.g) l.v l.start l.walk l.states.1 l.place (drop l.i l.walk);
}

use Rattle.std.proofs.Common.{◌≡◌, ◌+◌, ◌-◌, ◌*◌, length, IsTrue}
use Rattle.std.specs.Prelude.{slice_get}
use Rattle.path_automaton.specs.ProductSteps.{label_in, edge_in}
use Rattle.graph_spec.specs.Members.{has}
use Rattle.path_automaton.specs.MarkRows.{members, pairs, HasRows}
use Rattle.path_automaton.proofs.SearchInvariant.{IsSearching}
use Rattle.path_automaton.proofs.searching.search_in.Given as goal

abbrev pub invariant-runs : goal.invariant-runs
invariant-runs g l = record {
  wide : HasRows (length l.program) (g.G.Digraph.span l.g + 1) l.frontier.rows.items;
  size : l.answers.size ≡ g.G.Digraph.span l.g;
  searching : IsSearching (λ k. slice_get l.program k) (g.G.Digraph.span l.g) (label_in (g.S.Scope.keeps l.scope) (g.G.Digraph.label_at l.g)) (edge_in (g.S.Scope.keeps l.scope) (g.G.Digraph.edge l.g)) (λ v. IsTrue (has l.fn.places v)) l.start (length l.program) l.frontier.rows.items l.frontier.worklist l.answers.members;
}

abbrev pub decreases-runs : goal.decreases-runs
decreases-runs g l = length l.frontier.worklist + 2 * (pairs l.frontier.rows.items - members l.frontier.rows.items)

use Rattle.std.proofs.Common.{◌≡◌, ◌+◌, ◌≤◌, ◌/◌}
use Rattle.data_validate.proofs.BackwardRounds.{IsMet}
use Rattle.data_validate.proofs.ancestors.ancestors.Given as goal

abbrev pub invariant-rounds : goal.invariant-rounds
invariant-rounds g l = record {
  size : l.met.size ≡ g.G.Digraph.span l.g;
  looks : l.left + l.edges ≤ g.G.Digraph.span l.g / 64;
  met : IsMet (g.G.Digraph.label_at l.g) (g.G.Digraph.edge l.g) l.set.members l.edges l.current.items l.met.members;
}

abbrev pub decreases-rounds : goal.decreases-rounds
decreases-rounds g l = l.left

use Rattle.std.proofs.Common.{◌≡◌, ◌+◌, ◌≤◌, take}
use Rattle.data_validate.specs.Ancestors.{IsSpread}
use Rattle.data_validate.proofs.ancestors.meet_parents.Given as goal

abbrev pub invariant-loop-i : goal.invariant-loop-i
invariant-loop-i g l = record {
  size : l.met.size ≡ l.initial.met.size;
  left : l.left + l.i ≤ l.looks;
  spread : IsSpread (g.G.Digraph.edge l.g) (take l.i l.nodes) l.initial.met.members l.initial.found.items l.met.members l.found.items;
}

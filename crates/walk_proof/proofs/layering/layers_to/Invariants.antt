use Rattle.std.proofs.Common.{◌+◌, ◌-◌, ◌^◌, length}
use Rattle.std.specs.Prelude.{slice_get}
use Rattle.walk_proof.specs.Marking.{HasMarkRows}
use Rattle.walk_proof.specs.Layering.{IsLayeredBy, IsFirst}
use Rattle.walk_proof.proofs.layering.layers_to.Given as goal

abbrev pub invariant-layers : goal.invariant-layers
invariant-layers g l = record {
  wide : HasMarkRows (length l.program) (g.G.Digraph.span l.g + 1) l.rows.items;
  layered : IsLayeredBy (λ k. slice_get l.program k) (g.G.Digraph.span l.g) (g.G.Digraph.label_at l.g) (g.G.Digraph.edge l.g) l.end l.layers.items l.rows.items;
  first : IsFirst l.layers.items l.start (g.G.Digraph.span l.g);
}

abbrev pub decreases-layers : goal.decreases-layers
decreases-layers g l = 2 ^ 64 - length l.layers.items

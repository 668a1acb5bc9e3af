use Rattle.std.proofs.Common.{◌≡◌, ◌-◌, length, drop}
use Rattle.std.specs.List.{list_any}
use Rattle.graph_effects.specs.StepEffects.{names_pair}
use Rattle.graph_effects.proofs.edges.is_named_from.Given as goal

abbrev pub invariant-steps : goal.invariant-steps
invariant-steps l = record {
  begin : list_any (names_pair l.u l.v) (drop l.i l.change) ≡ list_any (names_pair l.u l.v) (drop l.from l.change);
  end : list_any (names_pair l.u l.v) (drop l.j l.change) ≡ list_any (names_pair l.u l.v) (drop l.from l.change);
}

abbrev pub decreases-steps : goal.decreases-steps
decreases-steps l = length l.change - l.i

use Rattle.std.proofs.Common.{◌≡◌, ◌-◌, length}
use Rattle.change_spec.specs.EdgesAfter.{edge_after}
use Rattle.graph_steps.proofs.NamedParts.{stretch}
use Rattle.graph_steps.proofs.reads.edge_after.Given as goal

abbrev pub invariant-loop-from : goal.invariant-loop-from
invariant-loop-from l = record {
  from : l.from.there ≡ edge_after (stretch l.prefix 0 l.from.place) l.u l.v l.present;
  onto : l.onto.there ≡ edge_after (stretch l.prefix 0 l.onto.place) l.u l.v l.present;
}

abbrev pub decreases-loop-from : goal.decreases-loop-from
decreases-loop-from l = length l.prefix - l.from.place

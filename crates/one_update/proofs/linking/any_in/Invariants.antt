use Rattle.std.proofs.Common.{◌≡◌}
use Rattle.std.specs.List.{list_any}
use Rattle.graph_spec.specs.Members.{at, is_this}
use Rattle.one_update.proofs.linking.any_in.Given as goal

abbrev pub invariant-loop-n : goal.invariant-loop-n
invariant-loop-n l = record {
  next : (goal.iterator-loop-n).can_next l.n-iterator;
  finite : (goal.iterator-loop-n).is_finite l.n-iterator;
  left : list_any (λ n. is_this l.b (at l.base.blocks.block_of n)) l.fn.nodes ≡ list_any (λ n. is_this l.b (at l.base.blocks.block_of n)) l.n-iterator;
}

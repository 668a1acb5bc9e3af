use Rattle.std.proofs.Common.{◌≡◌, ◌⊎◌, ℕ, Some, true}
use Rattle.graph_spec.specs.Members.{at, has}
use Rattle.graph_spec.specs.Shapes.{shape_of}
use Rattle.one_index.specs.Alike.{AreAlike}
use Rattle.one_index.proofs.stability.is_uniform.Given as goal

abbrev pub invariant-loop-n : goal.invariant-loop-n
invariant-loop-n l = record {
  next : (goal.iterator-loop-n).can_next l.n-iterator;
  finite : (goal.iterator-loop-n).is_finite l.n-iterator;
  within : (m : ℕ) → has l.n-iterator m ≡ true → at l.summary.blocks.block_of m ≡ Some l.b;
  passed : (m : ℕ) → at l.summary.blocks.block_of m ≡ Some l.b → (has l.n-iterator m ≡ true) ⊎ AreAlike (shape_of l.view) l.summary.blocks.block_of l.first m;
}

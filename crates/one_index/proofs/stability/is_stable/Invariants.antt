use Rattle.std.proofs.Common.{◌<◌, ℕ, IsSome}
use Rattle.graph_spec.specs.Members.{at}
use Rattle.graph_spec.specs.Shapes.{shape_of}
use Rattle.one_index.specs.Alike.{IsUniform}
use Rattle.one_index.proofs.stability.is_stable.Given as goal

abbrev pub invariant-loop-b : goal.invariant-loop-b
invariant-loop-b l = (x : ℕ) → x < l.b → IsSome (at l.summary.blocks.labels x) → IsUniform (shape_of l.view) l.summary.blocks.block_of x

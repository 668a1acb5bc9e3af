use Rattle.std.proofs.Common.{ℕ, ◌<◌}
use Rattle.graph_spec.specs.Members.{at}
use Rattle.index_check.specs.OuterParents.{HasWholeKey}
use Rattle.index_check.proofs.outer.lacks_whole_keys.Given as goal

abbrev pub invariant-loop-n : goal.invariant-loop-n
invariant-loop-n g l = (m : ℕ) → m < l.n → HasWholeKey (at l.own) l.block (g.G.Digraph.edge l.g) l.keys m → ⊥

use Rattle.std.proofs.Common.{◌≡◌, ◌++◌, ℕ, Option, filter_map, take}
use Rattle.bisim_spec.specs.NodeKeys.{Gives}
use Rattle.round_refinement.proofs.keys.push_blocks.Given as goal

abbrev pub invariant-loop-n : goal.invariant-loop-n
invariant-loop-n g l = (f : ℕ → Option ℕ) → Gives (goal.F-post g l.block_of) f → l.numbers.items ≡ l.initial.numbers.items ++ filter_map f (take l.n-index l.nodes)

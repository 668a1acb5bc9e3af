use Rattle.std.proofs.Common.{◌≡◌, ◌++◌, ◌∷◌, take}
use Rattle.std.specs.Prelude.{string_bytes}
use Rattle.std.specs.List.{flat_map}
use Rattle.graph_spec.specs.Words.{node_word}
use Rattle.extent_report.proofs.output.push_nodes.Given as goal

abbrev pub invariant-loop-n : goal.invariant-loop-n
invariant-loop-n l = string_bytes l.out ≡ string_bytes l.fn.out ++ flat_map (λ n. 32 ∷ node_word n) (take l.n-index l.nodes)

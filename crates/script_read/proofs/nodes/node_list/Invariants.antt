use Rattle.std.proofs.Common.{◌≡◌, ◌<◌, ◌^◌, ◌++◌, map, length}
use Rattle.std.specs.List.{AllByRecursion}
use Rattle.graph_spec.specs.Words.{node_word}
use Rattle.script_read.specs.Commands.{parts}
use Rattle.script_read.proofs.nodes.node_list.Given as goal

abbrev pub invariant-parts : goal.invariant-parts
invariant-parts l = record {
  read : parts l.word ≡ map node_word l.nodes.items ++ parts l.text;
  small : AllByRecursion (λ n. n < 2 ^ 32) l.nodes.items;
}

abbrev pub decreases-parts : goal.decreases-parts
decreases-parts l = length l.text

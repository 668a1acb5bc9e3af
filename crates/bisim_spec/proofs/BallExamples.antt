-- Levels by parents and children at two chains, and which nodes a change there affects.
use Rattle.std.proofs.Common.{◌≡◌, ℕ, List, [], ◌∷◌, Option, Some, refl, true, false}
use Rattle.std.specs.Prelude.{codes, nat_eq, ◌||◌, Decides}
use Rattle.graph_spec.specs.Shapes.{Shape, IsShape}
use Rattle.bisim_spec.specs.Bisimilarity.{Both}
use Rattle.bisim_spec.specs.Partitions.{Agrees}
use Rattle.bisim_spec.specs.Reach.{within_distance, ball}
use Rattle.bisim_spec.specs.Tests.{both, agrees}
use Rattle.bisim_spec.proofs.Bisimilar.{both_sym, both_node}
use Rattle.bisim_spec.proofs.BisimilarTests.{both_decides}
use Rattle.bisim_spec.proofs.StabilityTests.{agrees_decides}
use Rattle.bisim_spec.proofs.WrittenShapes.{shape_of_list, shape_from}

-- chains a, b, c and a, b, d
abbrev labels : List (List ℕ)
labels = codes "a" ∷ codes "b" ∷ codes "c" ∷ codes "a" ∷ codes "b" ∷ codes "d" ∷ []

abbrev chains : Shape
chains = shape_of_list labels ((0, 1) ∷ (1, 2) ∷ (3, 4) ∷ (4, 5) ∷ [])

chains_shape : IsShape chains
chains_shape = shape_from labels ((0, 1) ∷ (1, 2) ∷ (3, 4) ∷ (4, 5) ∷ []) refl

both_level_decides : (s : Shape) → IsShape s → (block : List (Option ℕ)) (i : ℕ) → Decides (agrees s block (both s i)) (Agrees s block (Both s i))
both_level_decides s shape block i =
    agrees_decides s shape block (both s i) (Both s i) (both_decides s shape i) (λ u v h. (both_node s i u v h, both_node s i v u (both_sym s i u v h)))

-- level 1 has five blocks, and level 2 six
first_level : Agrees chains (Some 0 ∷ Some 1 ∷ Some 2 ∷ Some 0 ∷ Some 3 ∷ Some 4 ∷ []) (Both chains 1)
first_level = (both_level_decides chains chains_shape (Some 0 ∷ Some 1 ∷ Some 2 ∷ Some 0 ∷ Some 3 ∷ Some 4 ∷ []) 1).0 refl

second_level : Agrees chains (Some 0 ∷ Some 1 ∷ Some 2 ∷ Some 3 ∷ Some 4 ∷ Some 5 ∷ []) (Both chains 2)
second_level = (both_level_decides chains chains_shape (Some 0 ∷ Some 1 ∷ Some 2 ∷ Some 3 ∷ Some 4 ∷ Some 5 ∷ []) 2).0 refl

-- around the edge from 1 to 2 lies 0, one edge off against its direction, and no node of the other chain
around : ball chains (λ n. nat_eq n 1 || nat_eq n 2) 1 0 ≡ true
around = refl

not_against_edges : within_distance chains (λ n. nat_eq n 1 || nat_eq n 2) 1 0 ≡ false
not_against_edges = refl

other_chain : ball chains (λ n. nat_eq n 1 || nat_eq n 2) 5 4 ≡ false
other_chain = refl

-- the chains cut before their last nodes
abbrev cut : Shape
cut = shape_of_list labels ((0, 1) ∷ (3, 4) ∷ [])

-- where an edge is taken away both its ends are affected: from its end alone none leads back to its start
from_end_alone : ball cut (λ n. nat_eq n 5) 1 4 ≡ false
from_end_alone = refl

one_block_again : both cut 1 1 4 ≡ true
one_block_again = refl

still_apart : both chains 1 1 4 ≡ false
still_apart = refl

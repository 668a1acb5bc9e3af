-- How many steps an update may take, at two chains a, b, c and a node x that is linked to the second one.
use Rattle.std.proofs.Common.{◌≡◌, ◌+◌, ◌*◌, ℕ, List, [], ◌∷◌, nat_eq, refl}
use Rattle.std.specs.Prelude.{codes}
use Rattle.graph_spec.specs.Shapes.{Shape}
use Rattle.bisim_spec.specs.declared.sides.Sides.TheVariants.{Parents}
use Rattle.bisim_spec.specs.SidedLevels.{affected}
use Rattle.bisim_spec.specs.Weights.{weight}
use Rattle.bisim_spec.proofs.WrittenShapes.{shape_of_list}

chain_labels : List (List ℕ)
chain_labels = codes "a" ∷ codes "b" ∷ codes "c" ∷ codes "a" ∷ codes "b" ∷ codes "c" ∷ codes "x" ∷ []

-- once x is linked to the second a
linked_chains : Shape
linked_chains = shape_of_list chain_labels ((0, 1) ∷ (1, 2) ∷ (3, 4) ∷ (4, 5) ∷ (6, 3) ∷ [])

-- within two edges of the link's end lie the three nodes of the second chain, of the weights 3, 3 and 2, and the change is one step
linked_steps : 8 * (2 + 1) * (weight linked_chains (affected Parents linked_chains (λ n. nat_eq n 3) 2) + 1) ≡ 216
unfolding linked_chains chain_labels
linked_steps = refl

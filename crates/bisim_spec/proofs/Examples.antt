-- The definitions at worked graphs, and at near misses.
use Rattle.std.proofs.Common.{◌≡◌, ℕ, arith, inl, inr, true, false, Bool, List, [], ◌∷◌, refl, Option, None, Some}
use Rattle.std.specs.Prelude.{◌||◌, not, codes, nat_eq, slice_get, Decides}
use Rattle.std.proofs.lemmas.Bool.{both_ways, or_cases, not-true}
use Rattle.std.proofs.lemmas.Bool.Decides.{Decides-eqb}
use Rattle.graph_spec.specs.Shapes.{Shape, IsShape}
use Rattle.bisim_spec.specs.Bisimilarity.{node_count, Bis, Bisim, Both, FB}
use Rattle.bisim_spec.specs.Partitions.{IsPartition, Agrees}
use Rattle.bisim_spec.specs.Stability.{StableBut, Stable, StableBoth, Mergeable, Minimal}
use Rattle.bisim_spec.specs.Reach.{within_distance, reach, Acyclic}
use Rattle.bisim_spec.specs.KeptBlocks.{HasOther}
use Rattle.bisim_spec.specs.Weights.{weight, size_of}
use Rattle.bisim_spec.specs.Supports.{support}
use Rattle.bisim_spec.specs.NodeEdges.{touching_count}
use Rattle.bisim_spec.specs.Tests.{bis, bisim, both, fb, agrees, together}
use Rattle.bisim_spec.proofs.BelowLaws.{all_get}
use Rattle.bisim_spec.proofs.Bisimilar.{bis_sym, bis_node, both_sym, both_node}
use Rattle.bisim_spec.proofs.BisimilarTests.{bis_decides, both_decides}
use Rattle.bisim_spec.proofs.StabilityTests.{together_decides, partition_decides, stable_decides, stable_but_decides, stable_both_decides, mergeable_decides, minimal_decides, agrees_decides, acyclic_decides}
use Rattle.bisim_spec.proofs.WrittenShapes.{shape_of_list, shape_from}

-- what a test that fails refutes
pub refuted : {r : Bool} {P : Type 0} → Decides r P → r ≡ false → P → ⊥
refuted {r = r} decides fails p = both_ways r fails (decides.1 p)

pub level_decides : (s : Shape) → IsShape s → (block : List (Option ℕ)) (i : ℕ) → Decides (agrees s block (bis s i)) (Agrees s block (Bis s i))
level_decides s shape block i =
    agrees_decides s shape block (bis s i) (Bis s i) (bis_decides s shape i) (λ u v h. (bis_node s i u v h, bis_node s i v u (bis_sym s i u v h)))

both_level_decides : (s : Shape) → IsShape s → (block : List (Option ℕ)) (i : ℕ) → Decides (agrees s block (both s i)) (Agrees s block (Both s i))
both_level_decides s shape block i =
    agrees_decides s shape block (both s i) (Both s i) (both_decides s shape i) (λ u v h. (both_node s i u v h, both_node s i v u (both_sym s i u v h)))

pub full_decides : (s : Shape) → IsShape s → (block : List (Option ℕ)) → Decides (agrees s block (bisim s)) (Agrees s block (Bisim s))
full_decides s shape block = level_decides s shape block (node_count s)

pub fb_full_decides : (s : Shape) → IsShape s → (block : List (Option ℕ)) → Decides (agrees s block (fb s)) (Agrees s block (FB s))
fb_full_decides s shape block = both_level_decides s shape block (node_count s)

-- two chains a -> b -> c, and a node x by itself

abbrev chain_labels : List (List ℕ)
chain_labels = codes "a" ∷ codes "b" ∷ codes "c" ∷ codes "a" ∷ codes "b" ∷ codes "c" ∷ codes "x" ∷ []

abbrev chains : Shape
chains = shape_of_list chain_labels ((0, 1) ∷ (1, 2) ∷ (3, 4) ∷ (4, 5) ∷ [])

chains_shape : IsShape chains
chains_shape = shape_from chain_labels ((0, 1) ∷ (1, 2) ∷ (3, 4) ∷ (4, 5) ∷ []) refl

-- by labels alone
abbrev by_label : List (Option ℕ)
by_label = Some 0 ∷ Some 1 ∷ Some 2 ∷ Some 0 ∷ Some 1 ∷ Some 2 ∷ Some 3 ∷ []

chains_full : Agrees chains by_label (Bisim chains)
chains_full = (full_decides chains chains_shape by_label).0 refl

chains_acyclic : Acyclic chains
chains_acyclic = (acyclic_decides chains chains_shape).0 refl

-- one block too many can be merged, and is too fine
abbrev one_more : List (Option ℕ)
one_more = Some 0 ∷ Some 1 ∷ Some 2 ∷ Some 4 ∷ Some 1 ∷ Some 2 ∷ Some 3 ∷ []

finer_not_full : Agrees chains one_more (Bisim chains) → ⊥
finer_not_full = refuted (full_decides chains chains_shape one_more) refl

finer_not_stable : Stable chains one_more → ⊥
finer_not_stable = refuted (stable_decides chains chains_shape one_more) refl

-- chain by chain: the two a can be merged, since neither has a parent; the two c can't while the two b are apart
abbrev chain_by_chain : List (Option ℕ)
chain_by_chain = Some 0 ∷ Some 1 ∷ Some 2 ∷ Some 4 ∷ Some 5 ∷ Some 6 ∷ Some 3 ∷ []

chain_by_chain_stable : Stable chains chain_by_chain
chain_by_chain_stable = (stable_decides chains chains_shape chain_by_chain).0 refl

heads_mergeable : Mergeable chains chain_by_chain 0 4
heads_mergeable = (mergeable_decides chains chains_shape chain_by_chain 0 4).0 refl

ends_not_mergeable : Mergeable chains chain_by_chain 2 6 → ⊥
ends_not_mergeable = refuted (mergeable_decides chains chains_shape chain_by_chain 2 6) refl

-- a partition has a block for each node, and for no other number
too_short : IsPartition chains (Some 0 ∷ Some 1 ∷ Some 2 ∷ []) → ⊥
too_short = refuted (partition_decides chains chains_shape (Some 0 ∷ Some 1 ∷ Some 2 ∷ [])) refl

no_node : IsPartition chains (Some 0 ∷ Some 1 ∷ Some 2 ∷ Some 0 ∷ Some 1 ∷ Some 2 ∷ Some 3 ∷ Some 3 ∷ []) → ⊥
no_node = refuted (partition_decides chains chains_shape (Some 0 ∷ Some 1 ∷ Some 2 ∷ Some 0 ∷ Some 1 ∷ Some 2 ∷ Some 3 ∷ Some 3 ∷ [])) refl

none_past : IsPartition chains (Some 0 ∷ Some 1 ∷ Some 2 ∷ Some 0 ∷ Some 1 ∷ Some 2 ∷ Some 3 ∷ None ∷ [])
none_past = (partition_decides chains chains_shape (Some 0 ∷ Some 1 ∷ Some 2 ∷ Some 0 ∷ Some 1 ∷ Some 2 ∷ Some 3 ∷ None ∷ [])).0 refl

-- the same chains, with an edge from x to the second a

abbrev hung : Shape
hung = shape_of_list chain_labels ((0, 1) ∷ (1, 2) ∷ (3, 4) ∷ (4, 5) ∷ (6, 3) ∷ [])

hung_shape : IsShape hung
hung_shape = shape_from chain_labels ((0, 1) ∷ (1, 2) ∷ (3, 4) ∷ (4, 5) ∷ (6, 3) ∷ []) refl

-- each level tells one more pair apart: the second has the two c in one block still, full bisimilarity no two nodes
hung_first : Agrees hung (Some 0 ∷ Some 1 ∷ Some 2 ∷ Some 3 ∷ Some 1 ∷ Some 2 ∷ Some 6 ∷ []) (Bis hung 1)
hung_first = (level_decides hung hung_shape (Some 0 ∷ Some 1 ∷ Some 2 ∷ Some 3 ∷ Some 1 ∷ Some 2 ∷ Some 6 ∷ []) 1).0 refl

hung_second : Agrees hung (Some 0 ∷ Some 1 ∷ Some 2 ∷ Some 3 ∷ Some 4 ∷ Some 2 ∷ Some 6 ∷ []) (Bis hung 2)
hung_second = (level_decides hung hung_shape (Some 0 ∷ Some 1 ∷ Some 2 ∷ Some 3 ∷ Some 4 ∷ Some 2 ∷ Some 6 ∷ []) 2).0 refl

abbrev each_alone : List (Option ℕ)
each_alone = Some 0 ∷ Some 1 ∷ Some 2 ∷ Some 3 ∷ Some 4 ∷ Some 5 ∷ Some 6 ∷ []

hung_full : Agrees hung each_alone (Bisim hung)
hung_full = (full_decides hung hung_shape each_alone).0 refl

hung_not_by_label : Stable hung by_label → ⊥
hung_not_by_label = refuted (stable_decides hung hung_shape by_label) refl

-- the edge's end is the one node at which the old partition isn't stable
hung_but_target : StableBut hung by_label (nat_eq 3)
hung_but_target = (stable_but_decides hung hung_shape by_label (nat_eq 3)).0 refl

hung_not_but_other : StableBut hung by_label (nat_eq 4) → ⊥
hung_not_but_other = refuted (stable_but_decides hung hung_shape by_label (nat_eq 4)) refl

-- the second a has no parent but x, so the edge adds a parent block
hung_other : HasOther hung by_label 6 3 → ⊥
hung_other h =
    let alone : ℕ → Bool = λ p. nat_eq p 6 || not (together by_label p 6) in
    elim (or_cases (nat_eq h.parent 6) (not (together by_label h.parent 6)) (all_get 7 alone refl h.parent (hung_shape.below h.parent (hung_shape.from h.parent 3 h.is_parent)))) [
      | inl same ↦ h.other ((Decides-eqb h.parent 6).0 same)
      | inr apart ↦ both_ways (together by_label h.parent 6) (not-true (together by_label h.parent 6) apart) ((together_decides by_label h.parent 6).1 h.together)
    ]

-- from the second a one edge leads to its b, and all in all its b and c
within_none : within_distance hung (nat_eq 3) 0 4 ≡ false
within_none = refl

within_one : within_distance hung (nat_eq 3) 1 4 ≡ true
within_one = refl

within_not_two : within_distance hung (nat_eq 3) 1 5 ≡ false
within_not_two = refl

reach_two : reach hung (nat_eq 3) 5 ≡ true
reach_two = refl

reach_not_back : reach hung (nat_eq 3) 6 ≡ false
reach_not_back = refl

-- a number that is no node is reached from itself, and nothing else is
reach_gone : reach hung (nat_eq 9) 9 ≡ true
reach_gone = refl

reach_gone_none : reach hung (nat_eq 9) 0 ≡ false
reach_gone_none = refl

-- the second a has a parent and a child, its b too, and its c a parent alone
weight_two : weight hung (within_distance hung (nat_eq 3) 2) ≡ 8
weight_two = refl

weight_one : weight hung (within_distance hung (nat_eq 3) 1) ≡ 6
weight_one = refl

weight_none : weight hung (within_distance hung (nat_eq 3) 0) ≡ 3
weight_none = refl

weight_reach : weight hung (reach hung (nat_eq 3)) ≡ 8
weight_reach = refl

size_reach : size_of hung (reach hung (nat_eq 3)) ≡ 3
size_reach = refl

-- a node alone weighs one, and so does a number whose node is gone; one past the end isn't counted
weight_alone : weight chains (reach chains (nat_eq 6)) ≡ 1
weight_alone = refl

weight_gone : weight (record { size = 2; label = slice_get (codes "a" ∷ []); edge = λ u v. false }) (nat_eq 1) ≡ 1
weight_gone = refl

weight_past : weight chains (reach chains (nat_eq 9)) ≡ 0
weight_past = refl

-- two a, two b, and three edges: sets of parents count, and not how many there are

abbrev fan_labels : List (List ℕ)
fan_labels = codes "a" ∷ codes "a" ∷ codes "b" ∷ codes "b" ∷ []

abbrev fan_edges : List (ℕ × ℕ)
fan_edges = (0, 2) ∷ (1, 2) ∷ (0, 3) ∷ []

abbrev fan : Shape
fan = shape_of_list fan_labels fan_edges

fan_shape : IsShape fan
fan_shape = shape_from fan_labels fan_edges refl

abbrev two_pairs : List (Option ℕ)
two_pairs = Some 0 ∷ Some 0 ∷ Some 1 ∷ Some 1 ∷ []

fan_first : Agrees fan two_pairs (Bis fan 1)
fan_first = (level_decides fan fan_shape two_pairs 1).0 refl

fan_full : Agrees fan two_pairs (Bisim fan)
fan_full = (full_decides fan fan_shape two_pairs).0 refl

fan_both_ways : Agrees fan two_pairs (FB fan)
fan_both_ways = (fb_full_decides fan fan_shape two_pairs).0 refl

fan_support : support fan_edges two_pairs 0 1 ≡ 3
fan_support = refl

fan_support_back : support fan_edges two_pairs 1 0 ≡ 0
fan_support_back = refl

-- the second b has another parent in the block of the a's, so an edge from the second a to it adds no parent block
fan_other : HasOther fan two_pairs 1 3
fan_other = record { parent = 0; other = λ e. absurd (omega (arith, e)); is_parent = refl; together = (0, refl, refl) }

-- the edges at a b that lead from the block of the a to its own
touching_fan : touching_count 2 (0 ∷ 1 ∷ []) [] two_pairs 0 1 ≡ 2
touching_fan = refl

-- a loop is counted once
touching_loop : touching_count 0 (0 ∷ []) (0 ∷ []) (Some 0 ∷ Some 1 ∷ []) 0 0 ≡ 1
touching_loop = refl

-- two nodes with a loop each: their blocks have different parent blocks until the two are counted as one

abbrev loops : Shape
loops = shape_of_list (codes "a" ∷ codes "a" ∷ []) ((0, 0) ∷ (1, 1) ∷ [])

loops_shape : IsShape loops
loops_shape = shape_from (codes "a" ∷ codes "a" ∷ []) ((0, 0) ∷ (1, 1) ∷ []) refl

loops_full : Agrees loops (Some 0 ∷ Some 0 ∷ []) (Bisim loops)
loops_full = (full_decides loops loops_shape (Some 0 ∷ Some 0 ∷ [])).0 refl

loops_apart_stable : Stable loops (Some 0 ∷ Some 1 ∷ [])
loops_apart_stable = (stable_decides loops loops_shape (Some 0 ∷ Some 1 ∷ [])).0 refl

loops_apart_not_minimal : Minimal loops (Some 0 ∷ Some 1 ∷ []) → ⊥
loops_apart_not_minimal = refuted (minimal_decides loops loops_shape (Some 0 ∷ Some 1 ∷ []) loops_apart_stable.partition) refl

-- a loop is a ring
loops_not_acyclic : Acyclic loops → ⊥
loops_not_acyclic = refuted (acyclic_decides loops loops_shape) refl

-- two rings of an a and a b: full bisimilarity has two blocks, but on a graph with rings four can be stable and
-- unmergeable too

abbrev rings : Shape
rings = shape_of_list (codes "a" ∷ codes "b" ∷ codes "a" ∷ codes "b" ∷ []) ((0, 1) ∷ (1, 0) ∷ (2, 3) ∷ (3, 2) ∷ [])

rings_shape : IsShape rings
rings_shape = shape_from (codes "a" ∷ codes "b" ∷ codes "a" ∷ codes "b" ∷ []) ((0, 1) ∷ (1, 0) ∷ (2, 3) ∷ (3, 2) ∷ []) refl

rings_full : Agrees rings (Some 0 ∷ Some 1 ∷ Some 0 ∷ Some 1 ∷ []) (Bisim rings)
rings_full = (full_decides rings rings_shape (Some 0 ∷ Some 1 ∷ Some 0 ∷ Some 1 ∷ [])).0 refl

abbrev ring_by_ring : List (Option ℕ)
ring_by_ring = Some 0 ∷ Some 1 ∷ Some 2 ∷ Some 3 ∷ []

ring_by_ring_stable : Stable rings ring_by_ring
ring_by_ring_stable = (stable_decides rings rings_shape ring_by_ring).0 refl

ring_by_ring_minimal : Minimal rings ring_by_ring
ring_by_ring_minimal = (minimal_decides rings rings_shape ring_by_ring ring_by_ring_stable.partition).0 refl

ring_by_ring_not_full : Agrees rings ring_by_ring (Bisim rings) → ⊥
ring_by_ring_not_full = refuted (full_decides rings rings_shape ring_by_ring) refl

rings_not_acyclic : Acyclic rings → ⊥
rings_not_acyclic = refuted (acyclic_decides rings rings_shape) refl

-- a -> b, and an a by itself: children tell the two a apart, parents don't

abbrev lone : Shape
lone = shape_of_list (codes "a" ∷ codes "b" ∷ codes "a" ∷ []) ((0, 1) ∷ [])

lone_shape : IsShape lone
lone_shape = shape_from (codes "a" ∷ codes "b" ∷ codes "a" ∷ []) ((0, 1) ∷ []) refl

abbrev lone_pair : List (Option ℕ)
lone_pair = Some 0 ∷ Some 1 ∷ Some 0 ∷ []

lone_second : Agrees lone lone_pair (Bis lone 2)
lone_second = (level_decides lone lone_shape lone_pair 2).0 refl

lone_full : Agrees lone lone_pair (Bisim lone)
lone_full = (full_decides lone lone_shape lone_pair).0 refl

lone_both_ways : Agrees lone (Some 0 ∷ Some 1 ∷ Some 2 ∷ []) (FB lone)
lone_both_ways = (fb_full_decides lone lone_shape (Some 0 ∷ Some 1 ∷ Some 2 ∷ [])).0 refl

lone_pair_not_both_ways : StableBoth lone lone_pair → ⊥
lone_pair_not_both_ways = refuted (stable_both_decides lone lone_shape lone_pair) refl

-- nodes with other labels are bisimilar to no level, whatever their parents
other_labels : Bis chains 0 1 2 → ⊥
other_labels = refuted (bis_decides chains chains_shape 0 1 2) refl

-- Changes at worked values, and at near misses.
use Rattle.std.proofs.Common.{◌≡◌, true, false, [], ◌∷◌, None, Some, Ok, Err, refl, ap, ◌∙◌}
use Rattle.std.specs.Prelude.{codes, if◌then◌else◌}
use Rattle.std.specs.FinSet as set
use Rattle.graph_spec.specs.declared.refusal.Refusal.TheVariants.{NoNode, NoEdge}
use Rattle.graph_spec.specs.declared.limits.Limits.{Limits}
use Rattle.graph_spec.specs.ProgramLimits.{program_limits}
use Rattle.graph_spec.specs.Graphs.{Graph, empty_graph, edge_cmp, has_edge}
use Rattle.graph_spec.specs.Changes.{with_node, with_edge, without_edge}
use Rattle.change_spec.specs.Steps.{node, link, unlink, drop, relabel, and_then, apply, after, is_new, without_node}
use Rattle.change_spec.specs.Altered.{targets}
use Rattle.change_spec.specs.Named.{is_named}
use Rattle.graph_spec.proofs.EdgeOrder.{edge_cmp_total}
use Rattle.std.proofs.Math.Bool.{and-false}
use Rattle.change_spec.proofs.StepGraphs.{edge_dropped}
use Rattle.change_spec.specs.EdgesAfter.{shown_parents, shown_children}

abbrev one : Graph
one = with_node empty_graph (codes "a")

-- two nodes, and an edge from the first to the second
abbrev joined : Graph
joined = with_edge (with_node one (codes "b")) 0 1

-- no steps leave the graph as it is
nothing : (g : Graph) (limits : Limits) → apply [] g limits ≡ Ok g
nothing g limits = refl

-- numbers are allocated in the order of the steps, and a label is seen once
added : apply (node (codes "a") ∷ node (codes "b") ∷ node (codes "a") ∷ []) empty_graph program_limits
    ≡ Ok (record { allocated = Some (codes "a") ∷ Some (codes "b") ∷ Some (codes "a") ∷ []; edges = set.empty; seen = codes "a" ∷ codes "b" ∷ [] })
added = refl

-- one refused step refuses all of them, also those behind it and in front of it
refused : apply (node (codes "b") ∷ link 0 9 ∷ node (codes "c") ∷ []) one program_limits ≡ Err NoNode
refused = refl

-- a step doesn't see what only a later one brings
too_early : apply (link 1 1 ∷ node (codes "b") ∷ []) one program_limits ≡ Err NoNode
too_early = refl

-- a number is never allocated again, and its node isn't live again by a label
dropped : (after (drop 0 ∷ node (codes "b") ∷ []) one).allocated ≡ None ∷ Some (codes "b") ∷ []
dropped = refl

gone : apply (drop 0 ∷ relabel 0 (codes "b") ∷ []) one program_limits ≡ Err NoNode
gone = refl

-- an edge that is there can be taken away, and not the one the other way round; a drop takes the node's edges along
unlinked : (limits : Limits) → apply (unlink 0 1 ∷ []) joined limits ≡ Ok (without_edge joined 0 1)
unlinked limits = ap (λ b. and_then (if b then Ok (without_edge joined 0 1) else Err NoEdge) (λ h. Ok h)) (set.contains-insert edge_cmp_total set.empty (0, 1) (0, 1))

unlinked_back : (limits : Limits) → apply (unlink 1 0 ∷ []) joined limits ≡ Err NoEdge
unlinked_back limits =
    ap (λ b. and_then (if b then Ok (without_edge joined 1 0) else Err NoEdge) (λ h. Ok h))
    (set.contains-insert edge_cmp_total set.empty (0, 1) (1, 0) ∙ set.contains-empty edge_cmp (1, 0))

dropped_end : (limits : Limits) → apply (drop 1 ∷ []) joined limits ≡ Ok (without_node joined 1)
dropped_end limits = refl

taken_along : has_edge (without_node joined 1) 0 1 ≡ false
taken_along = edge_dropped joined 1 0 1 ∙ and-false (has_edge joined 0 1)

-- a label that the node has makes nothing new, nor does it make the node a target
same_label : is_new (relabel 0 (codes "a") ∷ []) one ≡ false
same_label = refl

same_label_target : targets (relabel 0 (codes "a") ∷ []) one 0 ≡ false
same_label_target = refl

other_label_target : targets (relabel 0 (codes "b") ∷ []) one 0 ≡ true
other_label_target = refl

-- a change that ends where it began is new, and what it altered is a target
back_again : is_new (relabel 0 (codes "b") ∷ relabel 0 (codes "a") ∷ []) one ≡ true
back_again = refl

back_again_target : targets (relabel 0 (codes "b") ∷ relabel 0 (codes "a") ∷ []) one 0 ≡ true
back_again_target = refl

-- a node that comes and goes is no target
brief : targets (node (codes "b") ∷ drop 1 ∷ []) one 1 ≡ false
brief = refl

-- an edge that is unlinked and linked again is shown once, and one of a node that goes is not shown
linked_again : shown_parents (unlink 0 1 ∷ link 0 1 ∷ []) 1 (0 ∷ 2 ∷ []) ≡ 2 ∷ 0 ∷ []
linked_again = refl

linked_twice : shown_parents (link 0 1 ∷ link 3 1 ∷ link 0 1 ∷ []) 1 (0 ∷ 2 ∷ []) ≡ 2 ∷ 3 ∷ 0 ∷ []
linked_twice = refl

gone_with_node : shown_parents (link 4 1 ∷ drop 2 ∷ link 5 1 ∷ drop 4 ∷ []) 1 (0 ∷ 2 ∷ []) ≡ 0 ∷ 5 ∷ []
gone_with_node = refl

other_side : shown_children (link 1 4 ∷ unlink 1 0 ∷ link 4 1 ∷ []) 1 (0 ∷ 2 ∷ []) ≡ 2 ∷ 4 ∷ []
other_side = refl

-- the number of a new node is named by no step
unnamed : is_named (node (codes "b") ∷ link 0 0 ∷ []) 1 ≡ false
unnamed = refl

named_end : is_named (link 0 1 ∷ []) 1 ≡ true
named_end = refl

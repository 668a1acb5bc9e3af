-- The definitions at worked graphs, and at near misses.
use Rattle.std.proofs.Common.{◌≡◌, ℕ, true, false, List, [], ◌∷◌, refl, Option, None, Some}
use Rattle.std.specs.Prelude.{codes, slice_get, option_and_then}
use Rattle.std.specs.Fmt.{digits}
use Rattle.graph_spec.specs.Shapes.{Shape}
use Rattle.bisim_spec.specs.Tests.{bis, bisim, fb}
use Rattle.bisim_spec.proofs.WrittenShapes.{shape_of_list}
use Rattle.index_api.specs.declared.kinds.Via.TheVariants.{A, One}
use Rattle.extent_report.specs.ListedBlocks.{is_first, block_total, adjacent_total, extents_text, head_line, size_line}

-- a -> b, and an a by itself

abbrev lone : Shape
lone = shape_of_list (codes "a" ∷ codes "b" ∷ codes "a" ∷ []) ((0, 1) ∷ [])

lone_text : extents_text lone (bis lone 2) ≡ codes "blocks 2\na n0 n2\nb n1\n"
unfolding digits
lone_text = refl

-- numbers past the nodes change nothing
lone_wide : extents_text (record lone { size = 5 }) (bis lone 2) ≡ extents_text lone (bis lone 2)
unfolding digits
lone_wide = refl

-- its children tell the two a apart
lone_both_ways : extents_text lone (fb lone) ≡ codes "blocks 3\na n0\nb n1\na n2\n"
unfolding digits
lone_both_ways = refl

lone_size : size_line (A 2) (block_total lone (bis lone 2)) (adjacent_total lone (bis lone 2)) ≡ codes "a2 blocks 2 edges 1\n"
unfolding digits
lone_size = refl

-- two chains, and an edge from x to the second one

abbrev hung : Shape
hung =
    shape_of_list (codes "a" ∷ codes "b" ∷ codes "c" ∷ codes "a" ∷ codes "b" ∷ codes "c" ∷ codes "x" ∷ [])
    ((0, 1) ∷ (1, 2) ∷ (3, 4) ∷ (4, 5) ∷ (6, 3) ∷ [])

hung_text : extents_text hung (bis hung 2) ≡ codes "blocks 6\na n0\nb n1\nc n2 n5\na n3\nb n4\nx n6\n"
unfolding digits
hung_text = refl

hung_labels : extents_text hung (bis hung 0) ≡ codes "blocks 4\na n0 n3\nb n1 n4\nc n2 n5\nx n6\n"
unfolding digits
hung_labels = refl

-- no node
nothing_text : extents_text (shape_of_list [] []) (bis (shape_of_list [] []) 1) ≡ codes "blocks 0\n"
unfolding digits
nothing_text = refl

-- gone nodes are in no list, also if the relation has them

abbrev gone_labels : List (Option (List ℕ))
gone_labels = None ∷ Some (codes "b") ∷ None ∷ Some (codes "b") ∷ []

abbrev gone : Shape
gone = record { size = 4; label = λ n. option_and_then (λ l. l) (slice_get gone_labels n); edge = λ u v. false }

gone_text : extents_text gone (bis gone 1) ≡ codes "blocks 1\nb n1 n3\n"
unfolding digits
gone_text = refl

gone_all_related : extents_text gone (λ u v. true) ≡ codes "blocks 1\nb n1 n3\n"
unfolding digits
gone_all_related = refl

-- three people, a -> b, b -> c, c -> b, each with a name and one with a mailbox: pairs of blocks count, and not edges

abbrev people_labels : List (List ℕ)
people_labels =
    codes "person" ∷ codes "person" ∷ codes "person" ∷ codes "name" ∷ codes "name" ∷ codes "name" ∷ codes "mbox" ∷ []

abbrev people : Shape
people = shape_of_list people_labels ((0, 1) ∷ (1, 2) ∷ (2, 1) ∷ (0, 3) ∷ (1, 4) ∷ (2, 5) ∷ (0, 6) ∷ [])

people_labels_size : size_line (A 0) (block_total people (bis people 0)) (adjacent_total people (bis people 0)) ≡ codes "a0 blocks 3 edges 3\n"
unfolding digits
people_labels_size = refl

people_first_size : size_line (A 1) (block_total people (bis people 1)) (adjacent_total people (bis people 1)) ≡ codes "a1 blocks 4 edges 5\n"
unfolding digits
people_first_size = refl

people_full_size : size_line One (block_total people (bisim people)) (adjacent_total people (bisim people)) ≡ codes "one blocks 7 edges 7\n"
unfolding digits
people_full_size = refl

people_head : head_line 7 7 ≡ codes "nodes 7 edges 7\n"
unfolding digits
people_head = refl

-- the second person's block begins with that person if levels tell it from the first
second_first : is_first people (bis people 1) 1 ≡ true
second_first = refl

third_not_first : is_first people (bis people 1) 2 ≡ false
third_not_first = refl

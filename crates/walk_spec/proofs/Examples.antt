-- The definitions at worked values, and at near misses. `shows_is` makes each test one of the relation.
use Rattle.std.proofs.Common.{◌≡◌, ℕ, inl, inr, List, [], ◌∷◌, length, refl, Bool, true, false, arith}
use Rattle.std.specs.Prelude.{◌&&◌, nat_eq, codes, slice_get}
use Rattle.std.specs.List.{list_any}
use Rattle.graph_spec.specs.Shapes.{Shape}
use Rattle.path_spec.specs.Trees.{star, child, below, Expr, only, or, last, then, once, signed, Atom, label, group}
use Rattle.walk_spec.specs.LeastWalks.{Before, IsLeast}
use Rattle.walk_spec.specs.Tests.{shows}
use Rattle.walk_spec.proofs.ShownTests.{shows_is}
use Rattle.walk_spec.proofs.LeastWalks.{one_least}

abbrev a : Atom
a = label (codes "a")

abbrev b : Atom
b = label (codes "b")

abbrev c : Atom
c = label (codes "c")

abbrev joins : ℕ → ℕ → ℕ × ℕ → Bool
joins u v p = nat_eq u p.0 && nat_eq v p.1

-- a graph whose nodes have these labels, and with these edges
abbrev graph : List (List ℕ) → List (ℕ × ℕ) → Shape
graph labels edges = record { size = length labels; label = λ n. slice_get labels n; edge = λ u v. list_any (joins u v) edges }

-- the chain a, b, c
abbrev chain : Shape
chain = graph (codes "a" ∷ codes "b" ∷ codes "c" ∷ []) ((0, 1) ∷ (1, 2) ∷ [])

-- a//c
abbrev a_below_c : Expr
a_below_c = only (then (once a) below (last (once c)))

whole_chain : shows chain a_below_c 2 (0 ∷ 1 ∷ 2 ∷ []) ≡ true
whole_chain = refl

-- no edge leads from the first to the last, the walk may not stop short of it, and 'bc' doesn't match
missing_edge : shows chain a_below_c 2 (0 ∷ 2 ∷ []) ≡ false
missing_edge = refl

no_last : shows chain a_below_c 2 (0 ∷ 1 ∷ []) ≡ false
no_last = refl

shorter : shows chain a_below_c 2 (1 ∷ 2 ∷ []) ≡ false
shorter = refl

backwards : shows chain a_below_c 2 (2 ∷ 1 ∷ 0 ∷ []) ≡ false
backwards = refl

-- c|a/b/c: both the last node alone and the whole chain show it, and the shorter is the least
abbrev c_or_abc : Expr
c_or_abc = or (last (once c)) (only (then (once a) child (then (once b) child (last (once c)))))

long_one : shows chain c_or_abc 2 (0 ∷ 1 ∷ 2 ∷ []) ≡ true
long_one = refl

short_one : IsLeast chain c_or_abc 2 (2 ∷ [])
short_one = one_least chain c_or_abc 2 ((shows_is chain c_or_abc 2 (2 ∷ [])).0 refl)

-- two parents labelled a, and their child
abbrev fork : Shape
fork = graph (codes "a" ∷ codes "a" ∷ codes "b" ∷ []) ((1, 2) ∷ (0, 2) ∷ [])

abbrev a_child_b : Expr
a_child_b = only (then (once a) child (last (once b)))

first_parent : shows fork a_child_b 2 (0 ∷ 2 ∷ []) ≡ true
first_parent = refl

second_parent : shows fork a_child_b 2 (1 ∷ 2 ∷ []) ≡ true
second_parent = refl

smaller_first : Before (0 ∷ 2 ∷ []) (1 ∷ 2 ∷ [])
smaller_first = inr (refl, inl (omega arith))

shorter_first : Before (2 ∷ []) (0 ∷ 1 ∷ [])
shorter_first = inl (omega arith)

-- b/a would lead against the edge
against_edge : shows fork (only (then (once b) child (last (once a)))) 1 (2 ∷ 1 ∷ []) ≡ false
against_edge = refl

-- a* matches the empty word, but a walk has a node, and this one is labelled b
abbrev many_a : Expr
many_a = only (last (signed a star))

other_label : shows fork many_a 2 (2 ∷ []) ≡ false
other_label = refl

no_node : shows fork many_a 2 [] ≡ false
no_node = refl

-- a number that is no node
gone_node : shows fork many_a 3 (3 ∷ []) ≡ false
gone_node = refl

-- on a cycle a node comes again
abbrev ring : Shape
ring = graph (codes "a" ∷ codes "b" ∷ []) ((0, 1) ∷ (1, 0) ∷ [])

around : shows ring (only (then (signed (group a_child_b) star) child (last (once a)))) 0 (0 ∷ 1 ∷ 0 ∷ 1 ∷ 0 ∷ []) ≡ true
around = refl

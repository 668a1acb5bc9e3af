-- Which queries are exact, at worked values and near misses.
use Rattle.std.proofs.Common.{◌≡◌, ℕ, ◌+◌, ◌≤◌, List, Some, None, arith}
use Rattle.std.specs.Prelude.{codes}
use Rattle.std.proofs.lemmas.Option.{same_Some}
use Rattle.path_spec.specs.Trees.{star, opt, child, below, Expr, only, or, last, then, Item, once, signed, label}
use Rattle.index_api.specs.declared.kinds.Via.TheVariants.{Data, A, One, Fb, B}
use Rattle.branch_spec.specs.Trees as tree
use Rattle.branch_query.specs.Queries.{of_path, of_branch}
use Rattle.path_spec.specs.Matches.{Matches}
use Rattle.path_spec.specs.Longest.{IsLongest}
use Rattle.path_spec.proofs.Longest.{one_longest}
use Rattle.path_expr.proofs.LongestWords.{longest_is}
use Rattle.index_eval.specs.Exactness.{IsExact, HasLongestWithin}

-- what has a longest word of n labels has none within fewer
too_long : (e : Expr) (n most : ℕ) → IsLongest (Matches e) (Some n) → HasLongestWithin e most → n ≤ most
too_long e n most is h =
    let same : Some n ≡ Some h.0 = one_longest (Matches e) (Some n) (Some h.0) is h.1 in
    let e : n ≡ h.0 = same_Some n h.0 same in
    let low = h.2 in
    omega (arith, e, low)

none_within : (e : Expr) (most : ℕ) → IsLongest (Matches e) None → ¬ HasLongestWithin e most
none_within e most any h = cc (one_longest (Matches e) None (Some h.0) any h.1)

abbrev item : List ℕ → Item
item t = once (label t)

-- a/b/c
abbrev three_labels : Expr
three_labels = only (then (item (codes "a")) child (then (item (codes "b")) child (last (item (codes "c")))))

-- a//c
abbrev any_length : Expr
any_length = only (then (item (codes "a")) below (last (item (codes "c"))))

-- a*
abbrev stars : Expr
stars = only (last (signed (label (codes "a")) star))

-- a/b?|c
abbrev at_most_two : Expr
at_most_two = or (then (item (codes "a")) child (last (signed (label (codes "b")) opt))) (only (last (item (codes "c"))))

-- three labels need level 2
level_two : IsExact (A 2) (of_path three_labels)
level_two = (3, longest_is three_labels, omega arith)

not_level_one : ¬ IsExact (A 1) (of_path three_labels)
not_level_one h = let few = too_long three_labels 3 2 (longest_is three_labels) h in omega (arith, few)

-- the longest word counts
two_labels : IsExact (A 1) (of_path at_most_two)
two_labels = (2, longest_is at_most_two, omega arith)

not_level_zero : ¬ IsExact (A 0) (of_path at_most_two)
not_level_zero h = let few = too_long at_most_two 2 1 (longest_is at_most_two) h in omega (arith, few)

-- no level tells where there is no longest word; the other indexes do
no_level : (i : ℕ) → ¬ IsExact (A i) (of_path any_length)
no_level i h = none_within any_length (i + 1) (longest_is any_length) h

no_level_of_stars : (i : ℕ) → ¬ IsExact (A i) (of_path stars)
no_level_of_stars i h = none_within stars (i + 1) (longest_is stars) h

any_length_of_one : IsExact One (of_path any_length)
any_length_of_one = tt

any_length_of_fb : IsExact Fb (of_path any_length)
any_length_of_fb = tt

-- the graph itself is no index
not_data : ¬ IsExact Data (of_path three_labels)
not_data h = h

-- a[/b]: a branching query is exact through the forward and backward index, and through a bounded one of its depth, 1
abbrev with_child : tree.Branch
with_child =
    tree.first_step (tree.step (tree.label (codes "a")) (tree.pred (tree.one (tree.lone (tree.rel tree.child (tree.step (tree.label (codes "b")) tree.none) tree.no_step))) tree.none)) tree.no_step

branching_of_fb : IsExact Fb (of_branch with_child)
branching_of_fb = tt

branching_of_bounded : IsExact (B 1) (of_branch with_child)
branching_of_bounded = omega arith

not_of_lowest : ¬ IsExact (B 0) (of_branch with_child)
not_of_lowest h = omega (arith, h)

no_level_of_branching : (i : ℕ) → ¬ IsExact (A i) (of_branch with_child)
no_level_of_branching i h = h

branching_not_of_one : ¬ IsExact One (of_branch with_child)
branching_not_of_one h = h

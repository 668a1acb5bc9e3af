-- The longest matching words at worked values.
use Rattle.std.proofs.Common.{List, ℕ, Some, None}
use Rattle.std.specs.Prelude.{codes}
use Rattle.path_spec.specs.Trees.{star, child, below, Expr, only, or, Item, last, then, once, signed, label, group}
use Rattle.path_spec.specs.Matches.{Matches}
use Rattle.path_spec.specs.Longest.{IsLongest}
use Rattle.path_expr.proofs.LongestWords.{longest_is}

abbrev item : List ℕ → Item
item t = once (label t)

-- c|a/b
abbrev c_or_ab : Expr
c_or_ab = or (last (item (codes "c"))) (only (then (item (codes "a")) child (last (item (codes "b")))))

two_labels : IsLongest (Matches c_or_ab) (Some 2)
two_labels = longest_is c_or_ab

-- (a/b)*
abbrev ab_star : Expr
ab_star = only (last (signed (group (only (then (item (codes "a")) child (last (item (codes "b")))))) star))

none_of_stars : IsLongest (Matches ab_star) None
none_of_stars = longest_is ab_star

-- a//c
abbrev a_below_c : Expr
a_below_c = only (then (item (codes "a")) below (last (item (codes "c"))))

none_of_below : IsLongest (Matches a_below_c) None
none_of_below = longest_is a_below_c

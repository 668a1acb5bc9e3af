-- How long the words of an expression are.
use Rattle.std.specs.Prelude.{ℕ, ◌≤◌, ◌^◌, Option, None, Some}
use Rattle.path_spec.specs.Trees.{Expr}
use Rattle.path_expr.specs.WordLengths.{longest}

-- where there is a longest word, it has at most so many labels
abbrev pub IsBounded : Option ℕ → ℕ → Type 0
IsBounded None most = Unit {0}
IsBounded (Some n) most = n ≤ most

-- where the expression has a longest word, that fits into 32 bits: a limit on bytes is at most 2^30
abbrev pub IsNarrow : Expr → Type 0
IsNarrow e = IsBounded (longest e) (2 ^ 30)

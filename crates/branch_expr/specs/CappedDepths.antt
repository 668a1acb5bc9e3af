-- Depths up to a greatest one.
use Rattle.std.specs.Prelude.{ℕ, ◌≡◌, ◌-◌, ◌^◌, Option}
use Rattle.path_expr.specs.Capped.{capped}

-- the greatest number of 32 bits
abbrev pub greatest_depth : ℕ
greatest_depth = 2 ^ 32 - 1

-- the number is the depth, as far as 32 bits go
abbrev pub IsCappedDepth : Option ℕ → Option ℕ → Type 0
IsCappedDepth depth number = number ≡ capped greatest_depth depth

-- Bounds on the depth of a whole are bounds on the depths of its parts.
use Rattle.std.proofs.Common.{◌≡◌, ℕ, zero, suc, Option, None, Some, refl, arith}
use Rattle.path_spec.specs.Longest.{greater}
use Rattle.branch_spec.specs.Trees.{Axis, child, below, parent, above}
use Rattle.branch_spec.specs.Depths.{one_more, further, IsUpTo}

pub both_up_to : (a b : Option ℕ) (i : ℕ) → IsUpTo (greater a b) i → IsUpTo a i × IsUpTo b i
both_up_to None b i h = absurd h
both_up_to (Some m) None i h = absurd h
both_up_to (Some m) (Some n) i h = (omega (arith, h), omega (arith, h))

-- one level down, what lies one edge further off is still seen
pub record IsOneUp (d : Option ℕ) (i : ℕ) : Type 0 where
  pub level : ℕ
  pub is : i ≡ suc level
  pub within : IsUpTo d level

one_up : (d : Option ℕ) (i : ℕ) → IsUpTo (one_more d) i → IsOneUp d i
one_up None i h = absurd h
one_up (Some n) zero h = absurd (omega (arith, h))
one_up (Some n) (suc i) h = record { level = i; is = refl; within = omega (arith, h) }

pub further_up : (a : Axis) (d : Option ℕ) (i : ℕ) → IsUpTo (further a d) i → IsOneUp d i
further_up child d i h = one_up d i h
further_up below d i h = absurd h
further_up parent d i h = one_up d i h
further_up above d i h = absurd h

-- How much there is to read at affected nodes.
use Rattle.std.proofs.Common.{◌≡◌, ℕ, ◌≤◌, arith, inl, inr, true, Bool}
use Rattle.std.proofs.lemmas.Bool.{cases_Bool}
use Rattle.graph_spec.specs.Shapes.{Shape}
use Rattle.bisim_spec.specs.declared.sides.Sides.{Sides}
use Rattle.bisim_spec.specs.SidedLevels.{spread, affected}
use Rattle.bisim_spec.specs.Weights.{weight_at, weight}
use Rattle.bisim_spec.proofs.Reached.{within_more}
use Rattle.one_spec.proofs.Sums.{where_in, sum_most}

-- a set within another one weighs no more
pub weight_within : (s : Shape) (p q : ℕ → Bool) → ((n : ℕ) → p n ≡ true → q n ≡ true) → weight s p ≤ weight s q
weight_within s p q h = sum_most s.size (where_in p (weight_at s)) (where_in q (weight_at s)) (λ k l. elim (cases_Bool (p k)) [
  | inl on ↦ (let e = h k on in rw (on, e) (omega arith))
  | inr off ↦ rw off (omega arith)
])

pub affected_weight : (which : Sides) (s : Shape) (from : ℕ → Bool) (j i : ℕ) → j ≤ i → weight s (affected which s from j) ≤ weight s (affected which s from i)
affected_weight which s from j i l = weight_within s (affected which s from j) (affected which s from i) (λ n h. within_more (spread which s) from j i n l h)

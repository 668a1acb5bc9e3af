-- Neighbours have blocks.
use Rattle.std.proofs.Common.{◌≡◌, ℕ, suc, ◌<◌, List, [], ◌∷◌, length, Option, Some, IsSome, IsTrue, Bool, true, true≢false, sym, arith, inl, inr, get_or}
use Rattle.graph_spec.proofs.MemberLaws.{has_cases}
use Rattle.graph_spec.specs.Members.{at, has}
use Rattle.bisim_spec.proofs.Bisimilar.{some_of}
use Rattle.bisim_spec.specs.declared.sides.Side.{Side}
use Rattle.bisim_spec.specs.declared.sides.Side.TheVariants.{Parents, Children}
use Rattle.round_refinement.specs.NeighbourSides.{is_neighbour}

pub neighbour_block : (side : Side) (label : ℕ → Option ℕ) (edge : ℕ → ℕ → Bool) (base : List (Option ℕ)) → ((u v : ℕ) → IsTrue (edge u v) → IsSome (label u) × IsSome (label v))
    → ((n : ℕ) → IsSome (label n) → IsSome (at base n)) → (p n : ℕ) → IsTrue (is_neighbour side edge p n) → (b : ℕ) × (at base p ≡ Some b)
neighbour_block Parents label edge base ends live p n e = some_of (at base p) (live p (ends p n e).0)
neighbour_block Children label edge base ends live p n e = some_of (at base p) (live p (ends n p e).1)

-- where a number stands in a list
pub place_of : (xs : List ℕ) (x : ℕ) → has xs x ≡ true → (i : ℕ) × (i < length xs) × (get_or xs i 0 ≡ x)
place_of [] x h = absurd (true≢false (sym h))
place_of (y ∷ ys) x h = elim (has_cases y ys x h) [
  | inl e ↦ (0, omega arith, sym e)
  | inr t ↦ let r = place_of ys x t in (suc r.0, (let l = r.1 in omega arith), r.2)
]

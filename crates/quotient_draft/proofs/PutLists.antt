-- Lists in which a number is put, or taken away.
use Rattle.std.proofs.Common.{◌≡◌, ◌≢◌, ℕ, zero, suc, List, [], ◌∷◌, length, Option, Some, None, IsSome, is_some, refl, ◌∙◌, ap, inl, inr, true, cond, slice_set}
use Rattle.std.specs.Prelude.{nat_eq}
use Rattle.std.proofs.lemmas.Bool.{cases_lt}
use Rattle.std.proofs.lemmas.Bool.Decides.{eqb_tells}
use Rattle.std.proofs.lemmas.List.{get_or-set_same, get_or-set_other, get_or_past, set_past}
use Rattle.graph_spec.specs.Members.{at}
use Rattle.block_partition.specs.LabelledPartitions.{put}
use Rattle.block_partition.proofs.PutNumbers.{same_number, put_here, at_put}
use Rattle.quotient.specs.Quotients.{with_put}

taken_here : (xs : List (Option ℕ)) (n : ℕ) → at (slice_set xs n None) n ≡ None
taken_here xs n = elim (cases_lt n (length xs)) [
  | inl l ↦ get_or-set_same xs n None None l
  | inr past ↦ ap (λ (ys : List (Option ℕ)). at ys n) (set_past xs n None past) ∙ get_or_past xs n None past
]

-- and once it is put there, or taken away
pub at_with_put : (xs : List (Option ℕ)) (n : ℕ) (v : Option ℕ) (m : ℕ) → at (with_put xs n v) m ≡ cond (nat_eq m n) v (at xs m)
at_with_put xs n (Some v) m = at_put xs n v m
at_with_put xs n None m = elim (eqb_tells m n) [
  | inl s ↦ rw (s.1, same_number n) (taken_here xs n)
  | inr d ↦ rw d.0 (get_or-set_other xs n m None None d.1)
]

-- what was there stays
pub some_put : (xs : List (Option ℕ)) (n v m : ℕ) → IsSome (at xs m) → IsSome (at (put xs n v) m)
some_put xs n v m h = elim (eqb_tells m n) [
  | inl s ↦ ap is_some (at_put xs n v m) ∙ rw s.0 refl
  | inr d ↦ ap is_some (at_put xs n v m) ∙ rw d.0 h
]

pub put_some : (xs : List (Option ℕ)) (n v : ℕ) → IsSome (at (put xs n v) n)
put_some xs n v = ap is_some (put_here xs n v)

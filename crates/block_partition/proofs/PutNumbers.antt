-- What stands in a list once a number is put.
use Rattle.std.proofs.Common.{◌≡◌, ◌≢◌, ℕ, zero, suc, List, [], ◌∷◌, Option, Some, refl, ap, inl, inr, true, cond}
use Rattle.std.specs.Prelude.{nat_eq}
use Rattle.std.proofs.lemmas.Bool.Decides.{eqb_tells}
use Rattle.graph_spec.specs.Members.{at}
use Rattle.block_partition.specs.LabelledPartitions.{put}

pub same_number : (n : ℕ) → nat_eq n n ≡ true
same_number n = elim (eqb_tells n n) [ inl s ↦ s.0 | inr d ↦ absurd (d.1 refl) ]

pub put_here : (xs : List (Option ℕ)) (n v : ℕ) → at (put xs n v) n ≡ Some v
put_here [] zero v = refl
put_here [] (suc n) v = put_here [] n v
put_here (x ∷ xs) zero v = refl
put_here (x ∷ xs) (suc n) v = put_here xs n v

put_there : (xs : List (Option ℕ)) (n v m : ℕ) → m ≢ n → at (put xs n v) m ≡ at xs m
put_there [] zero v zero d = absurd (d refl)
put_there [] zero v (suc m) d = refl
put_there [] (suc n) v zero d = refl
put_there [] (suc n) v (suc m) d = put_there [] n v m (λ e. d (ap suc e))
put_there (x ∷ xs) zero v zero d = absurd (d refl)
put_there (x ∷ xs) zero v (suc m) d = refl
put_there (x ∷ xs) (suc n) v zero d = refl
put_there (x ∷ xs) (suc n) v (suc m) d = put_there xs n v m (λ e. d (ap suc e))

-- what each place has, once a number is put
pub at_put : (xs : List (Option ℕ)) (n v m : ℕ) → at (put xs n v) m ≡ cond (nat_eq m n) (Some v) (at xs m)
at_put xs n v m = elim (eqb_tells m n) [
  | inl s ↦ rw (s.1, same_number n) (put_here xs n v)
  | inr d ↦ rw d.0 (put_there xs n v m d.1)
]

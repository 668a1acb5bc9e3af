-- Names of nodes, one more at a time.
use Rattle.std.proofs.Common.{◌≡◌, ℕ, zero, suc, ◌<◌, List, [], ◌∷◌, length, get_or, Some, refl, sym, ◌∙◌, ap, subst, arith, inl, inr}
use Rattle.std.specs.Prelude.{slice_set, slice_index_or}
use Rattle.std.proofs.Math.ListN.{replicate}
use Rattle.triples_read.specs.declared.term.Term.{Term}
use Rattle.term_table.specs.Terms.{number_of}
use Rattle.index_picture.specs.ShownNames.{term_name}
use Rattle.index_picture.specs.NamedTerms.{IsNameAt, AreTermNames}
use Rattle.index_picture.proofs.ListLaws.{no_text}

-- what stands at a place once one place is written
set_at : (P : ℕ → List ℕ → Type 0) (xs : List (List ℕ)) (n m : ℕ) (t : List ℕ) → n < length xs → P n t → P m (get_or xs m []) → P m (get_or (slice_set xs n t) m [])
set_at P [] n m t l a b = absurd (omega (arith, l))
set_at P (x ∷ xs) zero zero t l a b = a
set_at P (x ∷ xs) zero (suc m) t l a b = b
set_at P (x ∷ xs) (suc n) zero t l a b = b
set_at P (x ∷ xs) (suc n) (suc m) t l a b = set_at (λ k. P (suc k)) xs n m t (omega (arith, l)) a b

pub named_more : (terms : List (Term × ℕ)) (list list2 : List (List ℕ)) (x : Term) (n : ℕ) → AreTermNames terms list → number_of terms x ≡ Some n
    → n < length list → list2 ≡ slice_set list n (term_name x) → AreTermNames terms list2
named_more terms list list2 x n named num l e = λ m.
    subst (λ ls. IsNameAt terms m (slice_index_or ls m [])) (sym e)
    (set_at (IsNameAt terms) list n m (term_name x) l (inr (x, num, refl)) (named m))

empty_at : (k n : ℕ) → get_or (replicate k no_text) n no_text ≡ []
empty_at zero n = refl
empty_at (suc k) zero = refl
empty_at (suc k) (suc n) = empty_at k n

pub none_named : (terms : List (Term × ℕ)) (k : ℕ) (list : List (List ℕ)) → list ≡ replicate k no_text → AreTermNames terms list
none_named terms k list e = λ n. inl (ap (λ ls. get_or ls n no_text) e ∙ empty_at k n)

-- Rows that lie in one array.
use Rattle.std.proofs.Common.{◌≡◌, ℕ, zero, suc, ◌+◌, ◌<◌, ◌≤◌, List, [], ◌∷◌, length, get_or, refl, sym, ◌∙◌, ap, subst, arith}
use Rattle.std.specs.List.{slice_range}
use Rattle.adjacency.specs.Rows.{rows_in, rows_of, row, AreEnds}
use Rattle.adjacency.specs.Targets.{targets_of, before, AreFilled}
use Rattle.adjacency.proofs.TargetLaws.{before_few, before_none, before_more}

pub rows_many : (from : ℕ) (ends items : List ℕ) → length (rows_in from ends items) ≡ length ends
rows_many from [] items = refl
rows_many from (end ∷ ends) items = ap suc (rows_many end ends items)

-- a row by its number
pub row_in : (from : ℕ) (ends items : List ℕ) (n : ℕ) → n < length ends → row (rows_in from ends items) n ≡ slice_range items (get_or (from ∷ ends) n 0) (get_or ends n 0)
row_in from [] items n h = absurd (omega (arith, h))
row_in from (end ∷ ends) items zero h = refl
row_in from (end ∷ ends) items (suc n) h = row_in end ends items n (omega (arith, h))

pub row_of : (f : ℕ → List ℕ) (from count n : ℕ) → n < count → row (rows_of f from count) n ≡ f (from + n)
row_of f from zero n h = absurd (omega (arith, h))
row_of f from (suc count) zero h = ap f (omega arith)
row_of f from (suc count) (suc n) h = row_of f (suc from) count n (omega (arith, h)) ∙ ap f (omega arith)

pub row_first : (f : ℕ → List ℕ) (count n : ℕ) → n < count → row (rows_of f 0 count) n ≡ f n
row_first f count n h = (let none : 0 + n ≡ n = omega arith in row_of f 0 count n h ∙ ap f none)

pub rows_count : (f : ℕ → List ℕ) (from count : ℕ) → length (rows_of f from count) ≡ count
rows_count f from zero = refl
rows_count f from (suc count) = ap suc (rows_count f (suc from) count)

module _ (es : List (ℕ × ℕ)) (items : List ℕ) where
  rows_from : (n from : ℕ) (ends : List ℕ) → from ≡ before es n
      → ((i : ℕ) → i < length ends → get_or ends i 0 ≡ before es (suc (n + i)))
      → ((i : ℕ) → i < length ends → slice_range items (before es (n + i)) (before es (suc (n + i))) ≡ targets_of es (n + i))
      → rows_in from ends items ≡ rows_of (targets_of es) n (length ends)
  rows_from n from [] start each filled = refl
  rows_from n from (end ∷ ends) start each filled =
      let here : n + 0 ≡ n = omega arith in
      let last : end ≡ before es (suc n) = each 0 (omega arith) ∙ ap (λ m. before es (suc m)) here in
      let first : slice_range items from end ≡ targets_of es n =
      ap (λ b. slice_range items b end) start ∙ ap (slice_range items (before es n)) last
      ∙ subst (λ m. slice_range items (before es m) (before es (suc m)) ≡ targets_of es m) here (filled 0 (omega arith)) in
      let next : (i : ℕ) → n + suc i ≡ suc n + i = (λ i. omega arith) in
      ap (λ r. r ∷ rows_in end ends items) first
      ∙ ap (λ rs. targets_of es n ∷ rs)
      (rows_from (suc n) end ends last
      (λ i h. each (suc i) (omega (arith, h)) ∙ ap (λ m. before es (suc m)) (next i))
      (λ i h. subst (λ m. slice_range items (before es m) (before es (suc m)) ≡ targets_of es m) (next i) (filled (suc i) (omega (arith, h)))))

  module _ (size : ℕ) (ends : List ℕ) (f : AreFilled es es size ends items) where
    end_is : (n : ℕ) → n < size → get_or ends n 0 ≡ before es (suc n)
    end_is n h = f.place n h ∙ sym (before_more es n)

    pub rows_filled : rows_in 0 ends items ≡ rows_of (targets_of es) 0 size
    rows_filled =
        let l = f.all in
        rows_from 0 0 ends (sym (before_none es))
        (λ i h. end_is i (omega (arith, l, h)) ∙ ap (λ m. before es (suc m)) (omega arith))
        (λ i h. subst (λ m. slice_range items (before es m) (before es (suc m)) ≡ targets_of es m) (omega arith)
        (ap (slice_range items (before es i)) (before_more es i) ∙ f.filled i (omega (arith, l, h))))
        ∙ ap (rows_of (targets_of es) 0) l

    rises : (n : ℕ) → n < length ends → get_or (0 ∷ ends) n 0 ≤ get_or ends n 0
    rises zero h = omega arith
    rises (suc n) h =
        let l = f.all in
        let was = end_is n (omega (arith, l, h)) in
        let is = end_is (suc n) (omega (arith, l, h)) in
        let more = before_more es (suc n) in
        omega (arith, was, is, more)

    pub ends_filled : AreEnds ends (length items)
    ends_filled = record {
      rise = rises;
      within = λ n h. (let l = f.all in let is = end_is n (omega (arith, l, h)) in let few = before_few es (suc n) in let r = f.sized in omega (arith, is, few, r));
    }

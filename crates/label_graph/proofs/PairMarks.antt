-- The marks of the pairs once one comes, or goes.
use Rattle.std.proofs.Common.{◌≡◌, ℕ, zero, suc, ◌+◌, ◌%◌, Bool, true, false, List, [], ◌∷◌, ◌++◌, refl, sym, ap, ◌∙◌, arith, nat_eq, true≢false, IsTrue, get_or}
use Rattle.std.specs.Prelude.{slice_set, if◌then◌else◌}
use Rattle.std.proofs.lemmas.Bool.{eqb-true}
use Rattle.label_graph.specs.ReservedGraphs.{has_pair, without_pair, starting, ending}
use Rattle.label_graph.specs.PairMarks.{is_marked, marked, AreMarked}
use Rattle.label_graph.proofs.ReservedPairs.{starting-more, ending-more, starting-less, ending-less}

-- a set mark reads as one, and the others stay
mark-set : (marks : List Bool) (i : ℕ) → get_or (slice_set marks i true) i true ≡ true
mark-set [] i = refl
mark-set (b ∷ bs) zero = refl
mark-set (b ∷ bs) (suc i) = mark-set bs i

mark-unset : (marks : List Bool) (i j : ℕ) → get_or (slice_set marks i true) j true ≡ false → get_or marks j true ≡ false
mark-unset [] i j h = absurd (true≢false h)
mark-unset (b ∷ bs) zero zero h = absurd (true≢false h)
mark-unset (b ∷ bs) zero (suc j) h = h
mark-unset (b ∷ bs) (suc i) zero h = h
mark-unset (b ∷ bs) (suc i) (suc j) h = mark-unset bs i j h

-- the mark that is set is read again
marked-is : (marks : List Bool) (u w : ℕ) → u ≡ w → is_marked (marked marks u true) w ≡ true
marked-is marks u w e = ap (is_marked (marked marks u true)) (sym e) ∙ mark-set marks (u % 1024)

none-more : (marks : List Bool) (u w before after : ℕ) → after ≡ before + (if nat_eq u w then 1 else 0)
    → (is_marked marks w ≡ false → before ≡ 0) → is_marked (marked marks u true) w ≡ false → after ≡ 0
none-more marks u w before after more none h =
    elim (nat_eq u w) as (λ b. nat_eq u w ≡ b → after ≡ 0) [
      | true ↦ λ q. absurd (true≢false (sym (marked-is marks u w (eqb-true u w q)) ∙ h))
      | false ↦ λ q. omega (arith, more, none (mark-unset marks (u % 1024) (w % 1024) h), ap {B = ℕ} (λ b. if b then 1 else 0) q)
    ] refl

pub marks-more : (begin end : List Bool) (pairs : List (ℕ × ℕ)) (u v : ℕ) → AreMarked begin end pairs
    → AreMarked (marked begin u true) (marked end v true) (pairs ++ (u, v) ∷ [])
marks-more begin end pairs u v m = record {
  begins = λ w. none-more begin u w (starting w pairs) (starting w (pairs ++ (u, v) ∷ [])) (starting-more pairs u v w) (m.begins w);
  ends = λ w. none-more end v w (ending w pairs) (ending w (pairs ++ (u, v) ∷ [])) (ending-more pairs u v w) (m.ends w);
}

-- where pairs go, no mark is missing
pub marks-less : (begin end : List Bool) (pairs : List (ℕ × ℕ)) (u v : ℕ) → AreMarked begin end pairs → IsTrue (has_pair pairs u v)
    → AreMarked begin end (without_pair pairs u v)
marks-less begin end pairs u v m there = record {
  begins = λ w h. omega (arith, starting-less pairs u v w there, m.begins w h);
  ends = λ w h. omega (arith, ending-less pairs u v w there, m.ends w h);
}

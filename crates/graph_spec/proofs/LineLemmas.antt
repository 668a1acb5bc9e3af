-- The first line of a text.
use Rattle.std.proofs.Common.{◌≡◌, ◌≢◌, ℕ, ◌+◌, ◌≤◌, List, [], ◌∷◌, ◌++◌, length, refl, ap, ◌∙◌, sym, subst, arith, cond, true, false, Some}
use Rattle.std.specs.Prelude.{◌==◌, slice_get}
use Rattle.std.proofs.lemmas.Bool.{ne_eqb}
use Rattle.graph_spec.specs.Lines.{Line, cut, onto, ended, return_onto, IsUncut}

cut_other : (b : ℕ) (bs : List ℕ) → b ≢ 10 → b ≢ 13 → cut (b ∷ bs) ≡ onto b (cut bs)
cut_other b bs p q =
    ap (λ t. cond t (ended (10 ∷ []) ∷ cut bs) (cond (b == 13) (return_onto bs (cut bs)) (onto b (cut bs)))) (ne_eqb b 10 p)
    ∙ ap (λ t. cond t (return_onto bs (cut bs)) (onto b (cut bs))) (ne_eqb b 13 q)

-- a text up to its first LF, where no CR comes before it, is its first line
pub cut-feed : (text rest : List ℕ) → IsUncut text → cut (text ++ 10 ∷ rest) ≡ record { text = text; end = 10 ∷ [] } ∷ cut rest
cut-feed [] rest p = refl
cut-feed (b ∷ bs) rest p = cut_other b (bs ++ 10 ∷ rest) p.0 p.1 ∙ ap (onto b) (cut-feed bs rest p.2)

-- so is a text up to its first CR, where LF follows: both are the end
pub cut-return-feed : (text rest : List ℕ) → IsUncut text → cut (text ++ 13 ∷ 10 ∷ rest) ≡ record { text = text; end = 13 ∷ 10 ∷ [] } ∷ cut rest
cut-return-feed [] rest p = refl
cut-return-feed (b ∷ bs) rest p = cut_other b (bs ++ 13 ∷ 10 ∷ rest) p.0 p.1 ∙ ap (onto b) (cut-return-feed bs rest p.2)

return_alone : (text : List ℕ) (lines : List Line) → slice_get text 0 ≢ Some 10 → return_onto text lines ≡ ended (13 ∷ []) ∷ lines
return_alone [] lines p = refl
return_alone (b ∷ bs) [] p = refl
return_alone (b ∷ bs) (l ∷ ls) p = ap (λ t. cond t (ended (13 ∷ 10 ∷ []) ∷ ls) (ended (13 ∷ []) ∷ l ∷ ls)) (ne_eqb b 10 (λ e. p (ap Some e)))

-- and a text up to its first CR, where another byte follows or none
pub cut-return : (text rest : List ℕ) → IsUncut text → slice_get rest 0 ≢ Some 10 → cut (text ++ 13 ∷ rest) ≡ record { text = text; end = 13 ∷ [] } ∷ cut rest
cut-return [] rest p q = return_alone rest (cut rest) q
cut-return (b ∷ bs) rest p q = cut_other b (bs ++ 13 ∷ rest) p.0 p.1 ∙ ap (onto b) (cut-return bs rest p.2 q)

-- a text without an end is one line
pub cut-last : (b : ℕ) (text : List ℕ) → IsUncut (b ∷ text) → cut (b ∷ text) ≡ record { text = b ∷ text; end = [] } ∷ []
cut-last b [] p = cut_other b [] p.0 p.1
cut-last b (c ∷ cs) p = cut_other b (c ∷ cs) p.0 p.1 ∙ ap (onto b) (cut-last c cs p.2)

-- the first line has at least so many bytes without its end, and its end at least so many
pub record BeginsLong (text end : ℕ) (lines : List Line) : Type 0 where
  pub first : Line
  pub others : List Line
  pub lines_are : lines ≡ first ∷ others
  pub long : text ≤ length first.text
  pub end_long : end ≤ length first.end

longer : (n m b : ℕ) (lines : List Line) → BeginsLong n m lines → BeginsLong (n + 1) m (onto b lines)
longer n m b lines l = record {
  first = record { text = b ∷ l.first.text; end = l.first.end };
  others = l.others;
  lines_are = ap (onto b) l.lines_are;
  long = omega (arith, l.long);
  end_long = l.end_long;
}

starts_long : (b : ℕ) (lines : List Line) → BeginsLong 1 0 (onto b lines)
starts_long b [] = record { first = record { text = b ∷ []; end = [] }; others = []; lines_are = refl; long = omega arith; end_long = omega arith }
starts_long b (l ∷ ls) = record { first = record { text = b ∷ l.text; end = l.end }; others = ls; lines_are = refl; long = omega arith; end_long = omega arith }

-- the first line is at least as long as what stands before the first end
pub cut-long : (b : ℕ) (text more : List ℕ) → IsUncut (b ∷ text) → BeginsLong (length (b ∷ text)) 0 (cut ((b ∷ text) ++ more))
cut-long b [] more p = subst (BeginsLong 1 0) (sym (cut_other b more p.0 p.1)) (starts_long b (cut more))
cut-long b (c ∷ cs) more p =
    subst (BeginsLong (length (b ∷ c ∷ cs)) 0) (sym (cut_other b ((c ∷ cs) ++ more) p.0 p.1))
    (subst (λ n. BeginsLong n 0 (onto b (cut ((c ∷ cs) ++ more)))) (omega arith) (longer _ 0 b _ (cut-long c cs more p.2)))

return_ends : (text : List ℕ) (lines : List Line) → BeginsLong 0 1 (return_onto text lines)
return_ends [] lines = record { first = ended (13 ∷ []); others = lines; lines_are = refl; long = omega arith; end_long = omega arith }
return_ends (b ∷ bs) [] = record { first = ended (13 ∷ []); others = []; lines_are = refl; long = omega arith; end_long = omega arith }
return_ends (b ∷ bs) (l ∷ ls) =
    elim (b == 10) as (λ t. BeginsLong 0 1 (cond t (ended (13 ∷ 10 ∷ []) ∷ ls) (ended (13 ∷ []) ∷ l ∷ ls))) [
      | true ↦ record { first = ended (13 ∷ 10 ∷ []); others = ls; lines_are = refl; long = omega arith; end_long = omega arith }
      | false ↦ record { first = ended (13 ∷ []); others = l ∷ ls; lines_are = refl; long = omega arith; end_long = omega arith }
    ]

-- what stands before the first CR is the first line, whatever follows, and its end has a byte or more
pub cut-return-long : (text more : List ℕ) → IsUncut text → BeginsLong (length text) 1 (cut (text ++ 13 ∷ more))
cut-return-long [] more p = return_ends more (cut more)
cut-return-long (b ∷ bs) more p =
    subst (BeginsLong (length (b ∷ bs)) 1) (sym (cut_other b (bs ++ 13 ∷ more) p.0 p.1))
    (subst (λ n. BeginsLong n 1 (onto b (cut (bs ++ 13 ∷ more)))) (omega arith) (longer _ 1 b _ (cut-return-long bs more p.2)))

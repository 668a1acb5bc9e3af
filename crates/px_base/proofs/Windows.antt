-- Parts of a block, and of a line, and the first end in them.
use Rattle.std.proofs.Common.{◌≡◌, ◌≢◌, ℕ, zero, suc, get_or, length, false, ◌<◌, ◌+◌, ◌-◌, ◌≤◌, ◌||◌, ◌==◌, List, [], ◌∷◌, ◌++◌, take, drop, take_all, length-drop, refl, sym, ap, ◌∙◌, arith, Some, subst, true}
use Rattle.std.specs.Prelude.{slice_get, slice_index_or, nat_eq}
use Rattle.std.proofs.lemmas.List.{drop-take, drop-drop, take-append-drop}
use Rattle.std.proofs.lemmas.Bool.Decides.{nat_tests}
use Rattle.graph_spec.specs.Lines.{IsUncut}
use Rattle.px_base.specs.LineEnds.{has_end, IsStopped}
use Rattle.px_base.specs.GatheredLines.{TakesPart}

pub skip_range : (xs : List ℕ) (a b k : ℕ) → a + k ≤ b → take (b - (a + k)) (drop (a + k) xs) ≡ drop k (take (b - a) (drop a xs))
skip_range xs a b k h =
    let e : b - a ≡ k + (b - (a + k)) = omega arith in
    sym (ap (λ n. drop k (take n (drop a xs))) e ∙ drop-take k (b - (a + k)) (drop a xs) ∙ ap (take (b - (a + k))) (drop-drop k a xs))

pub plain-append : (text more : List ℕ) → IsUncut text → IsUncut more → IsUncut (text ++ more)
plain-append [] more p q = q
plain-append (c ∷ cs) more p q = (p.0, p.1, plain-append cs more p.2 q)

-- the test of the search fails at no place below n
pub plain-take : (xs : List ℕ) (n : ℕ) → ((k : ℕ) → k < n → k < length xs → get_or xs k 0 == 10 || get_or xs k 0 == 13 ≢ true) → IsUncut (take n xs)
plain-take [] zero p = tt
plain-take [] (suc n) p = tt
plain-take (x ∷ xs) zero p = tt
plain-take (x ∷ xs) (suc n) p =
    let q = p 0 (omega arith) (omega arith) in
    (grind (arith, nat_tests), grind (arith, nat_tests), plain-take xs n (λ k h l. p (suc k) (omega arith) (omega arith)))

-- what is ahead has a whole end exactly where the rest after a part without LF and CR has one
pub end-behind : (part rest : List ℕ) → IsUncut part → has_end (part ++ rest) ≡ has_end rest
end-behind [] rest p = refl
end-behind (b ∷ []) [] p = let q = p.0 in grind (arith, nat_tests)
end-behind (b ∷ []) (c ∷ cs) p = let q = p.0 in let r = p.1 in grind (arith, nat_tests)
end-behind (b ∷ c ∷ cs) rest p = let q = p.0 in let r = p.1 in let e = end-behind (c ∷ cs) rest p.2 in grind (arith, nat_tests)

pub end-dropped : (xs : List ℕ) (n : ℕ) → IsUncut (take n xs) → has_end xs ≡ has_end (drop n xs)
end-dropped xs n p = ap has_end (sym (take-append-drop n xs)) ∙ end-behind (take n xs) (drop n xs) p

-- the first byte, and what is behind it
pub first-split : (xs : List ℕ) (b : ℕ) → slice_get xs 0 ≡ Some b → xs ≡ b ∷ drop 1 xs
first-split [] b e = cc
first-split (x ∷ xs) b e = let q : x ≡ b = cc in ap (λ y. y ∷ xs) q

-- the same for the rest as it is sliced, and what its length says
pub end-sliced : (xs : List ℕ) (n : ℕ) → IsUncut (take n xs) → has_end xs ≡ has_end (take (length xs - n) (drop n xs))
end-sliced xs n p = end-dropped xs n p ∙ ap has_end (sym (take_all (length xs - n) (drop n xs) (rw length-drop (omega arith))))

pub stopped-sliced : (xs : List ℕ) (n : ℕ) → IsStopped (drop n xs) → IsStopped (take (length xs - n) (drop n xs))
stopped-sliced xs n p = subst IsStopped (sym (take_all (length xs - n) (drop n xs) (rw length-drop (omega arith)))) p

pub end-none : (xs : List ℕ) → length xs < 1 → false ≡ has_end xs
end-none [] h = refl
end-none (x ∷ xs) h = absurd (omega arith)

pub end-one : (xs : List ℕ) → 1 ≤ length xs → length xs < 2 → nat_eq (slice_index_or xs 0 0) 10 ≡ has_end xs
end-one [] h l = absurd (omega arith)
end-one (x ∷ []) h l = refl
end-one (x ∷ y ∷ ys) h l = absurd (omega arith)

pub end-more : (xs : List ℕ) → 2 ≤ length xs → IsStopped xs → true ≡ has_end xs
end-more [] h p = absurd (omega arith)
end-more (x ∷ []) h p = absurd (omega arith)
end-more (x ∷ y ∷ ys) h p = grind (arith, nat_tests)

-- nothing has no end
pub ends-nowhere : (xs : List ℕ) → xs ≡ [] → has_end xs ≢ true
ends-nowhere xs e h = let p = ap has_end e in cc

-- what went behind the line has no end
pub end-part : {most : ℕ} {ahead line rest new : List ℕ} → TakesPart most ahead line rest new → has_end ahead ≡ has_end rest
end-part {ahead = ahead} {rest = rest} t = ap has_end t.ahead_is ∙ end-behind t.part rest t.plain

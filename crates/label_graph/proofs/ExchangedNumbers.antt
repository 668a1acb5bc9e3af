-- A list whose numbers are replaced one by one.
use Rattle.std.proofs.Common.{◌≡◌, ℕ, zero, suc, ◌<◌, ◌≤◌, List, [], ◌∷◌, length, map, refl, ap, arith, get_or, set}

-- the first k of them are replaced
abbrev pub replaced : (ℕ → ℕ) → ℕ → List ℕ → List ℕ
replaced f zero xs = xs
replaced f (suc k) [] = []
replaced f (suc k) (x ∷ xs) = f x ∷ replaced f k xs

pub replaced-length : (f : ℕ → ℕ) (k : ℕ) (xs : List ℕ) → length (replaced f k xs) ≡ length xs
replaced-length f zero xs = refl
replaced-length f (suc k) [] = refl
replaced-length f (suc k) (x ∷ xs) = ap suc (replaced-length f k xs)

-- the next one is replaced
pub replaced-next : (f : ℕ → ℕ) (k : ℕ) (xs : List ℕ) (d : ℕ) → k < length xs → set (replaced f k xs) k (f (get_or (replaced f k xs) k d)) ≡ replaced f (suc k) xs
replaced-next f zero [] d h = absurd (omega (arith, h))
replaced-next f zero (x ∷ xs) d h = refl
replaced-next f (suc k) [] d h = refl
replaced-next f (suc k) (x ∷ xs) d h = ap (λ l. f x ∷ l) (replaced-next f k xs d (omega (arith, h)))

pub replaced-all : (f : ℕ → ℕ) (k : ℕ) (xs : List ℕ) → length xs ≤ k → replaced f k xs ≡ map f xs
replaced-all f zero [] h = refl
replaced-all f zero (x ∷ xs) h = absurd (omega (arith, h))
replaced-all f (suc k) [] h = refl
replaced-all f (suc k) (x ∷ xs) h = ap (λ l. f x ∷ l) (replaced-all f k xs (omega (arith, h)))

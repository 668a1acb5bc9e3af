-- The first numbers that pass.
use Rattle.std.proofs.Common.{◌≡◌, ℕ, zero, suc, ◌<◌, ◌≤◌, Bool, true, false, List, [], ◌∷◌, ◌++◌, ◌&&◌, length, refl, sym, ◌∙◌, ap, arith, inl, inr}
use Rattle.std.specs.Prelude.{if◌then◌else◌, nat_lt}
use Rattle.std.proofs.lemmas.Bool.{cases_lt, le-ltb}
use Rattle.index_picture.specs.DrawnBlocks.{firsts_below}

stays : {X : Type 0} (a b : Bool) (x y : X) → b ≡ false → (if a && b then x else y) ≡ y
stays true b x y e = ap (λ c. if c then x else y) e
stays false b x y e = refl

-- once there are so many, no more come
pub firsts_full : (most : ℕ) (p : ℕ → Bool) (k n : ℕ) → most ≤ length (firsts_below most p k) → k ≤ n → firsts_below most p n ≡ firsts_below most p k
firsts_full most p k zero h l = let e : 0 ≡ k = omega (arith, l) in ap (firsts_below most p) e
firsts_full most p k (suc n) h l = elim (cases_lt k (suc n)) [
  | inl below ↦ (
      let same = firsts_full most p k n h (omega (arith, below)) in
      let long : most ≤ length (firsts_below most p n) = (let e = ap length same in omega (arith, h, e)) in
      stays (p n) (nat_lt (length (firsts_below most p n)) most) (firsts_below most p n ++ n ∷ []) (firsts_below most p n) (le-ltb (length (firsts_below most p n)) most long) ∙ same)
  | inr past ↦ (let e : suc n ≡ k = omega (arith, l, past) in ap (firsts_below most p) e)
]

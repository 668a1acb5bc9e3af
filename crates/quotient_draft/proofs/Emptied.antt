-- Tables that are emptied.
use Rattle.std.proofs.Common.{◌≡◌, ℕ, List, [], Option, refl, subst, sym, arith}
use Rattle.std.specs.List.{IsDistinct}
use Rattle.std.specs.Map.{keys_of}
use Rattle.smallvec.specs.SmallVec.{SmallVec}
use Rattle.quotient_draft.specs.PairEnds.{AreNoted}
use Rattle.quotient_draft.specs.PutLogs.{AreMoves}

nothing_noted : AreNoted [] [] []
unfolding IsDistinct
nothing_noted = record { once = tt; from_are = λ a. refl; onto_are = λ b. refl }

-- where there are no pairs, no ends are noted
pub none_noted : (pairs : List ((ℕ × ℕ) × ℕ)) (from onto : List (ℕ × SmallVec ℕ)) → pairs ≡ [] → from ≡ [] → onto ≡ [] → AreNoted (keys_of pairs) from onto
none_noted pairs from onto p f o =
    subst (λ ps. AreNoted (keys_of ps) from onto) (sym p) (subst (λ fs. AreNoted [] fs onto) (sym f) (subst (λ os. AreNoted [] [] os) (sym o) nothing_noted))

nothing_moved : (puts : List (ℕ × ℕ)) → AreMoves [] [] [] puts
unfolding IsDistinct
nothing_moved puts = record { once = tt; into_are = λ b. refl; few = λ b. omega arith; put = λ n b h. absurd (cc) }

-- where nothing is moved, nothing is counted
pub none_moved : (moves : List (ℕ × Option ℕ)) (into taken puts : List (ℕ × ℕ)) → moves ≡ [] → into ≡ [] → taken ≡ [] → AreMoves moves into taken puts
none_moved moves into taken puts m i t =
    subst (λ ms. AreMoves ms into taken puts) (sym m) (subst (λ xs. AreMoves [] xs taken puts) (sym i) (subst (λ xs. AreMoves [] [] xs puts) (sym t) (nothing_moved puts)))

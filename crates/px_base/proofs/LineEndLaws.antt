-- Taking the end of a line.
use Rattle.std.proofs.Common.{◌≡◌, ◌≢◌, ℕ, ◌<◌, List, [], ◌∷◌, drop, Option, None, Some, refl, sym, ap, arith, subst, inl, inr}
use Rattle.std.specs.Prelude.{slice_get}
use Rattle.std.specs.Io.KnownBytes.{Consumes, Keeps, prepend_known, IsAtEnd}
use Rattle.std.proofs.KnownBytes.{Consumes-kept, Consumes-trans}
use Rattle.px_base.specs.declared.line_end.LineEnd.TheVariants.{Feed, Return, ReturnFeed}
use Rattle.px_base.specs.LineEnds.{IsWhole, IsStopped, TakesEnd, EndPasses}
use Rattle.px_base.proofs.GatheredParts.{consumes-part}
use Rattle.px_base.proofs.Windows.{first-split}

-- CR is ahead, and then what the window holds after it was filled
after-return : (window next : List ℕ) (left rest : Option (List ℕ)) → slice_get window 0 ≡ Some 13 → Keeps (prepend_known (drop 1 window) left) (prepend_known next rest)
    → Consumes (prepend_known window left) (prepend_known next rest) (13 ∷ [])
after-return window next left rest e k =
    Consumes-kept (prepend_known window left) (prepend_known (drop 1 window) left) (prepend_known next rest) (13 ∷ [])
    (consumes-part left window (13 ∷ []) (drop 1 window) (first-split window 13 e)) k

feedless : (next : List ℕ) (rest : Option (List ℕ)) → slice_get next 0 ≢ Some 10 → (next ≡ [] → IsAtEnd rest) → IsWhole Return (prepend_known next rest)
feedless next None n over = tt
feedless [] (Some y) n over = subst (λ z. slice_get z 0 ≢ Some 10) (sym (over refl)) n
feedless (b ∷ bs) (Some y) n over = n

pub takes-return : (most : ℕ) (window next : List ℕ) (left rest : Option (List ℕ)) → 0 < most → slice_get window 0 ≡ Some 13
    → Keeps (prepend_known (drop 1 window) left) (prepend_known next rest) → (next ≡ [] → IsAtEnd rest) → slice_get next 0 ≢ Some 10
    → TakesEnd most Return (prepend_known window left) (prepend_known next rest)
takes-return most window next left rest h e k over n = record { fits = h; observable = after-return window next left rest e k; whole = feedless next rest n over }

after-both : (window next : List ℕ) (left rest : Option (List ℕ)) → slice_get window 0 ≡ Some 13 → Keeps (prepend_known (drop 1 window) left) (prepend_known next rest)
    → slice_get next 0 ≡ Some 10 → Consumes (prepend_known window left) (prepend_known (drop 1 next) rest) (13 ∷ 10 ∷ [])
after-both window next left rest e k f =
    Consumes-trans (prepend_known window left) (prepend_known next rest) (prepend_known (drop 1 next) rest) (13 ∷ []) (10 ∷ [])
    (after-return window next left rest e k) (consumes-part rest next (10 ∷ []) (drop 1 next) (first-split next 10 f))

-- LF behind CR is one byte too many
pub both-pass : (most : ℕ) (window next : List ℕ) (left rest : Option (List ℕ)) → most < 2 → slice_get window 0 ≡ Some 13
    → Keeps (prepend_known (drop 1 window) left) (prepend_known next rest) → slice_get next 0 ≡ Some 10 → EndPasses most (prepend_known window left)
both-pass most window next left rest h e k f = record { end = ReturnFeed; rest = prepend_known (drop 1 next) rest; long = h; observable = after-both window next left rest e k f }

-- the first byte of the end is one too many
pub first-passes : (most b : ℕ) (window : List ℕ) (left : Option (List ℕ)) → most ≡ 0 → IsStopped window → slice_get window 0 ≡ Some b → EndPasses most (prepend_known window left)
first-passes most b [] left z p e = cc
first-passes most b (x ∷ xs) left z (inl p) e =
    record { end = Feed; rest = prepend_known xs left; long = omega arith; observable = consumes-part left (x ∷ xs) (10 ∷ []) xs (ap (λ y. y ∷ xs) p) }
first-passes most b (x ∷ xs) left z (inr p) e =
    record { end = Return; rest = prepend_known xs left; long = omega arith; observable = consumes-part left (x ∷ xs) (13 ∷ []) xs (ap (λ y. y ∷ xs) p) }

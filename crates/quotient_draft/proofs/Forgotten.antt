-- The last entry of a list is taken out.
use Rattle.std.proofs.Common.{◌≡◌, ◌<◌, List, [], ◌∷◌, ◌++◌, Option, Some, None, IsSome, length, sym, ◌∙◌, ap, option_to_list, true≢false, arith}
use Rattle.std.proofs.lemmas.List.{length-append}
use Rattle.std.proofs.Math.Seq.{take-append_seam}
use Rattle.std.specs.Prelude.{take}

same_prefix : {X : Type 0} (xs ys : List X) (x y : X) → xs ++ x ∷ [] ≡ ys ++ y ∷ [] → xs ≡ ys
same_prefix xs ys x y e =
    let left = length-append xs (x ∷ []) in
    let right = length-append ys (y ∷ []) in
    let both = ap length e in
    let len : length xs ≡ length ys = omega (arith, left, right, both) in
    sym (take-append_seam xs (x ∷ [])) ∙ ap (take (length xs)) e ∙ ap (λ n. take n (ys ++ y ∷ [])) len ∙ take-append_seam ys (y ∷ [])

pub last_gone : {X : Type 0} (old new es : List X) (e : X) (last : Option X) → old ≡ new ++ option_to_list last → (0 < length old → IsSome last) → old ≡ es ++ e ∷ [] → new ≡ es
last_gone old new es e None split some list =
    let len = ap length list ∙ length-append es (e ∷ []) in
    absurd (true≢false (sym (some (omega (arith, len)))))
last_gone old new es e (Some x) split some list = same_prefix new es x e (sym split ∙ list)

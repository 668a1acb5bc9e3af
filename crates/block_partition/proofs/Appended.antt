-- Tables to which one place is appended.
use Rattle.std.proofs.Common.{◌≡◌, ℕ, ◌+◌, ◌-◌, ◌<◌, List, [], ◌∷◌, ◌++◌, length, Option, Some, None, IsSome, refl, sym, ◌∙◌, ap, arith, slice_set, slice_index}
use Rattle.std.proofs.Math.ListN.{replicate}
use Rattle.std.proofs.lemmas.List.{length-append, get_or_past}
use Rattle.graph_spec.specs.Members.{at}
use Rattle.block_partition.specs.Tables.{Table, Gaps, NumberSet, set_at, grown, IsIn}
use Rattle.block_partition.specs.Soundness.{IsSoundPartition}
use Rattle.block_partition.proofs.Growth.{length_grown}
use Rattle.block_partition.proofs.Mirrors.{at_grown}
use Rattle.block_partition.proofs.KeepsSound.{put_in, sound_grown, sound_in}

-- one more place with none
pub grown_next : (xs : List (Option ℕ)) (n : ℕ) → length xs ≡ n → grown xs (n + 1) ≡ xs ++ None ∷ []
grown_next xs n len = let one : n + 1 - length xs ≡ 1 = omega (arith, len) in ap (λ k. xs ++ replicate k None) one

set_last : (xs : List (Option ℕ)) (v : Option ℕ) → slice_set (xs ++ None ∷ []) (length xs) v ≡ xs ++ v ∷ []
set_last [] v = refl
set_last (x ∷ xs) v = ap (λ (t : List (Option ℕ)). x ∷ t) (set_last xs v)

set_next : (xs : List (Option ℕ)) (n : ℕ) (v : Option ℕ) → length xs ≡ n → slice_set (grown xs (n + 1)) n v ≡ xs ++ v ∷ []
set_next xs n v len = ap (λ (t : List (Option ℕ)). slice_set t n v) (grown_next xs n len) ∙ ap (λ k. slice_set (xs ++ None ∷ []) k v) (sym len) ∙ set_last xs v

-- what is a place of a list is one of a longer list
pub in_longer : (o : Option ℕ) (xs ys : List (Option ℕ)) → IsIn o xs → IsIn o (xs ++ ys)
in_longer None xs ys h = tt
in_longer (Some i) xs ys h = let l = length-append xs ys in omega (arith, l, h)

pub sound_appended : (bl nx pv fs : Table) (lb : List (Option ℕ)) (lc : ℕ) (sz : List ℕ) (sc : ℕ) (fr : Gaps) (lv : NumberSet) (nr br b : ℕ)
    → IsSoundPartition bl nx pv fs lb lc sz sc fr lv nr br → 0 < nr → IsSome (at lb b)
    → IsSoundPartition (put_in bl (bl.places ++ Some b ∷ [])) (put_in nx (nx.places ++ at fs.places b ∷ []))
    (put_in pv (set_at (pv.places ++ None ∷ []) (at fs.places b) (Some (length bl.places)))) (put_in fs (slice_set fs.places b (Some (length bl.places))))
    lb lc (slice_set sz b (slice_index sz b + 1)) sc fr lv (nr - 1) br
sound_appended bl nx pv fs lb lc sz sc fr lv nr br b s reserved is_block =
    let n = length bl.places in
    let more = length_grown bl.places (n + 1) in
    let longer = sound_grown bl nx pv fs lb lc sz sc fr lv nr br (n + 1) s (omega (arith, reserved)) in
    let free : at (grown bl.places (n + 1)) n ≡ None = at_grown bl.places (n + 1 - n) n ∙ get_or_past bl.places n None (omega arith) in
    let used : nr - (length (grown bl.places (n + 1)) - n) ≡ nr - 1 = omega (arith, more) in
    let all =
    sound_in (put_in bl (grown bl.places (n + 1))) (put_in nx (grown nx.places (n + 1))) (put_in pv (grown pv.places (n + 1))) fs lb lc sz sc fr lv
    (nr - (length (grown bl.places (n + 1)) - n)) br n b longer free (omega (arith, more)) is_block in
    rw (set_next bl.places n (Some b) refl, set_next nx.places n (at fs.places b) s.mirrored.length_next, grown_next pv.places n s.mirrored.length_prev, used) at all

-- Lists that grow.
use Rattle.std.proofs.Common.{◌≡◌, ℕ, zero, suc, ◌+◌, ◌-◌, ◌<◌, ◌≤◌, List, [], ◌∷◌, ◌++◌, length, Option, Some, None, refl, sym, ◌∙◌, ap, arith, slice_set, append_assoc}
use Rattle.std.proofs.Math.ListN.{replicate}
use Rattle.std.proofs.lemmas.List.{append-nil, length-append, length-replicate, length-set}
use Rattle.block_partition.specs.LabelledPartitions.{Partition, put, with_member, with_move}
use Rattle.block_partition.specs.Tables.{grown, with_length}

-- one none at a time
pub grown_step : (xs : List (Option ℕ)) (len : ℕ) → length xs < len → grown (xs ++ None ∷ []) len ≡ grown xs len
grown_step xs len h =
    let l = length-append xs (None ∷ []) in
    let fewer : len - length xs ≡ suc (len - length (xs ++ None ∷ [])) = omega (arith, l, h) in
    append_assoc xs (None ∷ []) (replicate (len - length (xs ++ None ∷ [])) None)
    ∙ ap (λ k. xs ++ replicate k None) (sym fewer)

-- a list that is as long already
pub grown_done : (xs : List (Option ℕ)) (len : ℕ) → len ≤ length xs → grown xs len ≡ xs
grown_done xs len h =
    let none : len - length xs ≡ 0 = omega (arith, h) in
    ap (λ k. xs ++ replicate k None) none ∙ append-nil xs

pub length_grown : (xs : List (Option ℕ)) (len : ℕ) → length (grown xs len) ≡ length xs + (len - length xs)
length_grown xs len = length-append xs (replicate (len - length xs) None) ∙ ap (λ k. length xs + k) (length-replicate (len - length xs) None)

nones_put : (n v : ℕ) → slice_set (replicate (suc n) None) n (Some v) ≡ put [] n v
nones_put zero v = refl
nones_put (suc n) v = ap (λ (t : List (Option ℕ)). None ∷ t) (nones_put n v)

-- a number put at a place is written there once the list reaches it
put_grown : (xs : List (Option ℕ)) (n v : ℕ) → slice_set (grown xs (suc n)) n (Some v) ≡ put xs n v
put_grown [] n v = let all : suc n - 0 ≡ suc n = omega arith in rw all (nones_put n v)
put_grown (x ∷ xs) zero v =
    let none : suc zero - suc (length xs) ≡ 0 = omega arith in
    rw none (ap (λ (t : List (Option ℕ)). Some v ∷ t) (append-nil xs))
put_grown (x ∷ xs) (suc n) v =
    let less : suc (suc n) - suc (length xs) ≡ suc n - length xs = omega arith in
    rw less (ap (λ (t : List (Option ℕ)). x ∷ t) (put_grown xs n v))

-- where the place is one of the list, that is all
pub put_within : (xs : List (Option ℕ)) (n v : ℕ) → n < length xs → put xs n v ≡ slice_set xs n (Some v)
put_within xs n v h = sym (put_grown xs n v) ∙ ap (λ (t : List (Option ℕ)). slice_set t n (Some v)) (grown_done xs (suc n) (omega (arith, h)))

-- and at the end it is appended
pub put_next : (xs : List (Option ℕ)) (v : ℕ) → put xs (length xs) v ≡ xs ++ Some v ∷ []
put_next [] v = refl
put_next (x ∷ xs) v = ap (λ (t : List (Option ℕ)). x ∷ t) (put_next xs v)

-- a node is put past the end in two steps
pub member_steps : (p : Partition) (n b : ℕ) → with_move (with_length p (suc n)) n (Some b) ≡ with_member p n b
member_steps p n b =
    let list = put_grown p.block_of n b in
    let len = sym (ap length list) ∙ length-set (grown p.block_of (suc n)) n (Some b) in
    λ i. record {
      block_of = list i;
      labels = p.labels;
      reserved = record { nodes = length p.block_of + p.reserved.nodes - sym len i; blocks = p.reserved.blocks };
    }

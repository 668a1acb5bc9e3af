-- What splitting costs in all, and why it ends.
use Rattle.std.proofs.Common.{◌≡◌, ℕ, ◌+◌, ◌-◌, ◌*◌, ◌<◌, ◌≤◌, ◌⊎◌, List, [], length, Option, refl, sym, ◌∙◌, ap, arith, inl, inr, true, false, Bool, cond, true≢false}
use Rattle.std.specs.Prelude.{nat_eq}
use Rattle.std.specs.List.{IsDistinct, sum_by}
use Rattle.std.proofs.Math.Nat.{mul-le-mul_left}
use Rattle.std.proofs.lemmas.Bool.{cases_Bool}
use Rattle.std.proofs.lemmas.Bool.Decides.{eqb_tells, Decides-eqb}
use Rattle.graph_spec.specs.Members.{at}
use Rattle.graph_spec.specs.Shapes.{Shape, IsShape, shape_of}
use Rattle.bisim_spec.proofs.BelowLaws.{count_few}
use Rattle.bisim_spec.proofs.Bisimilar.{is_some_at}
use Rattle.change_spec.specs.Costs.{cost}
use Rattle.graph_update.specs.PendingChanges.{Pending, graph_after}
use Rattle.bisim_spec.specs.Weights.{size_of}
use Rattle.one_spec.proofs.Sums.{blocks_few}
use Rattle.one_split.specs.SplitCosts.{round_cost}
use Rattle.one_spec.specs.Splits.{IsClosed, IsSplitInside}
use Rattle.one_split.specs.SplitCosts.{HasCost, going, ended}
use Rattle.one_split.proofs.Bounds.{IsSound, round_most}

pub closed_all : (s : Shape) → IsClosed s (λ n. true)
closed_all s = record { children = λ p n h e. refl }

-- no more blocks are made than there are nodes inside
pub new_few : (s : Shape) (inside : ℕ → Bool) (first p : List (Option ℕ)) (next new_blocks : List ℕ) → IsShape s → IsSplitInside s inside first p next new_blocks → length new_blocks ≤ size_of s inside
new_few s inside first p next new_blocks shape split = blocks_few s.size p new_blocks inside split.new_once (λ b h.
    let n = split.new_some b h in
    (n.0, shape.below n.0 (split.stable.partition.only n.0 (is_some_at (at p n.0) b n.1)), split.new_inside b n.0 h n.1, n.1))

mul-le : (a b c : ℕ) → a ≤ b → a * c ≤ b * c
mul-le a b c h = (let k = mul-le-mul_left c h in omega (arith, k))

most_going : (r w new_blocks spent : ℕ) → new_blocks ≤ r → spent ≤ new_blocks * (3 * w) → spent ≤ 4 * ((r + 1) * w)
most_going r w new_blocks spent few cost =
    let k = mul-le new_blocks (r + 1) (3 * w) (omega (arith, few)) in
    omega (arith, k, cost)

pub most_ended : (r w new_blocks spent : ℕ) → new_blocks ≤ r → spent ≤ (new_blocks + 1) * (3 * w) → spent ≤ 4 * ((r + 1) * w)
most_ended r w new_blocks spent few cost =
    let k = mul-le (new_blocks + 1) (r + 1) (3 * w) (omega (arith, few)) in
    omega (arith, k, cost)

-- the cost when the rounds are done
pub most_done : (r w new_blocks spent : ℕ) (next : List ℕ) → new_blocks ≤ r → HasCost w new_blocks spent next → spent ≤ 4 * ((r + 1) * w)
most_done r w new_blocks spent next few (going cost) = most_going r w new_blocks spent few cost
most_done r w new_blocks spent next few (ended none cost) = most_ended r w new_blocks spent few cost

nonempty : (next : List ℕ) → 0 < length next → next ≡ [] → ⊥
nonempty next h e = (let z = ap length e in omega (arith, h, z))

-- one round more, which has cost so much
pub cost_more : (w new_blocks new_blocks2 spent spent2 cost : ℕ) (next next2 : List ℕ) → HasCost w new_blocks spent next → 0 < length next → cost ≤ 3 * w
    → spent2 ≤ spent + cost → new_blocks ≤ new_blocks2 → (new_blocks < new_blocks2) ⊎ (next2 ≡ []) → HasCost w new_blocks2 spent2 next2
cost_more w new_blocks new_blocks2 spent spent2 cost next next2 (ended none c) some most added least more = absurd (nonempty next some none)
cost_more w new_blocks new_blocks2 spent spent2 cost next next2 (going c) some most added least (inl grew) =
    going (let k = mul-le (new_blocks + 1) new_blocks2 (3 * w) (omega (arith, grew)) in omega (arith, k, c, most, added))
cost_more w new_blocks new_blocks2 spent spent2 cost next next2 (going c) some most added least (inr none) =
    ended none (let k = mul-le (new_blocks + 1) (new_blocks2 + 1) (3 * w) (omega (arith, least)) in omega (arith, k, c, most, added))

-- what was spent before a round that has cost so much
pub most_within : (r w new_blocks spent spent2 cost : ℕ) (next : List ℕ) → HasCost w new_blocks spent next → 0 < length next → new_blocks ≤ r → cost ≤ 3 * w
    → spent2 ≤ spent + cost → spent2 ≤ 4 * ((r + 1) * w)
most_within r w new_blocks spent spent2 cost next (ended none c) some few most added = absurd (nonempty next some none)
most_within r w new_blocks spent spent2 cost next (going c) some few most added =
    most_ended r w new_blocks spent2 few (omega (arith, c, most, added))

-- a round over what is to be looked at
pub round_within : (a : Pending) (inside : ℕ → Bool) (first p : List (Option ℕ)) (next new_blocks : List ℕ) → IsSound a → IsDistinct nat_eq next
    → IsSplitInside (shape_of (graph_after a)) inside first p next new_blocks → sum_by (round_cost a) next ≤ 3 * cost a.change a.before inside
round_within a inside first p next new_blocks sound once split = round_most a inside next sound (record { once = once; live = split.next_nodes; within = split.next_inside })

-- what is left to do falls
pub left_falls : (size new_blocks new_blocks2 len len2 : ℕ) → new_blocks2 ≤ size → new_blocks ≤ new_blocks2 → 0 < len → (new_blocks < new_blocks2) ⊎ (len2 ≡ 0)
    → 2 * (size - new_blocks2) + cond (nat_eq len2 0) 0 1 < 2 * (size - new_blocks) + cond (nat_eq len 0) 0 1
left_falls size new_blocks new_blocks2 len len2 few least some more =
    let on : nat_eq len 0 ≡ false = elim (eqb_tells len 0) [ inl s ↦ absurd (let e = s.1 in omega (arith, e, some)) | inr d ↦ d.0 ] in
    elim more [
      | inl grew ↦ elim (cases_Bool (nat_eq len2 0)) [
        | inl t ↦ rw (on, t) (omega (arith, few, grew))
        | inr f ↦ rw (on, f) (omega (arith, few, grew))
      ]
      | inr none ↦ (
          let t : nat_eq len2 0 ≡ true = (Decides-eqb len2 0).1 none in
          rw (on, t) (omega (arith, few, least)))
    ]

pub few_nodes : (s : Shape) (inside : ℕ → Bool) → size_of s inside ≤ s.size
few_nodes s inside = count_few s.size inside

pub not_done : (b : Bool) (xs ys : List ℕ) → b ≡ nat_eq (length xs) 0 → b ≡ false → xs ≡ ys → 0 < length ys
not_done b xs ys is off same = elim (eqb_tells (length xs) 0) [
  | inl s ↦ absurd (true≢false (sym s.0 ∙ sym is ∙ off))
  | inr d ↦ (let ne = d.1 in let e = ap length same in omega (arith, ne, e))
]

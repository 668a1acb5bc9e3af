-- What a round comes to.
use Rattle.std.proofs.Common.{◌≡◌, ℕ, ◌+◌, ◌<◌, ◌⊎◌, List, [], ◌∷◌, length, Option, Some, refl, sym, ◌∙◌, ap, arith, inl, inr, false, Bool}
use Rattle.std.specs.Prelude.{nat_eq, slice_get, slice_index}
use Rattle.std.specs.List.{IsDistinct, AllByRecursion, sum_by}
use Rattle.std.specs.List.Sorted.{IsStrictlySortedBy}
use Rattle.std.specs.Ordering.{nat_cmp, is_eq}
use Rattle.std.specs.Cmp.{unsigned_tied}
use Rattle.std.specs.declared.cmp.Ordering.TheVariants.{Less}
use Rattle.std.proofs.lemmas.Bool.{or_left}
use Rattle.std.proofs.lemmas.Bool.Decides.{Decides-eqb}
use Rattle.std.proofs.lemmas.List.Sums.{sum_by-cons}
use Rattle.std.proofs.lemmas.Map.Keys.{sorted_from_strictly_increasing}
use Rattle.graph_spec.specs.Members.{at, has}
use Rattle.graph_spec.specs.Shapes.{Shape}
use Rattle.bisim_spec.specs.NodeKeys.{IsSetOf}
use Rattle.graph_update.specs.PendingChanges.{Pending}
use Rattle.quotient_moves.specs.NeighbourCosts.{parents_cost}
use Rattle.one_split.specs.SplitCosts.{move_cost, round_cost}
use Rattle.one_split.specs.Numbered.{HaveNumbers}
use Rattle.one_split.specs.NodeTargetBlocks.{BeginsAt, ListsChildrenOf, AreAdded}

apart_all : (x : ℕ) (xs : List ℕ) → AllByRecursion (λ y. nat_cmp x y ≡ Less) xs → AllByRecursion (λ y. nat_eq x y ≡ false) xs
apart_all x [] h = tt
apart_all x (y ∷ ys) h = (sym (unsigned_tied x y) ∙ ap is_eq h.0, apart_all x ys h.1)

sorted_distinct : (xs : List ℕ) → IsStrictlySortedBy nat_cmp xs → IsDistinct nat_eq xs
unfolding IsDistinct IsStrictlySortedBy
sorted_distinct [] h = tt
sorted_distinct (x ∷ xs) h = (apart_all x xs h.0, sorted_distinct xs h.1)

-- rising numbers are distinct
pub set_distinct : (xs ys : List ℕ) → IsSetOf xs ys → IsDistinct nat_eq ys
set_distinct xs ys s = sorted_distinct ys (sorted_from_strictly_increasing ys s.rising)

-- the same nodes in another order
pub next_set : (s : Shape) (nodes numbers : List ℕ) (target_blocks : List (Option ℕ)) (i : ℕ) (next next2 : List ℕ) → IsSetOf next next2 → ListsChildrenOf s nodes numbers target_blocks i next
    → ListsChildrenOf s nodes numbers target_blocks i next2
next_set s nodes numbers target_blocks i next next2 set a = record {
  into = λ j b m h e k. set.same m ∙ a.into j b m h e k;
  from = λ m h. a.from m (sym (set.same m) ∙ h);
}

-- either blocks were made, or nothing is to be looked at next
pub more_or_none : (s : Shape) (nodes numbers : List ℕ) (target_blocks : List (Option ℕ)) (i : ℕ) (next new_blocks new_blocks2 : List ℕ) → ListsChildrenOf s nodes numbers target_blocks i next
    → AreAdded target_blocks new_blocks new_blocks2 → (length new_blocks < length new_blocks2) ⊎ (next ≡ [])
more_or_none s nodes numbers target_blocks i [] new_blocks new_blocks2 a added = inr refl
more_or_none s nodes numbers target_blocks i (x ∷ xs) new_blocks new_blocks2 a added =
    let r = a.from x (or_left (nat_eq x x) (has xs x) ((Decides-eqb x x).1 refl)) in
    inl (added.more (slice_index numbers r.0) r.1 r.3)

-- each key begins with the block of a node
pub owns : (p : List (Option ℕ)) (neighbour_of : ℕ → ℕ → Bool) (keys : List (List ℕ)) (nodes numbers : List ℕ) → HaveNumbers p neighbour_of keys nodes numbers
    → (k : ℕ) → k < length keys → (own : ℕ) × BeginsAt keys k own × ((n : ℕ) × (at p n ≡ Some own))
owns p neighbour_of keys nodes numbers w k h =
    let i = w.some k h in
    let m = w.each i.0 i.1 in (
      m.is.number,
      record { around = m.is.around; found = ap (slice_get keys) (sym i.2) ∙ m.found ∙ ap (λ x. Some x) m.is.is },
      (slice_index nodes i.0, m.is.own_is),
    )

-- the parts of a round's cost
pub round_parts : (a : Pending) (xs : List ℕ) → sum_by (parents_cost a) xs + sum_by (move_cost a) xs ≡ sum_by (round_cost a) xs
round_parts a [] = refl
round_parts a (x ∷ xs) =
    let rest = round_parts a xs in
    let p = sum_by-cons (parents_cost a) x xs in
    let q = sum_by-cons (move_cost a) x xs in
    let r = sum_by-cons (round_cost a) x xs in
    omega (arith, rest, p, q, r)

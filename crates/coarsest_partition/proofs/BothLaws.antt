-- Steps on either side, and splitters.
use Rattle.std.proofs.Common.{◌≡◌, ℕ, ◌<◌, ◌≤◌, ◌⊎◌, List, [], length, arith, IsSome, nat_eq, Option, Bool, true, false, refl, sym, ◌∙◌, ap, inl, inr}
use Rattle.std.specs.Prelude.{◌||◌, ◌&&◌, not}
use Rattle.std.specs.List.{list_any}
use Rattle.std.proofs.lemmas.Bool.{or_cases, and_parts, and_from}
use Rattle.label_graph.specs.GraphViews.{label_number}
use Rattle.graph_spec.proofs.MemberLaws.{or_false}
use Rattle.block_splitting.proofs.Lists.{none_empty}
use Rattle.graph_spec.specs.Graphs.{Graph, IsGraph}
use Rattle.graph_spec.specs.Members.{has}
use Rattle.bisim_spec.specs.declared.sides.Side.{Side}
use Rattle.bisim_spec.specs.declared.sides.Side.TheVariants.{Parents, Children}
use Rattle.bisim_levels.specs.NeighbourSides.{is_neighbour}
use Rattle.block_splitting.specs.Splits.{IsSplit}
use Rattle.coarsest_partition.specs.Refined.{both_sides, IsStep}
use Rattle.coarsest_partition.specs.ActiveSides.{two, by_side, other_of}
use Rattle.coarsest_partition.proofs.RoundLaws.{AreAlone, step_of, is_side, empty_length}
use Rattle.block_splitting.proofs.Keyed.{around_nodes}

pub step_both : (g : Graph) (side : Side) (old new : List (Option ℕ)) (own own2 other other2 : ℕ → Bool) (moved : List ℕ) (alone : ℕ → Bool) → IsSplit g side own old new (has moved) → AreAlone new alone
    → ((n : ℕ) → own2 n ≡ (list_any (λ q. is_neighbour side g q n) moved && not (alone n)))
    → ((n : ℕ) → other2 n ≡ (other n || (list_any (λ q. is_neighbour (other_of side) g q n) moved && not (alone n))))
    → IsStep g both_sides old new (by_side side own other) (by_side side own2 other2)
step_both g Parents old new own own2 other other2 moved alone split lone activated left = step_of g both_sides Parents old new (two own other) (two own2 other2) moved alone refl split lone by
  where
    by : (t : Side) → both_sides t ≡ true → (n : ℕ) → two own2 other2 t n ≡ ((not (is_side Parents t) && two own other t n) || (list_any (λ q. is_neighbour t g q n) moved && not (alone n)))
    by Parents k n = activated n
    by Children k n = left n
step_both g Children old new own own2 other other2 moved alone split lone activated left = step_of g both_sides Children old new (two other own) (two other2 own2) moved alone refl split lone by
  where
    by : (t : Side) → both_sides t ≡ true → (n : ℕ) → two other2 own2 t n ≡ ((not (is_side Children t) && two other own t n) || (list_any (λ q. is_neighbour t g q n) moved && not (alone n)))
    by Parents k n = left n
    by Children k n = activated n

-- what is left active, and those that have a neighbour which moved
pub left_is : (g : Graph) (side turned : Side) (alone : ℕ → Bool) (other moved moved2 activated : List ℕ) → turned ≡ other_of side → moved2 ≡ moved
    → ((n : ℕ) → has activated n ≡ (has other n || (list_any (λ q. is_neighbour turned g q n) moved2 && not (alone n))))
    → (n : ℕ) → has activated n ≡ (has other n || (list_any (λ q. is_neighbour (other_of side) g q n) moved && not (alone n)))
left_is g side turned alone other moved moved2 activated turn same is n =
    is n ∙ ap (λ (t : Side). has other n || (list_any (λ q. is_neighbour t g q n) moved2 && not (alone n))) turn
    ∙ ap (λ (xs : List ℕ). has other n || (list_any (λ q. is_neighbour (other_of side) g q n) xs && not (alone n))) same

pub left_nodes : (g : Graph) → IsGraph g → (side : Side) (alone : ℕ → Bool) (other moved activated : List ℕ) → ((n : ℕ) → has activated n ≡ (has other n || (list_any (λ q. is_neighbour (other_of side) g q n) moved && not (alone n))))
    → ((n : ℕ) → has other n ≡ true → IsSome (label_number g n)) → (n : ℕ) → has activated n ≡ true → IsSome (label_number g n)
left_nodes g s side alone other moved activated is nodes n h = elim (or_cases (has other n) (list_any (λ q. is_neighbour (other_of side) g q n) moved && not (alone n)) (sym (is n) ∙ h)) [
  | inl before ↦ nodes n before
  | inr now ↦ around_nodes g s (other_of side) moved n (and_parts (list_any (λ q. is_neighbour (other_of side) g q n) moved) (not (alone n)) now).0
]

pub left_same : (g : Graph) (side : Side) (alone : ℕ → Bool) (other moved activated : List ℕ) → ((n : ℕ) → has activated n ≡ (has other n || (list_any (λ q. is_neighbour (other_of side) g q n) moved && not (alone n)))) → moved ≡ []
    → (n : ℕ) → has activated n ≡ has other n
left_same g side alone other moved activated is none n =
    is n ∙ ap (λ (xs : List ℕ). has other n || (list_any (λ q. is_neighbour (other_of side) g q n) xs && not (alone n))) none ∙ or_false (has other n)

pub two_all : (parents children : ℕ → Bool) (t : Side) (n : ℕ) → parents n ≡ true → children n ≡ true → two parents children t n ≡ true
two_all parents children Parents n p c = p
two_all parents children Children n p c = c

pub two_none : (parents children : ℕ → Bool) → ((n : ℕ) → parents n ≡ false) → ((n : ℕ) → children n ≡ false) → (t : Side) (n : ℕ) → two parents children t n ≡ false
two_none parents children p c Parents n = p n
two_none parents children p c Children n = c n

-- after two rounds some block is new, or nothing is active
pub turned : (first second third : ℕ) (parents children2 parents2 : List ℕ) → ((parents ≡ []) × (first ≤ second)) ⊎ (first < second)
    → ((children2 ≡ []) × ((m : ℕ) → has parents2 m ≡ has parents m) × (second ≤ third)) ⊎ (second < third)
    → (((nat_eq (length parents2) 0 && nat_eq (length children2) 0) ≡ true) × (first ≤ third)) ⊎ (first < third)
turned first second third parents children2 parents2 a b = elim b [
  | inr up ↦ inr (elim a [ inl (x, le) ↦ omega (arith, le, up) | inr lt ↦ omega (arith, lt, up) ])
  | inl (none_c, same_p, le2) ↦ elim a [
    | inr lt ↦ inr (omega (arith, lt, le2))
    | inl (none_p, le1) ↦ inl (
      and_from (nat_eq (length parents2) 0) (nat_eq (length children2) 0)
          (empty_length parents2 (none_empty parents2 (λ m. same_p m ∙ ap (λ (xs : List ℕ). has xs m) none_p)))
          (empty_length children2 none_c),
      omega (arith, le1, le2),
    )
  ]
]

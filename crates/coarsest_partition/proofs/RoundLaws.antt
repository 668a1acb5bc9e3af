-- What a round does, from what its parts do.
use Rattle.std.proofs.Common.{◌≡◌, ℕ, ◌+◌, ◌<◌, ◌≤◌, ◌⊎◌, List, [], ◌∷◌, length, Option, refl, sym, ◌∙◌, ap, subst, arith, inl, inr, true, false, Bool, cond, true≢false, ◌*◌, ◌-◌, ◌^◌}
use Rattle.std.specs.Prelude.{nat_eq, ◌||◌, ◌&&◌, not}
use Rattle.std.specs.List.{list_any}
use Rattle.std.proofs.lemmas.Bool.{cases_Bool, or_cases, or_left, or_parts, and_parts, and_from, not_from_false, both_ways}
use Rattle.std.proofs.lemmas.Bool.Decides.{Decides-eqb}
use Rattle.graph_spec.specs.Graphs.{Graph}
use Rattle.graph_spec.specs.Members.{has}
use Rattle.bisim_spec.specs.Bisimilarity.{Matched}
use Rattle.bisim_spec.specs.Partitions.{Together}
use Rattle.bisim_spec.specs.declared.sides.Side.{Side}
use Rattle.bisim_spec.specs.declared.sides.Side.TheVariants.{Parents, Children}
use Rattle.bisim_levels.specs.NeighbourSides.{is_neighbour}
use Rattle.block_splitting.specs.Splits.{IsNeighbour, IsSplit}
use Rattle.block_splitting.proofs.Lists.{any_get, any_from, none_empty}
use Rattle.coarsest_partition.specs.Refined.{parents_alone, IsStep}

-- what is active, once nothing is and then those that have a neighbour which moved
pub activated_is : (g : Graph) (side : Side) (alone : ℕ → Bool) (cleared moved moved2 activated : List ℕ) → cleared ≡ [] → moved2 ≡ moved
    → ((n : ℕ) → has activated n ≡ (has cleared n || (list_any (λ q. is_neighbour side g q n) moved2 && not (alone n)))) → (n : ℕ) → has activated n ≡ (list_any (λ q. is_neighbour side g q n) moved && not (alone n))
activated_is g side alone cleared moved moved2 activated none same is n =
    is n ∙ ap (λ (xs : List ℕ). has xs n || (list_any (λ q. is_neighbour side g q n) moved2 && not (alone n))) none ∙ ap (λ (xs : List ℕ). list_any (λ q. is_neighbour side g q n) xs && not (alone n)) same

-- where nothing moved none is active
pub none_activated : (g : Graph) (side : Side) (alone : ℕ → Bool) (moved activated : List ℕ) → ((n : ℕ) → has activated n ≡ (list_any (λ q. is_neighbour side g q n) moved && not (alone n))) → moved ≡ [] → activated ≡ []
none_activated g side alone moved activated is none = none_empty activated (λ n. is n ∙ ap (λ (xs : List ℕ). list_any (λ q. is_neighbour side g q n) xs && not (alone n)) none)

-- those that are active have a neighbour which moved
pub activated_near : (g : Graph) (side : Side) (alone : ℕ → Bool) (moved activated : List ℕ) → ((n : ℕ) → has activated n ≡ (list_any (λ q. is_neighbour side g q n) moved && not (alone n))) → (n : ℕ)
    → has activated n ≡ true → list_any (λ q. is_neighbour side g q n) moved ≡ true
activated_near g side alone moved activated is n h = (and_parts (list_any (λ q. is_neighbour side g q n) moved) (not (alone n)) (sym (is n) ∙ h)).0

-- 0 where nothing is active, and 1 where something is
abbrev pub rest : Bool → ℕ
rest b = cond b 0 1

rest_small : (t : Bool) → rest t ≤ 1
rest_small true = omega arith
rest_small false = omega arith

-- the measure of the rounds
pub falls : (old new : ℕ) (a b : Bool) → a ≡ false → new ≤ 2 ^ 31 → ((b ≡ true) × (old ≤ new)) ⊎ (old < new)
    → 2 * (2 ^ 31 - new) + rest b < 2 * (2 ^ 31 - old) + rest a
falls old new a b some few more = elim more [
  | inl (none, le) ↦
      (let x : rest b ≡ 0 = ap rest none in
      let y : rest a ≡ 1 = ap rest some in
      omega (arith, x, y, le, few))
  | inr lt ↦
      (let y : rest a ≡ 1 = ap rest some in
      let x = rest_small b in
      omega (arith, x, y, lt, few))
]

pub empty_length : (xs : List ℕ) → xs ≡ [] → nat_eq (length xs) 0 ≡ true
empty_length xs e = ap (λ (ys : List ℕ). nat_eq (length ys) 0) e

pub length_empty : (xs : List ℕ) → nat_eq (length xs) 0 ≡ true → (n : ℕ) → has xs n ≡ false
length_empty [] h n = refl
length_empty (x ∷ xs) h n = absurd (let e = (Decides-eqb (length (x ∷ xs)) 0).0 h in omega (arith, e))

-- whether the two are one side
abbrev pub is_side : Side → Side → Bool
is_side Parents Parents = true
is_side Parents Children = false
is_side Children Parents = false
is_side Children Children = true

pub same_side : (s t : Side) → is_side s t ≡ true → s ≡ t
same_side Parents Parents h = refl
same_side Parents Children h = absurd (true≢false (sym h))
same_side Children Parents h = absurd (true≢false (sym h))
same_side Children Children h = refl

-- those that are alone in their block
pub record AreAlone (block : List (Option ℕ)) (alone : ℕ → Bool) : Type 0 where
  pub each : (n v : ℕ) → alone n ≡ true → Together block n v → n ≡ v

-- A split on one side, after which those are active that have a neighbour which moved and aren't alone; and
-- on the other side those that were active.
pub step_of : (g : Graph) (kept : Side → Bool) (side : Side) (old new : List (Option ℕ)) (active next : Side → ℕ → Bool) (moved : List ℕ) (alone : ℕ → Bool) → kept side ≡ true
    → IsSplit g side (active side) old new (has moved) → AreAlone new alone
    → ((t : Side) → kept t ≡ true → (n : ℕ) → next t n ≡ ((not (is_side side t) && active t n) || (list_any (λ q. is_neighbour t g q n) moved && not (alone n)))) → IsStep g kept old new active next
step_of g kept side old new active next moved alone kept_side split lone activated = record {
  finer = split.finer;
  side = side;
  side_kept = kept_side;
  grouped = split.grouped;
  parted = λ t k u v nu nv e. elim (cases_Bool (is_side side t)) [
    | inl s ↦ (
        let same = same_side side t s in
        subst (λ x. ((active x u ≡ false) × (active x v ≡ false)) ⊎ Matched (IsNeighbour x g) (Together old) u v) same (split.parted u v e))
    | inr o ↦ inl (left_clean t k u nu o, left_clean t k v nv o)
  ];
  still = λ t k q n v none e apart neighbour_of. elim (cases_Bool (has moved q)) [
    | inl went ↦ absurd (
        both_ways (list_any (λ x. is_neighbour t g x n) moved && not (alone n))
        (or_parts (not (is_side side t) && active t n) (list_any (λ x. is_neighbour t g x n) moved && not (alone n)) (sym (activated t k n) ∙ none)).1
        (and_from (list_any (λ x. is_neighbour t g x n) moved) (not (alone n)) (any_from (λ x. is_neighbour t g x n) moved q went neighbour_of)
        (elim (cases_Bool (alone n)) [ inl a ↦ absurd (apart (lone.each n v a e)) | inr f ↦ not_from_false (alone n) f ])))
    | inr f ↦ split.still q f
  ];
  left = λ t. not (is_side side t);
  left_active = λ t k n l w.
      activated t k n ∙ or_left (not (is_side side t) && active t n) (list_any (λ x. is_neighbour t g x n) moved && not (alone n)) (and_from (not (is_side side t)) (active t n) l w);
  active_why = λ t k n h. elim (or_cases (not (is_side side t) && active t n) (list_any (λ x. is_neighbour t g x n) moved && not (alone n)) (sym (activated t k n) ∙ h)) [
    | inl a ↦ inl (and_parts (not (is_side side t)) (active t n) a)
    | inr some ↦ inr (let q = any_get (λ x. is_neighbour t g x n) moved (and_parts (list_any (λ x. is_neighbour t g x n) moved) (not (alone n)) some).0 in (q.0, q.2, split.went q.0 q.1))
  ];
}
  where
    left_clean : (t : Side) → kept t ≡ true → (n : ℕ) → next t n ≡ false → is_side side t ≡ false → active t n ≡ false
    left_clean t k n none o = elim (cases_Bool (active t n)) [
      | inr f ↦ f
      | inl w ↦ absurd (
          both_ways (not (is_side side t) && active t n)
          (or_parts (not (is_side side t) && active t n) (list_any (λ x. is_neighbour t g x n) moved && not (alone n)) (sym (activated t k n) ∙ none)).0
          (and_from (not (is_side side t)) (active t n) (ap not o) w))
    ]

-- the same for parents alone
pub step_by_parents : (g : Graph) (old new : List (Option ℕ)) (active next : ℕ → Bool) (moved : List ℕ) (alone : ℕ → Bool) → IsSplit g Parents active old new (has moved) → AreAlone new alone
    → ((n : ℕ) → next n ≡ (list_any (λ q. is_neighbour Parents g q n) moved && not (alone n))) → IsStep g parents_alone old new (λ t. active) (λ t. next)
step_by_parents g old new active next moved alone split lone activated = step_of g parents_alone Parents old new (λ t. active) (λ t. next) moved alone refl split lone by
  where
    by : (t : Side) → parents_alone t ≡ true → (n : ℕ) → next n ≡ ((not (is_side Parents t) && active n) || (list_any (λ q. is_neighbour t g q n) moved && not (alone n)))
    by Parents k n = activated n
    by Children k n = absurd (true≢false (sym k))

-- Levels that are settled, one after another.
use Rattle.std.proofs.Common.{◌≡◌, ◌≢◌, ℕ, ◌+◌, ◌<◌, ◌≤◌, List, length, refl, sym, ◌∙◌, ap, subst, arith, inl, inr, slice_set, get_or}
use Rattle.std.proofs.lemmas.Bool.{cases_lt}
use Rattle.std.proofs.lemmas.Bool.Decides.{eqb_tells}
use Rattle.std.proofs.lemmas.List.{get_or_default, get_or-set_same, get_or-set_other, get_or_past, length-set}
use Rattle.keyed_quotient.specs.KeyedQuotients.{KeyedQuotient, no_level}
use Rattle.keyed_quotient.specs.Changes.{KeyedChanges, no_keyed_changes, IsSettled}
use Rattle.ak_family.specs.Families.{level_at}
use Rattle.ak_family.specs.LevelDrafts.{changes_at, AreOver, AreSettled, AreEmpty}
use Rattle.ak_family.proofs.Reserved.{level_read}

-- The levels below i are settled, and their drafts are empty. The others are as they were.
pub record IsSettledBelow (f : List KeyedQuotient) (d : List KeyedChanges) (now : List KeyedQuotient) (left : List KeyedChanges) (i : ℕ) : Type 0 where
  pub count : length now ≡ length f
  pub drafts : length left ≡ length d
  pub settled : (j : ℕ) → j < i → IsSettled (level_at f j) (changes_at d j) (level_at now j)
  pub empty : (j : ℕ) → j < i → changes_at left j ≡ no_keyed_changes
  pub levels : (j : ℕ) → i ≤ j → level_at now j ≡ level_at f j
  pub changes : (j : ℕ) → i ≤ j → changes_at left j ≡ changes_at d j

pub below_none : (f : List KeyedQuotient) (d : List KeyedChanges) → IsSettledBelow f d f d 0
below_none f d = record {
  count = refl;
  drafts = refl;
  settled = λ j h. absurd (omega (arith, h));
  empty = λ j h. absurd (omega (arith, h));
  levels = λ j h. refl;
  changes = λ j h. refl;
}

-- what held at a level and its draft holds of both as they are read, as long as neither is settled
pub below_read : (P : KeyedQuotient → KeyedChanges → Type 0) (f : List KeyedQuotient) (d : List KeyedChanges) (now : List KeyedQuotient) (left : List KeyedChanges) (i : ℕ) (q : KeyedQuotient)
    (y : KeyedChanges) → IsSettledBelow f d now left i → i < length now → i < length left → q ≡ get_or now i q → y ≡ get_or left i y → P (level_at f i) (changes_at d i) → P q y
below_read P f d now left i q y w h g e r p =
    let level : q ≡ level_at f i = level_read now i q h e ∙ w.levels i (omega arith) in
    let changes : y ≡ changes_at d i = r ∙ get_or_default left i y no_keyed_changes g ∙ w.changes i (omega arith) in
    subst (λ (p : KeyedQuotient). P p y) (sym level) (subst (P (level_at f i)) (sym changes) p)

-- one more level is settled
pub below_next : (f : List KeyedQuotient) (d : List KeyedChanges) (now : List KeyedQuotient) (left : List KeyedChanges) (i : ℕ) (p q : KeyedQuotient) (x y : KeyedChanges)
    → IsSettledBelow f d now left i → i < length now → i < length left → p ≡ get_or now i p → x ≡ get_or left i x → IsSettled p x q → y ≡ no_keyed_changes
    → IsSettledBelow f d (slice_set now i q) (slice_set left i y) (i + 1)
below_next f d now left i p q x y w h g e r is none =
    let here : level_at (slice_set now i q) i ≡ q = get_or-set_same now i q no_level h in
    let gone : changes_at (slice_set left i y) i ≡ y = get_or-set_same left i y no_keyed_changes g in
    let level : p ≡ level_at f i = level_read now i p h e ∙ w.levels i (omega arith) in
    let changes : x ≡ changes_at d i = r ∙ get_or_default left i x no_keyed_changes g ∙ w.changes i (omega arith) in
    let first : IsSettled (level_at f i) (changes_at d i) q = subst (λ (p : KeyedQuotient). IsSettled p (changes_at d i) q) level (subst (λ (c : KeyedChanges). IsSettled p c q) changes is) in
    record {
      count = length-set now i q ∙ w.count;
      drafts = length-set left i y ∙ w.drafts;
      settled = λ j b. elim (eqb_tells j i) [
        | inl t ↦
            subst (λ n. IsSettled (level_at f n) (changes_at d n) (level_at (slice_set now i q) n)) (sym t.1) (subst (IsSettled (level_at f i) (changes_at d i)) (sym here) first)
        | inr t ↦
            (let other = t.1 in
            subst (IsSettled (level_at f j) (changes_at d j)) (sym (get_or-set_other now i j q no_level other)) (w.settled j (omega (arith, b, other))))
      ];
      empty = λ j b. elim (eqb_tells j i) [
        | inl t ↦ ap (changes_at (slice_set left i y)) t.1 ∙ gone ∙ none
        | inr t ↦ (let other = t.1 in get_or-set_other left i j y no_keyed_changes other ∙ w.empty j (omega (arith, b, other)))
      ];
      levels = λ j b. get_or-set_other now i j q no_level (above i j b) ∙ w.levels j (omega (arith, b));
      changes = λ j b. get_or-set_other left i j y no_keyed_changes (above i j b) ∙ w.changes j (omega (arith, b));
    }
  where
    above : (i j : ℕ) → i + 1 ≤ j → j ≢ i
    above i j b e = omega (arith, b, e)

pub below_all : (f : List KeyedQuotient) (d : List KeyedChanges) (now : List KeyedQuotient) (left : List KeyedChanges) (i : ℕ) → IsSettledBelow f d now left i → length now ≤ i
    → AreSettled f d now
below_all f d now left i w all = record {
  count = w.count;
  each = λ j h. (let count = w.count in w.settled j (omega (arith, h, all, count)));
}

pub below_empty : (f : List KeyedQuotient) (d : List KeyedChanges) (now : List KeyedQuotient) (left : List KeyedChanges) (i : ℕ) → IsSettledBelow f d now left i → AreOver f d
    → length now ≤ i → AreEmpty left
below_empty f d now left i w o all j = elim (cases_lt j (length left)) [
  | inl h ↦ (let count = w.count in let drafts = w.drafts in let both = o.count in w.empty j (omega (arith, h, all, count, drafts, both)))
  | inr past ↦ get_or_past left j no_keyed_changes past
]

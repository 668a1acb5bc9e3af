-- Levels of a draft, one of which is written.
use Rattle.std.proofs.Common.{◌≡◌, ℕ, ◌+◌, ◌<◌, ◌≤◌, List, [], ◌∷◌, ◌++◌, length, Option, is_some, true≢false, refl, sym, ◌∙◌, ap, subst, arith, inl, inr, slice_set, get_or}
use Rattle.std.proofs.lemmas.Bool.{cases_lt}
use Rattle.std.proofs.lemmas.Bool.Decides.{eqb_tells}
use Rattle.std.proofs.lemmas.List.{get_or_default, get_or-set_same, get_or-set_other, get_or_past, get_or_push, get_or_append_left, length-set, length-append}
use Rattle.quotient_draft.specs.Drafts.{no_changes}
use Rattle.quotient_draft.specs.Basis.{IsOver}
use Rattle.keyed_quotient.specs.KeyedQuotients.{KeyedQuotient}
use Rattle.keyed_quotient.specs.Changes.{KeyedChanges, no_keyed_changes, IsKeyedOver}
use Rattle.keyed_quotient.proofs.DraftedKeys.{over_none}
use Rattle.ak_family.specs.Families.{level_at, IsKeyedFamily}
use Rattle.ak_family.specs.LevelDrafts.{changes_at, AreOver, KeepsAllButSupports, AreEmpty}

pub over_set : (f : List KeyedQuotient) (d : List KeyedChanges) (i : ℕ) (y : KeyedChanges) → AreOver f d → i < length f → IsKeyedOver (level_at f i) y → AreOver f (slice_set d i y)
over_set f d i y o h is = record {
  count = length-set d i y ∙ o.count;
  each = λ j w. elim (eqb_tells j i) [
    | inl s ↦
        (let count = o.count in
        let here : changes_at (slice_set d i y) i ≡ y = get_or-set_same d i y no_keyed_changes (omega (arith, h, count)) in
        subst (λ (n : ℕ). IsKeyedOver (level_at f n) (changes_at (slice_set d i y) n)) (sym s.1) (subst (IsKeyedOver (level_at f i)) (sym here) is))
    | inr t ↦ subst (IsKeyedOver (level_at f j)) (sym (get_or-set_other d i j y no_keyed_changes t.1)) (o.each j w)
  ];
}

-- A level is written, by an entry with the moves, further blocks and keys that were there: only supports can differ.
pub kept_set : (f : List KeyedQuotient) (d : List KeyedChanges) (i : ℕ) (x y : KeyedChanges) → AreOver f d → i < length f → IsKeyedOver (level_at f i) y
    → x ≡ get_or d i x → y.drafted.moves ≡ x.drafted.moves → y.drafted.added ≡ x.drafted.added → y.keys ≡ x.keys → KeepsAllButSupports f i d (slice_set d i y)
kept_set f d i x y o h is was moves added keys =
    let count = o.count in
    let within : i < length d = omega (arith, h, count) in
    let here : changes_at (slice_set d i y) i ≡ y = get_or-set_same d i y no_keyed_changes within in
    let before : x ≡ changes_at d i = was ∙ get_or_default d i x no_keyed_changes within in
    record {
      blocks = rw (here, moves, before) refl;
      labels = rw (here, added, before) refl;
      keys = λ b. rw (here, keys, before) refl;
      others = λ j w. get_or-set_other d i j y no_keyed_changes w;
      over = over_set f d i y o h is;
    }

none_over : (block labels : List (Option ℕ)) → IsOver block labels no_changes
none_over block labels = record {
  least = tt;
  few = λ h. absurd (omega (arith, h));
  moved = λ n b e. absurd (true≢false (sym (ap is_some e)));
  numbers = λ n b e. absurd (true≢false (sym (ap is_some e)));
  ends = λ p n e. absurd (true≢false (sym (ap is_some e)));
  left = λ n b e h. absurd (true≢false (sym h));
  taken = λ b. refl;
}

-- where nothing is drafted the draft is one over any family with as many levels
pub empty_over : (f : List KeyedQuotient) (d : List KeyedChanges) → IsKeyedFamily f → length f ≡ length d → AreEmpty d → AreOver f d
empty_over f d keyed count empty = record {
  count = sym count;
  each = λ i h. subst (IsKeyedOver (level_at f i)) (sym (empty i)) (over_none (level_at f i) (keyed.keyed i h) (none_over (level_at f i).quotient.blocks.block_of (level_at f i).quotient.blocks.labels));
}

-- nothing is drafted at the levels below i
pub record IsCleared (old now : List KeyedChanges) (i : ℕ) : Type 0 where
  pub count : length now ≡ length old
  pub empty : (j : ℕ) → j < i → changes_at now j ≡ no_keyed_changes

pub cleared_none : (d : List KeyedChanges) → IsCleared d d 0
cleared_none d = record { count = refl; empty = λ j h. absurd (omega (arith, h)) }

pub cleared_next : (old now : List KeyedChanges) (i : ℕ) (y : KeyedChanges) → IsCleared old now i → i < length now → y ≡ no_keyed_changes → IsCleared old (slice_set now i y) (i + 1)
cleared_next old now i y w h e = record {
  count = length-set now i y ∙ w.count;
  empty = λ j b. elim (eqb_tells j i) [
    | inl s ↦ ap (changes_at (slice_set now i y)) s.1 ∙ get_or-set_same now i y no_keyed_changes h ∙ e
    | inr t ↦ (let d = t.1 in get_or-set_other now i j y no_keyed_changes d ∙ w.empty j (omega (arith, b, d)))
  ];
}

pub cleared_all : (old now : List KeyedChanges) (i : ℕ) → IsCleared old now i → length now ≤ i → AreEmpty now
cleared_all old now i w all j = elim (cases_lt j (length now)) [
  | inl h ↦ w.empty j (omega (arith, h, all))
  | inr past ↦ get_or_past now j no_keyed_changes past
]

-- that many levels, at which nothing is drafted
pub record AreNone (n : ℕ) (d : List KeyedChanges) : Type 0 where
  pub count : length d ≡ n
  pub empty : AreEmpty d

pub none_start : (d : List KeyedChanges) → d ≡ [] → AreNone 0 d
none_start d e = record { count = ap length e; empty = λ j. ap (λ (x : List KeyedChanges). changes_at x j) e }

pub none_next : (n : ℕ) (d more : List KeyedChanges) (y : KeyedChanges) → AreNone n d → y ≡ no_keyed_changes → more ≡ d ++ y ∷ [] → AreNone (n + 1) more
none_next n d more y w e added =
    let len : length more ≡ length d + 1 = ap length added ∙ length-append d (y ∷ []) in
    let count = w.count in
    record {
      count = omega (arith, len, count);
      empty = λ j. elim (cases_lt j (length d)) [
        | inl h ↦ ap (λ (x : List KeyedChanges). changes_at x j) added ∙ get_or_append_left d (y ∷ []) no_keyed_changes j h ∙ w.empty j
        | inr past ↦ elim (cases_lt (length d) j) [
          | inl over ↦ get_or_past more j no_keyed_changes (omega (arith, over, len))
          | inr same ↦ ap (λ (x : List KeyedChanges). changes_at x j) added ∙ get_or_push d y no_keyed_changes j (omega (arith, past, same)) ∙ e
        ]
      ];
    }

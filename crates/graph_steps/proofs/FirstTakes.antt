-- The first step that takes a node away, as a change gets one step more, and whether it stands before a place, or behind.
use Rattle.std.proofs.Common.{◌≡◌, ℕ, zero, suc, ◌<◌, ◌≤◌, true, false, List, [], ◌∷◌, ◌++◌, length, take, drop, refl, sym, ap, ◌∙◌, subst, arith, inl, inr, nat_lt, true≢false}
use Rattle.std.specs.Prelude.{◌||◌, min, if◌then◌else◌}
use Rattle.std.proofs.Math.Bool.{or-true}
use Rattle.std.proofs.lemmas.Bool.{cases_Bool, cases_lt, lt-ltb, le-ltb}
use Rattle.change_spec.specs.Steps.{Step, node, link, unlink, drop as drop_step, relabel}
use Rattle.change_spec.specs.Named.{names, takes_away, is_dropped}
use Rattle.graph_steps.specs.NamedSteps.{DropsLast}
use Rattle.graph_steps.specs.StepLinks.{nowhere, takes_at, is_drop, taken_with, IsTaken}
use Rattle.graph_steps.proofs.LastDrops.{takes_named, take_past, named_there, behind_take, taken_at, taken_from}

-- ---- one step more

takes_within : (c : List Step) (i n : ℕ) → takes_at c i n ≡ true → i < length c
takes_within c i n h = elim (cases_lt i (length c)) [
  | inl below ↦ below
  | inr above ↦ absurd (true≢false (sym h ∙ take_past c i n above))
]

takes_prefix : (c : List Step) (s : Step) (i n : ℕ) → i < length c → takes_at (c ++ s ∷ []) i n ≡ takes_at c i n
takes_prefix [] s i n h = absurd (omega (arith, h))
takes_prefix (x ∷ xs) s zero n h = refl
takes_prefix (x ∷ xs) s (suc i) n h = takes_prefix xs s i n (omega (arith, h))

takes_last : (c : List Step) (s : Step) (n : ℕ) → takes_at (c ++ s ∷ []) (length c) n ≡ takes_away s n
takes_last [] s n = refl
takes_last (x ∷ xs) s n = takes_last xs s n

-- a step that doesn't take the node away changes nothing for it
untaken_with : (c : List Step) (s : Step) (i n : ℕ) → takes_away s n ≡ false → takes_at c i n ≡ false → takes_at (c ++ s ∷ []) i n ≡ false
untaken_with [] s zero n off h = off
untaken_with [] s (suc i) n off h = refl
untaken_with (x ∷ xs) s zero n off h = h
untaken_with (x ∷ xs) s (suc i) n off h = untaken_with xs s i n off h

taken_off : (c : List Step) (s : Step) (n p : ℕ) → IsTaken n c p → takes_away s n ≡ false → IsTaken n (c ++ s ∷ []) p
taken_off c s n p is off = record {
  before = λ k b. untaken_with c s k n off (is.before k b);
  there = elim is.there [
    | inl on ↦ inl (takes_prefix c s p n (takes_within c p n on) ∙ on)
    | inr e ↦ inr e
  ];
}

taken_on : (c : List Step) (s : Step) (n p : ℕ) → length c ≤ nowhere → IsTaken n c p → takes_away s n ≡ true → IsTaken n (c ++ s ∷ []) (min p (length c))
taken_on c s n p few is on = elim is.there [
  | inl here ↦ (
      let within = takes_within c p n here in
      let same : p ≡ min p (length c) = omega (arith, within) in
      subst (IsTaken n (c ++ s ∷ [])) same (record {
        before = λ k b. takes_prefix c s k n (omega (arith, b, within)) ∙ is.before k b;
        there = inl (takes_prefix c s p n within ∙ here);
      }))
  | inr e ↦ (
      let same : length c ≡ min p (length c) = omega (arith, e, few) in
      subst (IsTaken n (c ++ s ∷ [])) same (record {
        before = λ k b. takes_prefix c s k n b ∙ is.before k (omega (arith, b, e, few));
        there = inl (takes_last c s n ∙ on);
      }))
]

-- a step takes away the node that it names, or none
drop_takes : (s : Step) (n : ℕ) → names n s ≡ true → is_drop s ≡ takes_away s n
drop_takes (node t) n h = refl
drop_takes (link u v) n h = refl
drop_takes (unlink u v) n h = refl
drop_takes (drop_step u) n h = sym h
drop_takes (relabel u t) n h = refl

pub taken_more : (c : List Step) (s : Step) (n p : ℕ) → length c ≤ nowhere → IsTaken n c p → names n s ≡ true → IsTaken n (c ++ s ∷ []) (taken_with p (length c) (is_drop s))
taken_more c s n p few is named = elim (cases_Bool (takes_away s n)) [
  | inl on ↦ subst (λ b. IsTaken n (c ++ s ∷ []) (if b then min p (length c) else p)) (sym (drop_takes s n named ∙ on)) (taken_on c s n p few is on)
  | inr off ↦ subst (λ b. IsTaken n (c ++ s ∷ []) (if b then min p (length c) else p)) (sym (drop_takes s n named ∙ off)) (taken_off c s n p is off)
]

pub taken_kept : (c : List Step) (s : Step) (n p : ℕ) → IsTaken n c p → names n s ≡ false → IsTaken n (c ++ s ∷ []) p
taken_kept c s n p is off = taken_off c s n p is (elim (cases_Bool (takes_away s n)) [
  | inl on ↦ absurd (true≢false (sym (takes_named s n on) ∙ off))
  | inr none ↦ none
])

-- ---- some step before a place takes the node away

none_taken : (c : List Step) (past n : ℕ) → ((k : ℕ) → k < past → takes_at c k n ≡ false) → is_dropped (take past c) n ≡ false
none_taken c zero n h = refl
none_taken [] (suc past) n h = refl
none_taken (s ∷ ss) (suc past) n h = ap (λ b. b || is_dropped (take past ss) n) (h 0 (omega arith)) ∙ none_taken ss past n (λ k b. h (suc k) (omega (arith, b)))

some_taken : (c : List Step) (past i n : ℕ) → i < past → takes_at c i n ≡ true → is_dropped (take past c) n ≡ true
some_taken c zero i n b h = absurd (omega (arith, b))
some_taken [] (suc past) i n b h = absurd (true≢false (sym h))
some_taken (s ∷ ss) (suc past) zero n b h = ap (λ t. t || is_dropped (take past ss) n) h
some_taken (s ∷ ss) (suc past) (suc i) n b h = ap (λ t. takes_away s n || t) (some_taken ss past i n (omega (arith, b)) h) ∙ or-true (takes_away s n)

pub taken_before : (c : List Step) (past place n : ℕ) → past ≤ nowhere → IsTaken n c place → nat_lt place past ≡ is_dropped (take past c) n
taken_before c past place n few is = elim (cases_lt place past) [
  | inl below ↦ lt-ltb place past below ∙ sym (elim is.there [
    | inl on ↦ some_taken c past place n below on
    | inr e ↦ absurd (omega (arith, e, few, below))
  ])
  | inr above ↦ le-ltb place past above ∙ sym (none_taken c past n (λ k b. is.before k (omega (arith, b, above))))
]

-- ---- some step from a place on does, where no step names a node that one before it takes away

none_from : (c : List Step) (from n : ℕ) → ((i : ℕ) → from ≤ i → takes_at c i n ≡ true → ⊥) → is_dropped (drop from c) n ≡ false
none_from c from n none = elim (cases_Bool (is_dropped (drop from c) n)) [
  | inl on ↦ (let r = taken_at c from n on in absurd (none r.0 r.1 r.2))
  | inr off ↦ off
]

-- no step takes the node away
none_later : (c : List Step) (from place n : ℕ) → IsTaken n c place → length c ≤ place → is_dropped (drop from c) n ≡ false
none_later c from place n is past = none_from c from n (λ i low h. (let within = takes_within c i n h in true≢false (sym h ∙ is.before i (omega (arith, within, past)))))

-- where the step that takes the node away is from there on, whether it is one of the steps tells
pub taken_behind : (c : List Step) (from place n : ℕ) → length c ≤ nowhere → DropsLast c → IsTaken n c place → from ≤ place → nat_lt place (length c) ≡ is_dropped (drop from c) n
taken_behind c from place n few last is low = elim (cases_lt place (length c)) [
  | inl within ↦
      let on : takes_at c place n ≡ true = elim is.there [ inl on ↦ on | inr e ↦ absurd (omega (arith, e, within, few)) ] in
      lt-ltb place (length c) within ∙ sym (taken_from c from place n low on)
  | inr past ↦ le-ltb place (length c) past ∙ sym (none_later c from place n is past)
]

-- where it stands before, no step from there on does
pub taken_earlier : (c : List Step) (from place n : ℕ) → length c ≤ nowhere → DropsLast c → IsTaken n c place → place < from → is_dropped (drop from c) n ≡ false
taken_earlier c from place n few last is early = elim (cases_lt place (length c)) [
  | inl within ↦
      let on : takes_at c place n ≡ true = elim is.there [ inl on ↦ on | inr e ↦ absurd (omega (arith, e, within, few)) ] in
      none_from c from n (λ i low h. true≢false (sym (named_there c i n h) ∙ behind_take c place i n last on (omega (arith, early, low))))
  | inr past ↦ none_later c from place n is past
]

-- Links of steps, as they are read, and as a change gets one step more.
use Rattle.std.proofs.Common.{◌≡◌, ℕ, zero, suc, ◌+◌, ◌-◌, ◌<◌, ◌≤◌, Bool, true, false, List, [], ◌∷◌, ◌++◌, length, take, drop, get_or, set, refl, sym, ap, ◌∙◌, subst, arith, inl, inr, nat_eq, true≢false}
use Rattle.std.specs.Prelude.{◌||◌, ◌&&◌, ◌⊎◌, ◌≢◌, Option, Some, None, is_some, unwrap_or, min, slice_get, if◌then◌else◌, not}
use Rattle.std.specs.Map.{lookup}
use Rattle.std.proofs.lemmas.List.{length-append, length-map}
use Rattle.std.proofs.lemmas.Bool.{cases_Bool, cases_lt}
use Rattle.std.proofs.lemmas.Bool.Decides.{eqb_tells}
use Rattle.change_spec.specs.Steps.{Step, node, link, unlink, drop as drop_step, relabel}
use Rattle.change_spec.specs.Named.{names, is_named}
use Rattle.graph_steps.specs.declared.changes.Step.{Step as Asked}
use Rattle.graph_steps.specs.declared.links.Links.{Links}
use Rattle.graph_steps.specs.declared.links.Ends.{Ends}
use Rattle.graph_steps.specs.StepLists.{step_of, steps_of}
use Rattle.graph_steps.specs.NamedSteps.{IsNextNamed}
use Rattle.graph_steps.proofs.NamedParts.{got_within}
use Rattle.graph_steps.proofs.FirstTakes.{taken_more, taken_kept}
use Rattle.graph_steps.specs.StepLinks.{names_at, nowhere, IsAhead, IsLater, IsLast, is_first, next_of, with_next, link_at, with_link, AreLinks, no_ends, ends_at, first_at, last_at, taken_at, is_drop, ends_with, IsTaken, AreNoted, AreEnds, Notes, LeadsTo}

-- ---- the step at a place

pub named_within : (c : List Step) (i n : ℕ) → names_at c i n ≡ true → i < length c
named_within [] i n h = absurd (true≢false (sym h))
named_within (s ∷ ss) zero n h = omega arith
named_within (s ∷ ss) (suc i) n h = (let r = named_within ss i n h in omega (arith, r))

pub past_end : (c : List Step) (i n : ℕ) → length c ≤ i → names_at c i n ≡ false
past_end c i n h = elim (cases_Bool (names_at c i n)) [
  | inl on ↦ absurd (let r = named_within c i n on in omega (arith, r, h))
  | inr off ↦ off
]

named_prefix : (c : List Step) (s : Step) (i n : ℕ) → i < length c → names_at (c ++ s ∷ []) i n ≡ names_at c i n
named_prefix [] s i n h = absurd (omega (arith, h))
named_prefix (x ∷ xs) s zero n h = refl
named_prefix (x ∷ xs) s (suc i) n h = named_prefix xs s i n (omega (arith, h))

named_last : (c : List Step) (s : Step) (n : ℕ) → names_at (c ++ s ∷ []) (length c) n ≡ names n s
named_last [] s n = refl
named_last (x ∷ xs) s n = named_last xs s n

-- a step that is there stays, and one that names the node where none did is the last
named_stays : (c : List Step) (s : Step) (i n : ℕ) → names_at c i n ≡ true → names_at (c ++ s ∷ []) i n ≡ true
named_stays c s i n h = named_prefix c s i n (named_within c i n h) ∙ h

named_more : (c : List Step) (s : Step) (i n : ℕ) → names_at (c ++ s ∷ []) i n ≡ true → ((i < length c) × (names_at c i n ≡ true)) ⊎ ((i ≡ length c) × (names n s ≡ true))
named_more c s i n h = elim (cases_lt i (length c)) [
  | inl below ↦ inl (below, sym (named_prefix c s i n below) ∙ h)
  | inr above ↦ (
      let within = named_within (c ++ s ∷ []) i n h in
      let len = length-append c (s ∷ []) in
      let last : i ≡ length c = omega (arith, above, within, len) in
      inr (last, sym (named_last c s n) ∙ ap (λ k. names_at (c ++ s ∷ []) k n) (sym last) ∙ h))
]

unnamed_more : (c : List Step) (s : Step) (i n : ℕ) → i < length c → names_at c i n ≡ false → names_at (c ++ s ∷ []) i n ≡ false
unnamed_more c s i n below h = named_prefix c s i n below ∙ h

-- a step that doesn't name the node changes nothing for it
unnamed_with : (c : List Step) (s : Step) (i n : ℕ) → names n s ≡ false → names_at c i n ≡ false → names_at (c ++ s ∷ []) i n ≡ false
unnamed_with c s i n off h = elim (cases_Bool (names_at (c ++ s ∷ []) i n)) [
  | inl on ↦ absurd (elim (named_more c s i n on) [
    | inl there ↦ true≢false (sym there.1 ∙ h)
    | inr last ↦ true≢false (sym last.1 ∙ off)
  ])
  | inr none ↦ none
]

-- ---- the code's reads and writes

pub name_there : (ss : List Asked) (i n : ℕ) (s : Asked) → i < length ss → s ≡ get_or ss i s → names n (step_of s) ≡ names_at (steps_of ss) i n
name_there [] i n s h e = absurd (omega (arith, h))
name_there (x ∷ xs) zero n s h e = ap (λ (y : Asked). names n (step_of y)) e
name_there (x ∷ xs) (suc i) n s h e = name_there xs i n s (omega (arith, h)) e

pub link_there : (ss : List Asked) (ls : List Links) (i n : ℕ) (s : Asked) (d : Links) → i < length ss → i < length ls → s ≡ get_or ss i s
    → next_of (step_of s) (get_or ls i d) n ≡ link_at (steps_of ss) ls i n
link_there [] ls i n s d h k e = absurd (omega (arith, h))
link_there (x ∷ xs) [] i n s d h k e = absurd (omega (arith, k))
link_there (x ∷ xs) (l ∷ ls) zero n s d h k e = ap (λ (z : Asked). next_of (step_of z) l n) e
link_there (x ∷ xs) (l ∷ ls) (suc i) n s d h k e = link_there xs ls i n s d (omega (arith, h)) (omega (arith, k)) e

pub set_there : (ss : List Asked) (ls : List Links) (i n next : ℕ) (s : Asked) (l : Links) → i < length ss → i < length ls → s ≡ get_or ss i s → l ≡ get_or ls i l
    → set ls i (with_next (step_of s) l n next) ≡ with_link (steps_of ss) ls i n next
set_there [] ls i n next s l h k e f = absurd (omega (arith, h))
set_there (x ∷ xs) [] i n next s l h k e f = absurd (omega (arith, k))
set_there (x ∷ xs) (y ∷ ys) zero n next s l h k e f =
    ap (λ (z : Asked). with_next (step_of z) l n next ∷ ys) e ∙ ap (λ (m : Links). with_next (step_of x) m n next ∷ ys) f
set_there (x ∷ xs) (y ∷ ys) (suc i) n next s l h k e f = ap (λ zs. y ∷ zs) (set_there xs ys i n next s l (omega (arith, h)) (omega (arith, k)) e f)

pub count_kept : (c : List Step) (ls : List Links) (i n next : ℕ) → length (with_link c ls i n next) ≡ length ls
count_kept [] ls i n next = refl
count_kept (s ∷ ss) [] i n next = refl
count_kept (s ∷ ss) (l ∷ ls) zero n next = refl
count_kept (s ∷ ss) (l ∷ ls) (suc i) n next = ap suc (count_kept ss ls i n next)

-- ---- a link that is written

first_of_two : (u v m n : ℕ) → (nat_eq m u || nat_eq m v) ≡ true → (nat_eq n u || nat_eq n v) ≡ true → m ≢ n → nat_eq m u ≡ not (nat_eq n u)
first_of_two u v m n h k d = elim (eqb_tells m u) [
  | inl e ↦ elim (eqb_tells n u) [
    | inl f ↦ absurd (d (e.1 ∙ sym f.1))
    | inr x ↦ e.0 ∙ ap not (sym x.0)
  ]
  | inr x ↦ elim (eqb_tells n u) [
    | inl f ↦ x.0 ∙ ap not (sym f.0)
    | inr y ↦ elim (eqb_tells m v) [
      | inl g ↦ elim (eqb_tells n v) [
        | inl j ↦ absurd (d (g.1 ∙ sym j.1))
        | inr z ↦ absurd (true≢false (sym k ∙ ap (λ b. b || nat_eq n v) y.0 ∙ z.0))
      ]
      | inr z ↦ absurd (true≢false (sym h ∙ ap (λ b. b || nat_eq m v) x.0 ∙ z.0))
    ]
  ]
]

same_one : (u m n : ℕ) → nat_eq m u ≡ true → nat_eq n u ≡ true → m ≡ n
same_one u m n h k = elim (eqb_tells m u) [
  | inl e ↦ elim (eqb_tells n u) [ inl f ↦ e.1 ∙ sym f.1 | inr x ↦ absurd (true≢false (sym k ∙ x.0)) ]
  | inr x ↦ absurd (true≢false (sym h ∙ x.0))
]

-- of two nodes that a step names, one is the first
one_first : (s : Step) (m n : ℕ) → names m s ≡ true → names n s ≡ true → m ≢ n → is_first m s ≡ not (is_first n s)
one_first (node t) m n h k d = absurd (true≢false (sym h))
one_first (link u v) m n h k d = first_of_two u v m n h k d
one_first (unlink u v) m n h k d = first_of_two u v m n h k d
one_first (drop_step u) m n h k d = absurd (d (same_one u m n h k))
one_first (relabel u t) m n h k d = absurd (d (same_one u m n h k))

written : (s : Step) (l : Links) (n next : ℕ) → next_of s (with_next s l n next) n ≡ next
written s l n next = by_test (is_first n s) l
  where
    by_test : (b : Bool) (l : Links) → (let w : Links = if b then record { first = next; second = l.second } else record { first = l.first; second = next } in if b then w.first else w.second) ≡ next
    by_test true l = refl
    by_test false l = refl

beside : (s : Step) (l : Links) (m n next : ℕ) → is_first m s ≡ not (is_first n s) → next_of s (with_next s l n next) m ≡ next_of s l m
beside s l m n next e = by_test (is_first n s) (is_first m s) l e
  where
    by_test : (b d : Bool) (l : Links) → d ≡ not b
        → (let w : Links = if b then record { first = next; second = l.second } else record { first = l.first; second = next } in if d then w.first else w.second) ≡ (if d then l.first else l.second)
    by_test true true l e = absurd (true≢false e)
    by_test true false l e = refl
    by_test false true l e = refl
    by_test false false l e = absurd (true≢false (sym e))

led_there : (c : List Step) (ls : List Links) (i n next : ℕ) → length ls ≡ length c → names_at c i n ≡ true → link_at c (with_link c ls i n next) i n ≡ next
led_there [] ls i n next count h = absurd (true≢false (sym h))
led_there (s ∷ ss) [] i n next count h = absurd (omega (arith, count))
led_there (s ∷ ss) (l ∷ ls) zero n next count h = written s l n next
led_there (s ∷ ss) (l ∷ ls) (suc i) n next count h = led_there ss ls i n next (omega (arith, count)) h

led_other : (c : List Step) (ls : List Links) (i n next j m : ℕ) → length ls ≡ length c → names_at c i n ≡ true → names_at c j m ≡ true → (j ≡ i → m ≡ n → ⊥)
    → link_at c (with_link c ls i n next) j m ≡ link_at c ls j m
led_other [] ls i n next j m count h k d = refl
led_other (s ∷ ss) [] i n next j m count h k d = refl
led_other (s ∷ ss) (l ∷ ls) zero n next zero m count h k d = beside s l m n next (one_first s m n k h (d refl))
led_other (s ∷ ss) (l ∷ ls) zero n next (suc j) m count h k d = refl
led_other (s ∷ ss) (l ∷ ls) (suc i) n next zero m count h k d = refl
led_other (s ∷ ss) (l ∷ ls) (suc i) n next (suc j) m count h k d = led_other ss ls i n next j m (omega (arith, count)) h k (λ e. d (ap suc e))

pub leads_there : (c : List Step) (ls : List Links) (ends : List (ℕ × Ends)) (n last place : ℕ) → length ls ≡ length c → last ≡ last_at ends n → names_at c last n ≡ true
    → LeadsTo (λ m. nat_eq m n) place c ends ls (with_link c ls last n place)
leads_there c ls ends n last place count is here i m h = elim (eqb_tells m n) [
  | inl e ↦ elim (eqb_tells i (last_at ends m)) [
    | inl f ↦ (
        let where_it_is : i ≡ last = f.1 ∙ ap (last_at ends) e.1 ∙ sym is in
        ap (λ k. link_at c (with_link c ls last n place) k m) where_it_is ∙ ap (link_at c (with_link c ls last n place) last) e.1 ∙ led_there c ls last n place count here
        ∙ sym (ap (λ b. if b && nat_eq i (last_at ends m) then place else link_at c ls i m) e.0 ∙ ap (λ b. if b then place else link_at c ls i m) f.0))
    | inr x ↦
        led_other c ls last n place i m count here h (λ same eq. x.1 (same ∙ is ∙ ap (last_at ends) (sym eq)))
        ∙ sym (ap (λ b. if b && nat_eq i (last_at ends m) then place else link_at c ls i m) e.0 ∙ ap (λ b. if b then place else link_at c ls i m) x.0)
  ]
  | inr x ↦ led_other c ls last n place i m count here h (λ same eq. x.1 eq) ∙ sym (ap (λ b. if b && nat_eq i (last_at ends m) then place else link_at c ls i m) x.0)
]

-- where no step names the node
pub leads_nowhere : (c : List Step) (ls : List Links) (ends : List (ℕ × Ends)) (n place : ℕ) → ((i : ℕ) → names_at c i n ≡ false) → LeadsTo (λ m. nat_eq m n) place c ends ls ls
leads_nowhere c ls ends n place none i m h = elim (eqb_tells m n) [
  | inl e ↦ absurd (true≢false (sym h ∙ ap (names_at c i) e.1 ∙ none i))
  | inr x ↦ sym (ap (λ b. if b && nat_eq i (last_at ends m) then place else link_at c ls i m) x.0)
]

pub leads_both : (c : List Step) (ends : List (ℕ × Ends)) (u v place : ℕ) (old mid new : List Links) → LeadsTo (λ m. nat_eq m u) place c ends old mid → LeadsTo (λ m. nat_eq m v) place c ends mid new
    → LeadsTo (λ m. nat_eq m u || nat_eq m v) place c ends old new
leads_both c ends u v place old mid new first second i m h =
    second i m h ∙ ap (λ x. if nat_eq m v && nat_eq i (last_at ends m) then place else x) (first i m h)
    ∙ either (nat_eq m u) (nat_eq m v) (nat_eq i (last_at ends m)) place (link_at c old i m)
  where
    either : (p q e : Bool) (x y : ℕ) → (if q && e then x else (if p && e then x else y)) ≡ (if (p || q) && e then x else y)
    either true true true x y = refl
    either true true false x y = refl
    either true false e x y = refl
    either false q e x y = refl

-- the last step that names a node is a step, or none does
pub last_there : (c : List Step) (n last : ℕ) → last < length c → length c ≤ nowhere → IsLast n c last → names_at c last n ≡ true
last_there c n last below few is = elim is.there [
  | inl on ↦ on
  | inr e ↦ absurd (omega (arith, e, below, few))
]

pub last_none : (c : List Step) (n last : ℕ) → length c ≤ last → IsLast n c last → (i : ℕ) → names_at c i n ≡ false
last_none c n last above is i = elim (cases_Bool (names_at c i n)) [
  | inl on ↦ absurd (let within = named_within c last n (is.last i on).1 in omega (arith, within, above))
  | inr off ↦ off
]

-- ---- one step more

-- the step that comes is the next one
now_last : (c : List Step) (s : Step) (n from : ℕ) → from ≤ length c → names n s ≡ true → ((k : ℕ) → from ≤ k → k < length c → names_at c k n ≡ false) → IsLater n (c ++ s ∷ []) from (length c)
now_last c s n from low on free = record {
  ordered = low;
  ahead = record {
    between = λ k h b. unnamed_more c s k n b (free k h b);
    there = inl (named_last c s n ∙ on);
  };
}

-- one that was there stays the next one
later_there : (c : List Step) (s : Step) (n from p : ℕ) → IsLater n c from p → names_at c p n ≡ true → IsLater n (c ++ s ∷ []) from p
later_there c s n from p is here = record {
  ordered = is.ordered;
  ahead = record {
    between = λ k h b. unnamed_more c s k n (let within = named_within c p n here in omega (arith, within, b)) (is.ahead.between k h b);
    there = inl (named_stays c s p n here);
  };
}

later_kept : (c : List Step) (s : Step) (n from p : ℕ) → IsLater n c from p → names n s ≡ false → IsLater n (c ++ s ∷ []) from p
later_kept c s n from p is off = record {
  ordered = is.ordered;
  ahead = record {
    between = λ k h b. unnamed_with c s k n off (is.ahead.between k h b);
    there = elim is.ahead.there [ inl on ↦ inl (named_stays c s p n on) | inr e ↦ inr e ];
  };
}

-- the first step that names a node
first_more : (c : List Step) (s : Step) (n p : ℕ) → length c ≤ nowhere → IsLater n c 0 p → names n s ≡ true → IsLater n (c ++ s ∷ []) 0 (min p (length c))
first_more c s n p few is on = elim is.ahead.there [
  | inl here ↦ (
      let within = named_within c p n here in
      let same : p ≡ min p (length c) = omega (arith, within) in
      subst (IsLater n (c ++ s ∷ []) 0) same (later_there c s n 0 p is here))
  | inr e ↦ (
      let same : length c ≡ min p (length c) = omega (arith, e, few) in
      subst (IsLater n (c ++ s ∷ []) 0) same (now_last c s n 0 (omega arith) on (λ k h b. is.ahead.between k h (omega (arith, b, e, few)))))
]

-- and the last
last_more : (c : List Step) (s : Step) (n : ℕ) → names n s ≡ true → IsLast n (c ++ s ∷ []) (length c)
last_more c s n on = record {
  last = λ k h. (
    (let within = named_within (c ++ s ∷ []) k n h in let len = length-append c (s ∷ []) in omega (arith, within, len)),
    named_last c s n ∙ on,
  );
  there = inl (named_last c s n ∙ on);
}

last_kept : (c : List Step) (s : Step) (n q : ℕ) → IsLast n c q → names n s ≡ false → IsLast n (c ++ s ∷ []) q
last_kept c s n q is off = record {
  last = λ k h. elim (named_more c s k n h) [
    | inl there ↦ ((is.last k there.1).0, named_stays c s q n (is.last k there.1).1)
    | inr end ↦ absurd (true≢false (sym end.1 ∙ off))
  ];
  there = elim is.there [ inl on ↦ inl (named_stays c s q n on) | inr e ↦ inr e ];
}

noted_more : (c : List Step) (s : Step) (old new : List (ℕ × Ends)) → length c ≤ nowhere → AreNoted c old → Notes (λ m. names m s) (is_drop s) (length c) old new → AreNoted (c ++ s ∷ []) new
noted_more c s old new few are notes = record {
  first = λ n. subst (λ (e : Ends). IsLater n (c ++ s ∷ []) 0 e.first) (sym (notes n)) (elim (cases_Bool (names n s)) [
    | inl on ↦ subst (λ b. IsLater n (c ++ s ∷ []) 0 (if b then ends_with (ends_at old n) (length c) (is_drop s) else ends_at old n).first) (sym on) (first_more c s n (first_at old n) few (are.first n) on)
    | inr off ↦ subst (λ b. IsLater n (c ++ s ∷ []) 0 (if b then ends_with (ends_at old n) (length c) (is_drop s) else ends_at old n).first) (sym off) (later_kept c s n 0 (first_at old n) (are.first n) off)
  ]);
  last = λ n. subst (λ (e : Ends). IsLast n (c ++ s ∷ []) e.last) (sym (notes n)) (elim (cases_Bool (names n s)) [
    | inl on ↦ subst (λ b. IsLast n (c ++ s ∷ []) (if b then ends_with (ends_at old n) (length c) (is_drop s) else ends_at old n).last) (sym on) (last_more c s n on)
    | inr off ↦ subst (λ b. IsLast n (c ++ s ∷ []) (if b then ends_with (ends_at old n) (length c) (is_drop s) else ends_at old n).last) (sym off) (last_kept c s n (last_at old n) (are.last n) off)
  ]);
  taken = λ n. subst (λ (e : Ends). IsTaken n (c ++ s ∷ []) e.taken) (sym (notes n)) (elim (cases_Bool (names n s)) [
    | inl on ↦ subst (λ b. IsTaken n (c ++ s ∷ []) (if b then ends_with (ends_at old n) (length c) (is_drop s) else ends_at old n).taken) (sym on) (taken_more c s n (taken_at old n) few (are.taken n) on)
    | inr off ↦ subst (λ b. IsTaken n (c ++ s ∷ []) (if b then ends_with (ends_at old n) (length c) (is_drop s) else ends_at old n).taken) (sym off) (taken_kept c s n (taken_at old n) (are.taken n) off)
  ]);
}

pub ends_more : (ss : List Asked) (s : Step) (old new : List (ℕ × Ends)) → 0 < length ss → length ss < nowhere → AreNoted (steps_of ss) old → Notes (λ m. names m s) (is_drop s) (length ss) old new
    → AreEnds (steps_of ss ++ s ∷ []) new
ends_more ss s old new some few are notes =
    let len = length-map ss step_of in
    let longer = length-append (steps_of ss) (s ∷ []) in
    record {
      each = λ h. noted_more (steps_of ss) s old new (omega (arith, few, len)) are (subst (λ k. Notes (λ m. names m s) (is_drop s) k old new) (sym len) notes);
      none = λ h. absurd (omega (arith, h, len, longer, some));
    }

-- the links

abbrev pub unlinked : Links
unlinked = record { first = nowhere; second = nowhere }

link_prefix : (c : List Step) (s : Step) (ls : List Links) (i n : ℕ) → length ls ≡ length c → i < length c → link_at (c ++ s ∷ []) (ls ++ unlinked ∷ []) i n ≡ link_at c ls i n
link_prefix [] s ls i n count h = absurd (omega (arith, h))
link_prefix (x ∷ xs) s [] i n count h = absurd (omega (arith, count))
link_prefix (x ∷ xs) s (l ∷ ls) zero n count h = refl
link_prefix (x ∷ xs) s (l ∷ ls) (suc i) n count h = link_prefix xs s ls i n (omega (arith, count)) (omega (arith, h))

link_last : (c : List Step) (s : Step) (ls : List Links) (n : ℕ) → length ls ≡ length c → link_at (c ++ s ∷ []) (ls ++ unlinked ∷ []) (length c) n ≡ nowhere
link_last [] s [] n count = by_test (is_first n s)
  where
    by_test : (b : Bool) → (if b then nowhere else nowhere) ≡ nowhere
    by_test true = refl
    by_test false = refl
link_last [] s (l ∷ ls) n count = absurd (omega (arith, count))
link_last (x ∷ xs) s [] n count = absurd (omega (arith, count))
link_last (x ∷ xs) s (l ∷ ls) n count = link_last xs s ls n (omega (arith, count))

-- the link of a step that was there, once the last step that names each node of the step that comes leads to it
link_more : (c : List Step) (s : Step) (i n last p : ℕ) → length c < nowhere → names_at c i n ≡ true → IsLast n c last → IsLater n c (i + 1) p
    → IsLater n (c ++ s ∷ []) (i + 1) (if names n s && nat_eq i last then length c else p)
link_more c s i n last p few here is next = elim (cases_Bool (names n s)) [
  | inl on ↦ subst (λ b. IsLater n (c ++ s ∷ []) (i + 1) (if b && nat_eq i last then length c else p)) (sym on) (elim (eqb_tells i last) [
    | inl e ↦ subst (λ b. IsLater n (c ++ s ∷ []) (i + 1) (if b then length c else p)) (sym e.0) (
        now_last c s n (i + 1) (let within = named_within c i n here in omega (arith, within)) on (λ k h b. elim (cases_Bool (names_at c k n)) [
          | inl there ↦ absurd (let most = (is.last k there).0 in let same = e.1 in omega (arith, most, same, h))
          | inr off ↦ off
        ]))
    | inr x ↦ subst (λ b. IsLater n (c ++ s ∷ []) (i + 1) (if b then length c else p)) (sym x.0) (elim next.ahead.there [
      | inl there ↦ later_there c s n (i + 1) p next there
      | inr e ↦ absurd (
          let most = is.last i here in
          let within = named_within c last n most.1 in
          let low = most.0 in
          let beyond : i + 1 ≤ last = elim (cases_lt i last) [ inl below ↦ omega (arith, below) | inr above ↦ absurd (x.1 (omega (arith, above, low))) ] in
          true≢false (sym most.1 ∙ next.ahead.between last beyond (omega (arith, within, few, e))))
    ])
  ])
  | inr off ↦ subst (λ b. IsLater n (c ++ s ∷ []) (i + 1) (if b && nat_eq i last then length c else p)) (sym off) (later_kept c s n (i + 1) p next off)
]

links_joined : (c : List Step) (s : Step) (ends : List (ℕ × Ends)) (old new : List Links) → length c < nowhere → AreNoted c ends → AreLinks c old → length new ≡ length old
    → LeadsTo (λ m. names m s) (length c) c ends old new → AreLinks (c ++ s ∷ []) (new ++ unlinked ∷ [])
links_joined c s ends old new few are links same leads =
    let count : length new ≡ length c = same ∙ links.count in
    let more = length-append c (s ∷ []) in
    let longer = length-append new (unlinked ∷ []) in
    record {
      count = omega (arith, count, more, longer);
      next = λ i n h. elim (named_more c s i n h) [
        | inl prefix ↦ subst (IsLater n (c ++ s ∷ []) (i + 1)) (sym (link_prefix c s new i n count prefix.0 ∙ leads i n prefix.1)) (
            link_more c s i n (last_at ends n) (link_at c old i n) few prefix.1 (are.last n) (links.next i n prefix.1))
        | inr end ↦ (
            let place = end.0 in
            subst (IsLater n (c ++ s ∷ []) (i + 1)) (sym (ap (λ k. link_at (c ++ s ∷ []) (new ++ unlinked ∷ []) k n) place ∙ link_last c s new n count)) (record {
              ordered = omega (arith, place, few);
              ahead = record {
                between = λ k low high. past_end (c ++ s ∷ []) k n (omega (arith, more, low, place));
                there = inr refl;
              };
            }))
      ];
    }

pub links_more : (ss : List Asked) (s : Step) (ends : List (ℕ × Ends)) (old new all : List Links) (l : Links) → length ss < nowhere → AreNoted (steps_of ss) ends → AreLinks (steps_of ss) old
    → length new ≡ length old → LeadsTo (λ m. names m s) (length ss) (steps_of ss) ends old new → l ≡ unlinked → all ≡ new ++ l ∷ [] → AreLinks (steps_of ss ++ s ∷ []) all
links_more ss s ends old new all l few are links same leads is joined =
    let len = length-map ss step_of in
    subst (AreLinks (steps_of ss ++ s ∷ [])) (sym (joined ∙ ap (λ x. new ++ x ∷ []) is)) (
    links_joined (steps_of ss) s ends old new (omega (arith, few, len)) are links same (subst (λ k. LeadsTo (λ m. names m s) k (steps_of ss) ends old new) (sym len) leads))

-- ---- the next step that names a node

dropped_at : (c : List Step) (from k n : ℕ) → names_at (drop from c) k n ≡ names_at c (from + k) n
dropped_at c zero k n = (let same : k ≡ 0 + k = omega arith in ap (λ i. names_at c i n) same)
dropped_at [] (suc from) k n = refl
dropped_at (s ∷ ss) (suc from) k n = (let same : suc (from + k) ≡ suc from + k = omega arith in dropped_at ss from k n ∙ ap (λ i. names_at (s ∷ ss) i n) same)

none_taken : (c : List Step) (more n : ℕ) → ((k : ℕ) → k < more → names_at c k n ≡ false) → is_named (take more c) n ≡ false
none_taken c zero n h = refl
none_taken [] (suc more) n h = refl
none_taken (s ∷ ss) (suc more) n h = ap (λ b. b || is_named (take more ss) n) (h 0 (omega arith)) ∙ none_taken ss more n (λ k b. h (suc k) (omega (arith, b)))

got : (c : List Step) (i n : ℕ) (s : Step) → slice_get c i ≡ Some s → names_at c i n ≡ names n s
got [] zero n s e = cc
got [] (suc i) n s e = cc
got (x ∷ xs) zero n s e = (let same : x ≡ s = cc in ap (names n) same)
got (x ∷ xs) (suc i) n s e = got xs i n s e

pub next_named : (c : List Step) (n from place : ℕ) → from ≤ place → place ≤ length c → ((k : ℕ) → from ≤ k → k < place → names_at c k n ≡ false) → (place < length c → names_at c place n ≡ true)
    → IsNextNamed n c from place
next_named c n from place low high free here = record {
  ordered = low;
  within = high;
  between = none_taken (drop from c) (place - from) n (λ k b. dropped_at c from k n ∙ free (from + k) (omega arith) (omega (arith, b)));
  named = λ s e. sym (got c place n s e) ∙ here (got_within c place s e);
}

pub next_cut : (c : List Step) (n from p place : ℕ) → length c ≤ nowhere → from ≤ length c → place ≡ min p (length c) → IsLater n c from p → IsNextNamed n c from place
next_cut c n from p place few within is later =
    let low = later.ordered in
    next_named c n from place (omega (arith, is, low, within)) (omega (arith, is)) (λ k h b. later.ahead.between k h (omega (arith, is, b)))
    (λ below. elim later.ahead.there [
      | inl on ↦ (let same : place ≡ p = omega (arith, is, below) in ap (λ k. names_at c k n) same ∙ on)
      | inr e ↦ absurd (omega (arith, is, below, e, few))
    ])

pub no_further : (c : List Step) (n from place past : ℕ) → from ≤ past → IsAhead n c from place → IsAhead n c past place
no_further c n from place past low is = record {
  between = λ k h b. is.between k (omega (arith, low, h)) b;
  there = is.there;
}

-- in front of such a place, the one ahead is that of a step that names the node
pub ahead_there : (c : List Step) (n from place : ℕ) → place < from → from ≤ nowhere → IsAhead n c from place → names_at c place n ≡ true
ahead_there c n from place below few is = elim is.there [
  | inl on ↦ on
  | inr e ↦ absurd (omega (arith, e, below, few))
]

-- ---- whether some step names the node

none_named : (c : List Step) (n : ℕ) → ((k : ℕ) → names_at c k n ≡ false) → is_named c n ≡ false
none_named [] n h = refl
none_named (s ∷ ss) n h = ap (λ b. b || is_named ss n) (h 0) ∙ none_named ss n (λ k. h (suc k))

pub named_noted : (c : List Step) (ends : List (ℕ × Ends)) (n : ℕ) → length c ≤ nowhere → AreNoted c ends → is_named c n ≡ true → is_some (lookup (nat_eq n) ends) ≡ true
named_noted c ends n few are named = elim (cases_Bool (is_some (lookup (nat_eq n) ends))) [
  | inl on ↦ on
  | inr off ↦ absurd (true≢false (sym named ∙ none_named c n (λ k. elim (cases_lt k (length c)) [
    | inl below ↦ (are.first n).ahead.between k (omega arith) (let far = beyond (lookup (nat_eq n) ends) off in omega (arith, below, few, far))
    | inr above ↦ past_end c k n above
  ])))
]
  where
    beyond : (o : Option Ends) → is_some o ≡ false → (unwrap_or o no_ends).first ≡ nowhere
    beyond None h = refl
    beyond (Some e) h = absurd (true≢false h)

-- What steps do at a node, by those of them that name a node, instead of all steps.
use Rattle.std.proofs.Common.{◌≡◌, ℕ, zero, suc, ◌+◌, ◌-◌, ◌≤◌, Bool, true, false, List, [], ◌∷◌, ◌++◌, length, take, drop, refl, sym, ap, ◌∙◌, arith, inl, inr, nat_eq, true≢false}
use Rattle.std.specs.Prelude.{◌||◌, Option, None, Some, if◌then◌else◌}
use Rattle.std.proofs.lemmas.List.{drop-drop, take-append-drop, drop_all}
use Rattle.std.proofs.lemmas.List.Folds.{list_any-append}
use Rattle.std.proofs.Math.Bool.{or-true}
use Rattle.std.proofs.lemmas.Bool.{cases_Bool, or_cases, or_parts}
use Rattle.bisim_spec.specs.declared.sides.Side.{Side}
use Rattle.bisim_spec.specs.declared.sides.Side.TheVariants.{Parents, Children}
use Rattle.change_spec.specs.Steps.{Step, node, link, unlink, drop as drop_step, relabel}
use Rattle.change_spec.specs.Named.{names, takes_away, is_named, is_dropped}
use Rattle.change_spec.specs.EdgesAfter.{concerns, concerned}
use Rattle.graph_steps.specs.NamedSteps.{IsNextNamed}
use Rattle.graph_update.specs.ShownNeighbours.{concerns_at, concerned_at, linked_at, unless_later, with_first, new_at}
use Rattle.graph_update.proofs.ShownLaws.{unnamed_at, unnamed_far}

-- ---- the steps up to the next one that names a node

pub to_place : (c : List Step) (from place : ℕ) → from ≤ place → drop (place - from) (drop from c) ≡ drop place c
to_place c from place ordered =
    let sum : from + (place - from) ≡ place = omega (arith, ordered) in
    drop-drop (place - from) from c ∙ ap (λ k. drop k c) sum

-- those in between, and those from there on
pub parted : (c : List Step) (from place : ℕ) → from ≤ place → drop from c ≡ take (place - from) (drop from c) ++ drop place c
parted c from place ordered =
    sym (take-append-drop (place - from) (drop from c)) ∙ ap (λ r. take (place - from) (drop from c) ++ r) (to_place c from place ordered)

stays_both : (xs ys : List Step) (n : ℕ) → is_dropped (xs ++ ys) n ≡ false → (is_dropped xs n ≡ false) × (is_dropped ys n ≡ false)
stays_both xs ys n k = or_parts (is_dropped xs n) (is_dropped ys n) (sym (list_any-append (λ s. takes_away s n) xs ys) ∙ k)

-- a node that stays stays in front of a place and behind it
stays_parts : (k : ℕ) (c : List Step) (n : ℕ) → is_dropped c n ≡ false → (is_dropped (take k c) n ≡ false) × (is_dropped (drop k c) n ≡ false)
stays_parts k c n h = stays_both (take k c) (drop k c) n (ap (λ x. is_dropped x n) (take-append-drop k c) ∙ h)

-- of steps from a place on
stays_there : (c : List Step) (n start from place : ℕ) → start ≤ from → is_dropped (drop start c) n ≡ false → is_dropped (take (place - from) (drop from c)) n ≡ false
stays_there c n start from place low h =
    let behind = (stays_parts (from - start) (drop start c) n h).1 in
    (stays_parts (place - from) (drop from c) n (sym (ap (λ k. is_dropped k n) (to_place c start from low)) ∙ behind)).0

joined_at : (side : Side) (xs ys : List Step) (n m : ℕ) → concerned_at side (xs ++ ys) n m ≡ (concerned_at side xs n m || concerned_at side ys n m)
joined_at Parents xs ys n m = list_any-append (concerns m n) xs ys
joined_at Children xs ys n m = list_any-append (concerns n m) xs ys

-- where none in between concerns the edge
past_those : (side : Side) (c : List Step) (n m from place : ℕ) → from ≤ place → concerned_at side (take (place - from) (drop from c)) n m ≡ false
    → concerned_at side (drop place c) n m ≡ concerned_at side (drop from c) n m
past_those side c n m from place ordered none = sym (
    ap (λ k. concerned_at side k n m) (parted c from place ordered) ∙ joined_at side (take (place - from) (drop from c)) (drop place c) n m
    ∙ ap (λ b. b || concerned_at side (drop place c) n m) none)

-- none that doesn't name the neighbour of a node that stays does
pub neighbour_next : (side : Side) (c : List Step) (n m from place : ℕ) → is_dropped c n ≡ false → IsNextNamed m c from place
    → concerned_at side (drop place c) n m ≡ concerned_at side (drop from c) n m
neighbour_next side c n m from place stays is =
    past_those side c n m from place is.ordered (unnamed_at side (take (place - from) (drop from c)) n m is.between (stays_there c n 0 from place (omega arith) stays))

-- nor one that doesn't name the node, where its neighbour stays from a place on
pub node_next : (side : Side) (c : List Step) (n m start from place : ℕ) → start ≤ from → is_dropped (drop start c) m ≡ false → IsNextNamed n c from place
    → concerned_at side (drop place c) n m ≡ concerned_at side (drop from c) n m
node_next side c n m start from place low stays is =
    past_those side c n m from place is.ordered (unnamed_far side (take (place - from) (drop from c)) n m is.between (stays_there c m start from place low stays))

-- a step that takes the neighbour away concerns the edge
pub gone_concerned : (side : Side) (c : List Step) (n m : ℕ) → is_dropped c m ≡ true → concerned_at side c n m ≡ true
gone_concerned Parents [] n m h = absurd (true≢false (sym h))
gone_concerned Children [] n m h = absurd (true≢false (sym h))
gone_concerned side (s ∷ ss) n m h = first side ∙ elim (or_cases (takes_away s m) (is_dropped ss m) h) [
  | inl here ↦ ap (λ b. b || concerned_at side ss n m) (takes_concerns side s here)
  | inr behind ↦ ap (λ b. concerns_at side s n m || b) (gone_concerned side ss n m behind) ∙ or-true (concerns_at side s n m)
]
  where
    first : (side : Side) → concerned_at side (s ∷ ss) n m ≡ (concerns_at side s n m || concerned_at side ss n m)
    first Parents = refl
    first Children = refl

    takes_concerns : (side : Side) (s : Step) → takes_away s m ≡ true → concerns_at side s n m ≡ true
    takes_concerns Parents (node t) k = absurd (true≢false (sym k))
    takes_concerns Parents (link u v) k = absurd (true≢false (sym k))
    takes_concerns Parents (unlink u v) k = absurd (true≢false (sym k))
    takes_concerns Parents (relabel u t) k = absurd (true≢false (sym k))
    takes_concerns Parents (drop_step u) k = ap (λ b. b || nat_eq n u) k
    takes_concerns Children (node t) k = absurd (true≢false (sym k))
    takes_concerns Children (link u v) k = absurd (true≢false (sym k))
    takes_concerns Children (unlink u v) k = absurd (true≢false (sym k))
    takes_concerns Children (relabel u t) k = absurd (true≢false (sym k))
    takes_concerns Children (drop_step u) k = ap (λ b. nat_eq n u || b) k ∙ or-true (nat_eq n u)

-- ---- the step at a place

pub concerned_there : (side : Side) (c : List Step) (n m i : ℕ) (s : Step) (here : Bool) → drop i c ≡ s ∷ drop (i + 1) c → here ≡ concerns_at side s n m
    → concerned_at side (drop i c) n m ≡ (here || concerned_at side (drop (i + 1) c) n m)
concerned_there side c n m i s here is e =
    ap (λ k. concerned_at side k n m) is ∙ first side ∙ ap (λ b. b || concerned_at side (drop (i + 1) c) n m) (sym e)
  where
    first : (side : Side) → concerned_at side (s ∷ drop (i + 1) c) n m ≡ (concerns_at side s n m || concerned_at side (drop (i + 1) c) n m)
    first Parents = refl
    first Children = refl

-- what doesn't hold of it holds behind it, and at the next place
pub passed_there : (there here behind next whole : Bool) → there ≡ (here || behind) → here ≡ false → next ≡ behind → there ≡ whole → next ≡ whole
passed_there there here behind next whole parts off further same = further ∙ sym (parts ∙ ap (λ b. b || behind) off) ∙ same

-- where none is left behind it
pub none_there : (side : Side) (c : List Step) (n m place : ℕ) (whole : Bool) → length c ≤ place → concerned_at side (drop place c) n m ≡ whole → false ≡ whole
none_there Parents c n m place whole past same = sym (ap (λ k. concerned k m n) (drop_all place c past)) ∙ same
none_there Children c n m place whole past same = sym (ap (λ k. concerned k n m) (drop_all place c past)) ∙ same

-- ---- neighbours that come

-- with the first step, unless a later one concerns the edge
step_comes : (side : Side) (s : Step) (rest : List Step) (n : ℕ) → new_at side (s ∷ rest) n ≡ with_first (unless_later side rest n (linked_at side s n)) (new_at side rest n)
step_comes Parents (node t) rest n = refl
step_comes Parents (unlink u v) rest n = refl
step_comes Parents (drop_step u) rest n = refl
step_comes Parents (relabel u t) rest n = refl
step_comes Parents (link u v) rest n = elim (cases_Bool (nat_eq n v)) [
  | inr off ↦ rw off refl
  | inl on ↦ rw on (elim (cases_Bool (concerned rest u n)) [
    | inl late ↦ rw late refl
    | inr free ↦ rw free refl
  ])
]
step_comes Children (node t) rest n = refl
step_comes Children (unlink u v) rest n = refl
step_comes Children (drop_step u) rest n = refl
step_comes Children (relabel u t) rest n = refl
step_comes Children (link u v) rest n = elim (cases_Bool (nat_eq n u)) [
  | inr off ↦ rw off refl
  | inl on ↦ rw on (elim (cases_Bool (concerned rest n v)) [
    | inl late ↦ rw late refl
    | inr free ↦ rw free refl
  ])
]

pub comes_there : (side : Side) (c : List Step) (n i next : ℕ) (s : Step) (found result : Option ℕ) → drop i c ≡ s ∷ drop (i + 1) c → next ≡ i + 1 → linked_at side s n ≡ found
    → result ≡ unless_later side (drop next c) n found → new_at side (drop i c) n ≡ with_first result (new_at side (drop next c) n)
comes_there side c n i next s found result is at_next links free =
    ap (λ k. new_at side k n) (is ∙ ap (λ k. s ∷ drop k c) (sym at_next)) ∙ step_comes side s (drop next c) n
    ∙ ap (λ o. with_first (unless_later side (drop next c) n o) (new_at side (drop next c) n)) links
    ∙ ap (λ o. with_first o (new_at side (drop next c) n)) (sym free)

no_link : (side : Side) (s : Step) (n : ℕ) → names n s ≡ false → linked_at side s n ≡ None
no_link side (node t) n h = refl
no_link side (unlink u v) n h = refl
no_link side (drop_step u) n h = refl
no_link side (relabel u t) n h = refl
no_link Parents (link u v) n h = ap (λ b. if b then Some u else None) (or_parts (nat_eq n u) (nat_eq n v) h).1
no_link Children (link u v) n h = ap (λ b. if b then Some v else None) (or_parts (nat_eq n u) (nat_eq n v) h).0

-- none comes with steps that don't name the node
new_behind : (side : Side) (c : List Step) (n k : ℕ) → is_named (take k c) n ≡ false → new_at side (drop k c) n ≡ new_at side c n
new_behind side c n zero h = refl
new_behind side [] n (suc k) h = refl
new_behind side (s ∷ ss) n (suc k) h =
    let both = or_parts (names n s) (is_named (take k ss) n) h in
    new_behind side ss n k both.1
    ∙ sym (step_comes side s ss n ∙ ap (λ o. with_first (unless_later side ss n o) (new_at side ss n)) (no_link side s n both.0))

pub new_next : (side : Side) (c : List Step) (n from place : ℕ) → IsNextNamed n c from place → new_at side (drop place c) n ≡ new_at side (drop from c) n
new_next side c n from place is = ap (λ k. new_at side k n) (sym (to_place c from place is.ordered)) ∙ new_behind side (drop from c) n (place - from) is.between

pub none_left : (side : Side) (c : List Step) (n i : ℕ) → length c ≤ i → new_at side (drop i c) n ≡ []
none_left Parents c n i past = ap (λ k. new_at Parents k n) (drop_all i c past)
none_left Children c n i past = ap (λ k. new_at Children k n) (drop_all i c past)

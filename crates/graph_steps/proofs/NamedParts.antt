-- The steps that name a node, and the first of them, instead of all.
use Rattle.std.proofs.Common.{◌≡◌, ℕ, zero, suc, ◌+◌, ◌-◌, ◌<◌, ◌≤◌, Bool, false, List, [], ◌∷◌, ◌++◌, length, take, drop, get_or, refl, sym, ap, ◌∙◌, arith}
use Rattle.std.specs.Prelude.{◌||◌, not, IsTrue, Some, min, slice_get}
use Rattle.std.specs.List.{list_any}
use Rattle.std.proofs.Math.Seq.{drop-drop, drop-cons}
use Rattle.std.proofs.lemmas.List.{take_all, drop-take, length-take-le, length-map}
use Rattle.std.proofs.lemmas.List.Folds.{list_any-append}
use Rattle.std.proofs.lemmas.Bool.{or_parts, and_parts, not-true}
use Rattle.graph_spec.specs.Graphs.{Graph, is_live}
use Rattle.change_spec.specs.Steps.{Step, after}
use Rattle.change_spec.specs.Places.{CanMakeAll}
use Rattle.change_spec.specs.Named.{names, takes_away, is_named, is_dropped}
use Rattle.change_spec.specs.EdgesAfter.{concerned, edge_after, edge_by}
use Rattle.change_spec.proofs.NamedNodes.{is_added, live_after, unnamed_parent, unnamed_child}
use Rattle.change_spec.proofs.ShownNeighbours.{unconcerned}
use Rattle.graph_steps.specs.declared.changes.Step.{Step as Asked}
use Rattle.graph_steps.specs.StepLists.{step_of, steps_of}
use Rattle.graph_steps.specs.NamedSteps.{IsNextNamed}

-- ---- parts of the code's steps

pub mapped_drop : (k : ℕ) (ss : List Asked) → steps_of (drop k ss) ≡ drop k (steps_of ss)
mapped_drop zero ss = refl
mapped_drop (suc k) [] = refl
mapped_drop (suc k) (s ∷ ss) = mapped_drop k ss

pub mapped_take : (k : ℕ) (ss : List Asked) → steps_of (take k ss) ≡ take k (steps_of ss)
mapped_take zero ss = refl
mapped_take (suc k) [] = refl
mapped_take (suc k) (s ∷ ss) = ap (λ r. step_of s ∷ r) (mapped_take k ss)

-- how many the code has
pub counted : (ss : List Asked) (c : List Step) → steps_of ss ≡ c → length ss ≡ length c
counted ss c e = sym (length-map ss step_of) ∙ ap length e

pub prefix_taken : (ss : List Asked) (c : List Step) (k : ℕ) → steps_of ss ≡ c → steps_of (take k ss) ≡ take k c
prefix_taken ss c k e = mapped_take k ss ∙ ap (take k) e

-- the step at a place, and those behind it
pub step_there : (ss : List Asked) (i : ℕ) (s : Asked) → i < length ss → s ≡ get_or ss i s → drop i (steps_of ss) ≡ step_of s ∷ drop (i + 1) (steps_of ss)
step_there ss i s below is =
    let next : suc i ≡ i + 1 = omega arith in
    sym (mapped_drop i ss) ∙ ap steps_of (drop-cons ss i s below) ∙ ap (λ x. step_of x ∷ steps_of (drop (suc i) ss)) (sym is)
    ∙ ap (λ r. step_of s ∷ r) (mapped_drop (suc i) ss ∙ ap (λ k. drop k (steps_of ss)) next)

-- ---- parts behind a place, and in front of one

pub none_further : (p : Step → Bool) (k : ℕ) (xs : List Step) → list_any p xs ≡ false → list_any p (drop k xs) ≡ false
none_further p zero xs h = h
none_further p (suc k) [] h = h
none_further p (suc k) (x ∷ xs) h = none_further p k xs (or_parts (p x) (list_any p xs) h).1

none_before : (p : Step → Bool) (k : ℕ) (xs : List Step) → list_any p xs ≡ false → list_any p (take k xs) ≡ false
none_before p zero xs h = refl
none_before p (suc k) [] h = h
none_before p (suc k) (x ∷ xs) h =
    let both = or_parts (p x) (list_any p xs) h in
    ap (λ b. b || list_any p (take k xs)) both.0 ∙ none_before p k xs both.1

pub take_twice : (j k : ℕ) (xs : List Step) → j ≤ k → take j (take k xs) ≡ take j xs
take_twice zero k xs h = refl
take_twice (suc j) zero xs h = absurd (omega (arith, h))
take_twice (suc j) (suc k) [] h = refl
take_twice (suc j) (suc k) (x ∷ xs) h = ap (λ ys. x ∷ ys) (take_twice j k xs (omega (arith, h)))

pub unnamed_further : (c : List Step) (n past i : ℕ) → past ≤ i → is_named (drop past c) n ≡ false → is_named (drop i c) n ≡ false
unnamed_further c n past i h over =
    let sum : past + (i - past) ≡ i = omega (arith, h) in
    ap (λ k. is_named (drop k c) n) (sym sum) ∙ ap (λ k. is_named k n) (sym (drop-drop (i - past) past c)) ∙ none_further (names n) (i - past) (drop past c) over

-- ---- the next step that names a node, in front of a place

got_taken : (c : List Step) (k i : ℕ) (s : Step) → slice_get (take k c) i ≡ Some s → slice_get c i ≡ Some s
got_taken c zero zero s e = cc
got_taken c zero (suc i) s e = cc
got_taken [] (suc k) i s e = e
got_taken (x ∷ xs) (suc k) zero s e = e
got_taken (x ∷ xs) (suc k) (suc i) s e = got_taken xs k i s e

pub got_within : (c : List Step) (i : ℕ) (s : Step) → slice_get c i ≡ Some s → i < length c
got_within [] zero s e = cc
got_within [] (suc i) s e = cc
got_within (x ∷ xs) zero s e = omega arith
got_within (x ∷ xs) (suc i) s e = (let r = got_within xs i s e in omega (arith, r))

pub next_prefix : (c : List Step) (n k from p place : ℕ) → k ≤ length c → from ≤ k → place ≡ min p k → IsNextNamed n c from p → IsNextNamed n (take k c) from place
next_prefix c n k from p place within below is next =
    let len = length-take-le k c within in
    let low = next.ordered in
    record {
      ordered = omega (arith, is, low, below);
      within = omega (arith, is, len);
      between =
          let sum : from + (k - from) ≡ k = omega (arith, below) in
          ap (λ j. is_named (take (place - from) (drop from (take j c))) n) (sym sum)
          ∙ ap (λ xs. is_named (take (place - from) xs) n) (drop-take from (k - from) c)
          ∙ ap (λ xs. is_named xs n) (take_twice (place - from) (k - from) (drop from c) (omega (arith, is)) ∙ sym (take_twice (place - from) (p - from) (drop from c) (omega (arith, is))))
          ∙ none_before (names n) (place - from) (take (p - from) (drop from c)) next.between;
      named = λ s e. (
          let inside = got_within (take k c) place s e in
          let same : place ≡ p = omega (arith, is, inside, len) in
          next.named s (ap (λ i. slice_get c i) (sym same) ∙ got_taken c k place s e));
    }

-- ---- the steps from one place on and before another, as one more that names the node is gone through

abbrev pub stretch : List Step → ℕ → ℕ → List Step
stretch c from past = take (past - from) (drop from c)

pub stretch_all : (c : List Step) (from past : ℕ) → from ≤ length c → length c ≤ past → stretch c from past ≡ drop from c
stretch_all c from past low high = (let len = dropped_len from c low in take_all (past - from) (drop from c) (omega (arith, len, high)))
  where
    dropped_len : (k : ℕ) (xs : List Step) → k ≤ length xs → length (drop k xs) + k ≡ length xs
    dropped_len zero xs h = omega arith
    dropped_len (suc k) [] h = absurd (omega (arith, h))
    dropped_len (suc k) (x ∷ xs) h = (let r = dropped_len k xs (omega (arith, h)) in omega (arith, r))

taken_on : (a b : ℕ) (xs : List Step) → take (a + b) xs ≡ take a xs ++ take b (drop a xs)
taken_on zero b xs = (let same : 0 + b ≡ b = omega arith in ap (λ k. take k xs) same)
taken_on (suc a) b [] = nothing (suc a + b) ∙ sym (nothing b)
  where
    nothing : (k : ℕ) → take {A = Step} k [] ≡ []
    nothing zero = refl
    nothing (suc k) = refl
taken_on (suc a) b (x ∷ xs) = (let same : suc a + b ≡ suc (a + b) = omega arith in ap (λ k. take k (x ∷ xs)) same ∙ ap (λ ys. x ∷ ys) (taken_on a b xs))

pub stretch_more : (c : List Step) (s : Step) (from i j : ℕ) → from ≤ i → i + 1 ≤ j → drop i c ≡ s ∷ drop (i + 1) c → stretch c from j ≡ stretch c from i ++ (s ∷ stretch c (i + 1) j)
stretch_more c s from i j low high there =
    let sum : j - from ≡ (i - from) + suc (j - (i + 1)) = omega (arith, low, high) in
    let to_place : from + (i - from) ≡ i = omega (arith, low) in
    ap (λ k. take k (drop from c)) sum ∙ taken_on (i - from) (suc (j - (i + 1))) (drop from c)
    ∙ ap (λ xs. stretch c from i ++ take (suc (j - (i + 1))) xs) (drop-drop (i - from) from c ∙ ap (λ k. drop k c) to_place ∙ there)

pub some_step : (c : List Step) (i : ℕ) → i < length c → (s : Step) × (drop i c ≡ s ∷ drop (i + 1) c)
some_step [] i h = absurd (omega (arith, h))
some_step (x ∷ xs) zero h = (x, refl)
some_step (x ∷ xs) (suc i) h = (
    let r = some_step xs i (omega (arith, h)) in
    let same : suc (i + 1) ≡ suc i + 1 = omega arith in
    (r.0, r.1 ∙ ap (λ k. r.0 ∷ drop k (x ∷ xs)) same))

-- ---- what the steps that name a node decide

-- what is live behind the steps, none of them takes away
pub live_stays : (c : List Step) (g : Graph) (n : ℕ) → CanMakeAll c g → IsTrue (is_live (after c g) n) → is_dropped c n ≡ false
live_stays c g n can live =
    not-true (is_dropped c n) (and_parts (is_live g n || is_added g (after c g) n) (not (is_dropped c n)) (sym (live_after c g n can) ∙ live)).1

pub stays_parts : (xs ys : List Step) (n : ℕ) → is_dropped (xs ++ ys) n ≡ false → (is_dropped xs n ≡ false) × (is_dropped ys n ≡ false)
stays_parts xs ys n h = or_parts (is_dropped xs n) (is_dropped ys n) (sym (list_any-append (λ s. takes_away s n) xs ys) ∙ h)

pub edge_joined : (xs ys : List Step) (p n : ℕ) (b : Bool) → edge_after (xs ++ ys) p n b ≡ edge_after ys p n (edge_after xs p n b)
edge_joined [] ys p n b = refl
edge_joined (x ∷ xs) ys p n b = edge_joined xs ys p n (edge_by x p n b)

-- steps that don't name the node leave the edge as it was
abbrev pub Skips : ℕ → ℕ → ℕ → List Step → Type 0
Skips n u v c = (from past : ℕ) → is_named (stretch c from past) n ≡ false → concerned (stretch c from past) u v ≡ false

-- so do those that don't name the one end of an edge, where no step takes the other end away
stays_within : (c : List Step) (n from past : ℕ) → is_dropped c n ≡ false → is_dropped (stretch c from past) n ≡ false
stays_within c n from past h = none_before (λ s. takes_away s n) (past - from) (drop from c) (none_further (λ s. takes_away s n) from c h)

pub skips_from : (c : List Step) (u v : ℕ) → is_dropped c v ≡ false → Skips u u v c
skips_from c u v h from past none = unnamed_parent (stretch c from past) u v none (stays_within c v from past h)

pub skips_onto : (c : List Step) (u v : ℕ) → is_dropped c u ≡ false → Skips v u v c
skips_onto c u v h from past none = unnamed_child (stretch c from past) u v none (stays_within c u from past h)

-- so what an edge becomes is known by the steps that name the node
pub edge_begun : (c : List Step) (n u v i : ℕ) (b : Bool) → Skips n u v c → IsNextNamed n c 0 i → b ≡ edge_after (stretch c 0 i) u v b
edge_begun c n u v i b skips next = sym (unconcerned (stretch c 0 i) u v b (skips 0 i next.between))

pub edge_more : (c : List Step) (s : Step) (n u v i j : ℕ) (b before : Bool) → Skips n u v c → drop i c ≡ s ∷ drop (i + 1) c → IsNextNamed n c (i + 1) j
    → before ≡ edge_after (stretch c 0 i) u v b → edge_by s u v before ≡ edge_after (stretch c 0 j) u v b
edge_more c s n u v i j b before skips there next is = sym (
    ap (λ k. edge_after k u v b) (stretch_more c s 0 i j (omega arith) next.ordered there)
    ∙ edge_joined (stretch c 0 i) (s ∷ stretch c (i + 1) j) u v b
    ∙ unconcerned (stretch c (i + 1) j) u v (edge_by s u v (edge_after (stretch c 0 i) u v b)) (skips (i + 1) j next.between)
    ∙ ap (edge_by s u v) (sym is))

pub edge_done : (c : List Step) (u v i : ℕ) (b before : Bool) → length c ≤ i → before ≡ edge_after (stretch c 0 i) u v b → before ≡ edge_after c u v b
edge_done c u v i b before past is = is ∙ ap (λ k. edge_after k u v b) (stretch_all c 0 i (omega arith) past)

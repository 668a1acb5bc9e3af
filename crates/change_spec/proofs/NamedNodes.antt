-- What is live once steps are made, and what steps concern, by the nodes that they name.
use Rattle.std.proofs.Common.{length-append, ◌≡◌, ◌≢◌, ◌⊎◌, ℕ, ◌+◌, ◌<◌, ◌≤◌, Bool, true, false, List, [], ◌∷◌, length, Some, None, refl, sym, ap, ◌∙◌, arith, inl, inr, nat_eq, nat_lt, true≢false}
use Rattle.std.specs.Prelude.{◌||◌, ◌&&◌, not}
use Rattle.std.proofs.Math.Bool.{and-false, and-true}
use Rattle.std.proofs.lemmas.Bool.{cases_Bool, or_parts}
use Rattle.std.proofs.lemmas.Bool.Decides.{eqb_tells, nat_tests}
use Rattle.graph_spec.specs.Graphs.{Graph, is_live}
use Rattle.change_spec.specs.Steps.{Step, node, link, unlink, drop, relabel, made, after}
use Rattle.change_spec.specs.Places.{CanMakeAll}
use Rattle.change_spec.specs.Named.{names, is_named, takes_away, is_dropped}
use Rattle.change_spec.specs.EdgesAfter.{concerns, concerned, new_parents, new_children}
use Rattle.change_spec.proofs.StepPlaces.{live_added, live_dropped, live_labelled, live_given, given_set, given_made}

-- ---- what is live

-- the number is allocated by the steps, where so many were before and are after
abbrev pub is_added : Graph → Graph → ℕ → Bool
is_added g g2 n = not (nat_lt n (length g.allocated)) && nat_lt n (length g2.allocated)

pub given_all : (c : List Step) (g : Graph) → length g.allocated ≤ length (after c g).allocated
given_all [] g = omega arith
given_all (s ∷ ss) g = (let a = given_made s g in let b = given_all ss (made s g) in omega (arith, a, b))

-- one number more
grown : (n a b : ℕ) (l : Bool) → a + 1 ≤ b → ((l || nat_eq n a) || (not (nat_lt n (a + 1)) && nat_lt n b)) ≡ (l || (not (nat_lt n a) && nat_lt n b))
grown n a b true h = refl
grown n a b false h = elim (eqb_tells n a) [
  | inl e ↦ (
      let low : nat_lt n a ≡ false = ap (λ m. nat_lt m a) e.1 ∙ itself a in
      let high : nat_lt n b ≡ true = ap (λ m. nat_lt m b) e.1 ∙ under (omega (arith, h)) in
      rw (e.0, low, high) refl)
  | inr d ↦ rw (d.0, next d.1) refl
]
  where
    under : {a b : ℕ} → a < b → nat_lt a b ≡ true
    under {a} {b} h = grind (arith, nat_tests)

    itself : (a : ℕ) → nat_lt a a ≡ false
    itself a = grind (arith, nat_tests)

    next : n ≢ a → nat_lt n (a + 1) ≡ nat_lt n a
    next d = grind (arith, nat_tests)

-- a node is live after the steps where it was before or is added, and none of them takes it away
pub live_after : (c : List Step) (g : Graph) (n : ℕ) → CanMakeAll c g → is_live (after c g) n ≡ ((is_live g n || is_added g (after c g) n) && not (is_dropped c n))
live_after [] g n can = plain (is_live g n) (nat_lt n (length g.allocated))
  where
    plain : (b l : Bool) → b ≡ ((b || (not l && l)) && not false)
    plain true true = refl
    plain true false = refl
    plain false true = refl
    plain false false = refl
live_after (node t ∷ ss) g n can =
    let more = given_all ss (made (node t) g) in
    let one : length (made (node t) g).allocated ≡ length g.allocated + 1 = length-append g.allocated (Some t ∷ []) in
    live_after ss (made (node t) g) n can.1
    ∙ ap (λ b. (b || is_added (made (node t) g) (after ss (made (node t) g)) n) && not (is_dropped ss n)) (live_added g t n)
    ∙ ap (λ k. ((is_live g n || nat_eq n (length g.allocated)) || (not (nat_lt n k) && nat_lt n (length (after ss (made (node t) g)).allocated))) && not (is_dropped ss n)) one
    ∙ ap (λ b. b && not (is_dropped ss n)) (grown n (length g.allocated) (length (after ss (made (node t) g)).allocated) (is_live g n) (omega (arith, more, one)))
live_after (link u v ∷ ss) g n can = live_after ss (made (link u v) g) n can.1
live_after (unlink u v ∷ ss) g n can = live_after ss (made (unlink u v) g) n can.1
live_after (relabel u t ∷ ss) g n can =
    live_after ss (made (relabel u t) g) n can.1
    ∙ ap (λ b. (b || is_added (made (relabel u t) g) (after ss (made (relabel u t) g)) n) && not (is_dropped ss n)) (live_labelled g u t n can.0)
    ∙ ap (λ k. (is_live g n || (not (nat_lt n k) && nat_lt n (length (after ss (made (relabel u t) g)).allocated))) && not (is_dropped ss n)) (given_set g u (Some t))
live_after (drop u ∷ ss) g n can =
    live_after ss (made (drop u) g) n can.1
    ∙ ap (λ b. (b || is_added (made (drop u) g) (after ss (made (drop u) g)) n) && not (is_dropped ss n)) (live_dropped g u n)
    ∙ ap (λ k. ((is_live g n && not (nat_eq n u)) || (not (nat_lt n k) && nat_lt n (length (after ss (made (drop u) g)).allocated))) && not (is_dropped ss n)) (given_set g u None)
    ∙ elim (eqb_tells n u) [
      | inl e ↦ (
          let below : nat_lt n (length g.allocated) ≡ true = ap (λ m. nat_lt m (length g.allocated)) e.1 ∙ under (live_given g u can.0) in
          rw (e.0, below) (gone (is_live g n) (nat_lt n (length (after ss (made (drop u) g)).allocated)) (is_dropped ss n)))
      | inr d ↦ rw d.0 (ap (λ b. (b || (not (nat_lt n (length g.allocated)) && nat_lt n (length (after ss (made (drop u) g)).allocated))) && not (is_dropped ss n)) (and-true (is_live g n)))
    ]
  where
    under : {a b : ℕ} → a < b → nat_lt a b ≡ true
    under {a} {b} h = grind (arith, nat_tests)

    gone : (l m d : Bool) → (((l && false) || (false && m)) && not d) ≡ ((l || (false && m)) && not (true || d))
    gone true m d = sym (and-false (true || (false && m)))
    gone false m d = sym (and-false (false || (false && m)))

-- ---- what steps concern

-- a step that doesn't name one end of an edge, and doesn't take the other away
unnamed_start : (s : Step) (p n : ℕ) → names p s ≡ false → takes_away s n ≡ false → concerns p n s ≡ false
unnamed_start (node t) p n h k = refl
unnamed_start (link u v) p n h k = ap (λ b. b && nat_eq n v) (or_parts (nat_eq p u) (nat_eq p v) h).0
unnamed_start (unlink u v) p n h k = ap (λ b. b && nat_eq n v) (or_parts (nat_eq p u) (nat_eq p v) h).0
unnamed_start (drop u) p n h k = ap (λ b. b || nat_eq n u) h ∙ k
unnamed_start (relabel u t) p n h k = refl

unnamed_end : (s : Step) (n m : ℕ) → names m s ≡ false → takes_away s n ≡ false → concerns n m s ≡ false
unnamed_end (node t) n m h k = refl
unnamed_end (link u v) n m h k = ap (λ b. nat_eq n u && b) (or_parts (nat_eq m u) (nat_eq m v) h).1 ∙ and-false (nat_eq n u)
unnamed_end (unlink u v) n m h k = ap (λ b. nat_eq n u && b) (or_parts (nat_eq m u) (nat_eq m v) h).1 ∙ and-false (nat_eq n u)
unnamed_end (drop u) n m h k = ap (λ b. b || nat_eq m u) k ∙ h
unnamed_end (relabel u t) n m h k = refl

pub unnamed_parent : (c : List Step) (p n : ℕ) → is_named c p ≡ false → is_dropped c n ≡ false → concerned c p n ≡ false
unnamed_parent [] p n h k = refl
unnamed_parent (s ∷ ss) p n h k =
    let a = or_parts (names p s) (is_named ss p) h in
    let b = or_parts (takes_away s n) (is_dropped ss n) k in
    ap (λ x. x || concerned ss p n) (unnamed_start s p n a.0 b.0) ∙ unnamed_parent ss p n a.1 b.1

pub unnamed_child : (c : List Step) (n m : ℕ) → is_named c m ≡ false → is_dropped c n ≡ false → concerned c n m ≡ false
unnamed_child [] n m h k = refl
unnamed_child (s ∷ ss) n m h k =
    let a = or_parts (names m s) (is_named ss m) h in
    let b = or_parts (takes_away s n) (is_dropped ss n) k in
    ap (λ x. x || concerned ss n m) (unnamed_end s n m a.0 b.0) ∙ unnamed_child ss n m a.1 b.1

-- no edge comes to a node that no step names
pub unnamed_bare : (c : List Step) (n : ℕ) → is_named c n ≡ false → (new_parents c n ≡ []) × (new_children c n ≡ [])
unnamed_bare [] n h = (refl, refl)
unnamed_bare (node t ∷ ss) n h = unnamed_bare ss n h
unnamed_bare (unlink u v ∷ ss) n h = unnamed_bare ss n (or_parts (nat_eq n u || nat_eq n v) (is_named ss n) h).1
unnamed_bare (drop u ∷ ss) n h = unnamed_bare ss n (or_parts (nat_eq n u) (is_named ss n) h).1
unnamed_bare (relabel u t ∷ ss) n h = unnamed_bare ss n (or_parts (nat_eq n u) (is_named ss n) h).1
unnamed_bare (link u v ∷ ss) n h =
    let a = or_parts (nat_eq n u || nat_eq n v) (is_named ss n) h in
    let b = or_parts (nat_eq n u) (nat_eq n v) a.0 in
    let r = unnamed_bare ss n a.1 in
    (rw (b.1) r.0, rw (b.0) r.1)

-- a node that steps take away is named
dropped_names : (s : Step) (n : ℕ) → takes_away s n ≡ true → names n s ≡ true
dropped_names (node t) n h = h
dropped_names (link u v) n h = absurd (true≢false (sym h))
dropped_names (unlink u v) n h = absurd (true≢false (sym h))
dropped_names (drop u) n h = h
dropped_names (relabel u t) n h = absurd (true≢false (sym h))

pub unnamed_stays : (c : List Step) (n : ℕ) → is_named c n ≡ false → is_dropped c n ≡ false
unnamed_stays [] n h = refl
unnamed_stays (s ∷ ss) n h =
    let a = or_parts (names n s) (is_named ss n) h in
    ap (λ x. x || is_dropped ss n) (one (cases_Bool (takes_away s n)) a.0) ∙ unnamed_stays ss n a.1
  where
    one : (takes_away s n ≡ true) ⊎ (takes_away s n ≡ false) → names n s ≡ false → takes_away s n ≡ false
    one (inl on) h = absurd (true≢false (sym (dropped_names s n on) ∙ h))
    one (inr off) h = off

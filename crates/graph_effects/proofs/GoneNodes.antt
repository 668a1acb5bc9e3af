-- The nodes that come and go with a list of steps, each once.
use Rattle.std.proofs.Common.{◌≡◌, ◌≢◌, ◌⊎◌, ℕ, ◌+◌, ◌<◌, ◌≤◌, Bool, true, false, List, [], ◌∷◌, ◌++◌, length, is_some, refl, sym, ap, ◌∙◌, subst, arith, inl, inr, true≢false, take, get_or}
use Rattle.std.specs.Prelude.{nat_eq, nat_lt, ◌&&◌, ◌||◌, not}
use Rattle.std.specs.List.{list_any, IsDistinct, AllByRecursion}
use Rattle.std.proofs.Math.Bool.{or-false, and-false}
use Rattle.std.proofs.lemmas.Bool.{cases_Bool}
use Rattle.std.proofs.lemmas.Bool.Decides.{eqb_tells, nat_tests}
use Rattle.std.proofs.lemmas.Cmp.{nat_eq_equiv}
use Rattle.std.proofs.lemmas.List.{append_assoc, append-nil}
use Rattle.std.proofs.lemmas.List.Folds.{list_any-append}
use Rattle.std.proofs.lemmas.Map.Keys.{IsDistinct-cons, IsDistinct-push}
use Rattle.graph_spec.specs.Graphs.{Graph, is_live}
use Rattle.graph_spec.specs.Members.{has, Lists}
use Rattle.change_spec.specs.Steps.{Step, node, link, unlink, drop, relabel, without_node, made, after}
use Rattle.change_spec.specs.Places.{CanMake, CanMakeAll}
use Rattle.change_spec.specs.Named.{takes_away, is_dropped}
use Rattle.change_spec.proofs.Accepted.{applied_can, accepted_all}
use Rattle.change_spec.proofs.NamedNodes.{is_added, live_after}
use Rattle.change_spec.proofs.StepGraphs.{label_gone}
use Rattle.change_spec.proofs.StepPlaces.{live_given, given_made, gone_stays}
use Rattle.graph_steps.specs.declared.changes.Step.{Step as Asked}
use Rattle.graph_steps.specs.NewChanges.{IsNew}
use Rattle.graph_steps.specs.StepLists.{step_of, steps_of}
use Rattle.graph_steps.proofs.PrefixSteps.{more_at}
use Rattle.graph_effects.specs.Effects.{is_new_node}
use Rattle.graph_effects.specs.StepEffects.{node_if, comes_below, gone_by, gone_with}

pub new_can : (c : List Step) (g : Graph) → IsNew c g → CanMakeAll c g
new_can c g new = applied_can c g (after c g) new.limits (accepted_all c g (after c g) new.limits new.accepted).1

-- ---- lists

pub if_has : (b : Bool) (u n : ℕ) → has (node_if b u) n ≡ (b && nat_eq n u)
if_has true u n = or-false (nat_eq n u)
if_has false u n = refl

pub none_in : {K : Type 0} (eq : K → K → Bool) (x : K) (ys : List K) → list_any (eq x) ys ≡ false → AllByRecursion (λ y. eq x y ≡ false) ys
none_in eq x [] h = tt
none_in eq x (y ∷ ys) h = (first (eq x y) (list_any (eq x) ys) h, none_in eq x ys (second (eq x y) (list_any (eq x) ys) h))
  where
    first : (a b : Bool) → (a || b) ≡ false → a ≡ false
    first true b h = h
    first false b h = refl

    second : (a b : Bool) → (a || b) ≡ false → b ≡ false
    second true b h = absurd (true≢false h)
    second false b h = h

pub no_numbers : IsDistinct nat_eq []
unfolding IsDistinct
no_numbers = tt

-- the same numbers, by a test that tells the same
lists_same : (p q : ℕ → Bool) (xs : List ℕ) → ((n : ℕ) → p n ≡ q n) → Lists p xs → Lists q xs
lists_same p q xs same l = record { once = l.once; members = λ n. l.members n ∙ same n }

-- ---- nodes that come

under : {a b : ℕ} → a < b → nat_lt a b ≡ true
under {a} {b} h = grind (arith, nat_tests)

not_under : {a b : ℕ} → b ≤ a → nat_lt a b ≡ false
not_under {a} {b} h = grind (arith, nat_tests)

no_number : (live : ℕ → Bool) (first n : ℕ) → (live n && (not (nat_lt n first) && nat_lt n n)) ≡ false
no_number live first n =
    let e : nat_lt n n ≡ false = not_under (omega arith) in
    ap (λ b. live n && (not (nat_lt n first) && b)) e ∙ ap (λ b. live n && b) (and-false (not (nat_lt n first))) ∙ and-false (live n)

-- one number more
grown : (live : ℕ → Bool) (first n m : ℕ) → first ≤ n
    → ((live m && (not (nat_lt m first) && nat_lt m n)) || (live n && nat_eq m n)) ≡ (live m && (not (nat_lt m first) && nat_lt m (n + 1)))
grown live first n m low = elim (eqb_tells m n) [
  | inl e ↦ (
      let f = e.1 in
      let same : live n ≡ live m = ap live (sym e.1) in
      let past : nat_lt m first ≡ false = not_under (omega (arith, f, low)) in
      let here : nat_lt m n ≡ false = not_under (omega (arith, f)) in
      let next : nat_lt m (n + 1) ≡ true = under (omega (arith, f)) in
      rw (e.0, same, past, here, next) (ap (λ b. b || (live m && true)) (and-false (live m))))
  | inr d ↦ (
      let next : nat_lt m (n + 1) ≡ nat_lt m n = apart d.1 in
      rw (d.0, next) (ap (λ b. (live m && (not (nat_lt m first) && nat_lt m n)) || b) (and-false (live n)) ∙ or-false (live m && (not (nat_lt m first) && nat_lt m n))))
]
  where
    apart : m ≢ n → nat_lt m (n + 1) ≡ nat_lt m n
    apart d = grind (arith, nat_tests)

pub came_none : (g2 : Graph) (first : ℕ) → Lists (comes_below g2 first first) []
came_none g2 first = record { once = no_numbers; members = λ n. sym (nothing n (nat_lt n first)) }
  where
    nothing : (n : ℕ) (b : Bool) → (is_live g2 n && (not b && b)) ≡ false
    nothing n true = and-false (is_live g2 n)
    nothing n false = and-false (is_live g2 n)

pub came_next : (g2 : Graph) (first n : ℕ) (xs ys : List ℕ) → first ≤ n → Lists (comes_below g2 first n) xs → ys ≡ xs ++ node_if (is_live g2 n) n → Lists (comes_below g2 first (n + 1)) ys
came_next g2 first n xs ys low l e = record {
  once = subst (λ zs. IsDistinct nat_eq zs) (sym e) (once (cases_Bool (is_live g2 n)));
  members = λ m.
      ap (λ zs. has zs m) e ∙ list_any-append (nat_eq m) xs (node_if (is_live g2 n) n)
      ∙ ap (λ b. b || has (node_if (is_live g2 n) n) m) (l.members m) ∙ ap (λ b. comes_below g2 first n m || b) (if_has (is_live g2 n) n m)
      ∙ grown (is_live g2) first n m low;
}
  where
    once : (is_live g2 n ≡ true) ⊎ (is_live g2 n ≡ false) → IsDistinct nat_eq (xs ++ node_if (is_live g2 n) n)
    once (inl on) = rw on (IsDistinct-push nat_eq_equiv xs n l.once (l.members n ∙ no_number (is_live g2) first n))
    once (inr off) = rw off (subst (λ zs. IsDistinct nat_eq zs) (sym (append-nil xs)) l.once)

-- the numbers that are allocated by steps, where they are live after them
pub came_are : (c : List Step) (g : Graph) (xs : List ℕ) → CanMakeAll c g → Lists (comes_below (after c g) (length g.allocated) (length (after c g).allocated)) xs
    → Lists (is_new_node g (after c g)) xs
came_are c g xs can l = lists_same (comes_below (after c g) (length g.allocated) (length (after c g).allocated)) (is_new_node g (after c g)) xs same l
  where
    plain : (x l a d : Bool) → x ≡ ((l || a) && not d) → (l ≡ true → a ≡ false) → (x && a) ≡ (x && not l)
    plain x true a d e none = ap (λ b. x && b) (none refl)
    plain x false true d e none = refl
    plain x false false d e none = ap (λ b. b && false) e ∙ sym (ap (λ b. b && true) e)

    old : (n : ℕ) → is_live g n ≡ true → is_added g (after c g) n ≡ false
    old n h = ap (λ b. not b && nat_lt n (length (after c g).allocated)) (under (live_given g n h))

    same : (n : ℕ) → (is_live (after c g) n && is_added g (after c g) n) ≡ (is_live (after c g) n && not (is_live g n))
    same n = plain (is_live (after c g) n) (is_live g n) (is_added g (after c g) n) (is_dropped c n) (live_after c g n can) (old n)

-- ---- nodes that go

gone_joined : (g : Graph) (a b : List Step) → gone_with g (a ++ b) ≡ gone_with g a ++ gone_with g b
gone_joined g [] b = refl
gone_joined g (s ∷ ss) b = ap (λ xs. gone_by g s ++ xs) (gone_joined g ss b) ∙ sym (append_assoc (gone_by g s) (gone_with g ss) (gone_with g b))

-- one step more
pub gone_next : (g : Graph) (ss : List Asked) (i : ℕ) (s : Asked) (xs ys : List ℕ) → i < length ss → s ≡ get_or ss i s → xs ≡ gone_with g (steps_of (take i ss))
    → ys ≡ xs ++ gone_by g (step_of s) → ys ≡ gone_with g (steps_of (take (i + 1) ss))
gone_next g ss i s xs ys l e h k =
    k ∙ ap (λ zs. zs ++ gone_by g (step_of s)) h ∙ ap (λ zs. gone_with g (steps_of (take i ss)) ++ zs) (sym (append-nil (gone_by g (step_of s))))
    ∙ sym (gone_joined g (steps_of (take i ss)) (step_of s ∷ [])) ∙ ap (gone_with g) (sym (more_at ss i s l e))

gone_has : (g : Graph) (c : List Step) (n : ℕ) → has (gone_with g c) n ≡ (is_live g n && is_dropped c n)
gone_has g [] n = sym (and-false (is_live g n))
gone_has g (node t ∷ ss) n = gone_has g ss n
gone_has g (link u v ∷ ss) n = gone_has g ss n
gone_has g (unlink u v ∷ ss) n = gone_has g ss n
gone_has g (relabel u t ∷ ss) n = gone_has g ss n
gone_has g (drop u ∷ ss) n =
    list_any-append (nat_eq n) (node_if (is_live g u) u) (gone_with g ss) ∙ ap (λ b. b || has (gone_with g ss) n) (if_has (is_live g u) u n)
    ∙ ap (λ b. (is_live g u && nat_eq n u) || b) (gone_has g ss n)
    ∙ elim (eqb_tells n u) [
      | inl e ↦ (
          let same : is_live g u ≡ is_live g n = ap (is_live g) (sym e.1) in
          rw (e.0, same) (first (is_live g n) (is_dropped ss n)))
      | inr d ↦ rw d.0 (ap (λ b. b || (is_live g n && is_dropped ss n)) (and-false (is_live g u)))
    ]
  where
    first : (l d : Bool) → ((l && true) || (l && d)) ≡ (l && (true || d))
    first true d = refl
    first false d = refl

-- a number that is gone is dropped no more
off_step : (s : Step) (h : Graph) (u : ℕ) → CanMake s h → is_live h u ≡ false → takes_away s u ≡ false
off_step (node t) h u can off = refl
off_step (link a b) h u can off = refl
off_step (unlink a b) h u can off = refl
off_step (relabel a t) h u can off = refl
off_step (drop w) h u can off = elim (eqb_tells u w) [
  | inl e ↦ absurd (true≢false (sym can ∙ ap (is_live h) (sym e.1) ∙ off))
  | inr d ↦ d.0
]

dropped_once : (c : List Step) (h : Graph) (u : ℕ) → CanMakeAll c h → u < length h.allocated → is_live h u ≡ false → is_dropped c u ≡ false
dropped_once [] h u can below off = refl
dropped_once (s ∷ ss) h u can below off =
    let more = given_made s h in
    ap (λ b. b || is_dropped ss u) (off_step s h u can.0 off)
    ∙ dropped_once ss (made s h) u can.1 (omega (arith, below, more)) (gone_stays (s ∷ []) h u (can.0, tt) below off)

gone_once : (g : Graph) (c : List Step) (h : Graph) → CanMakeAll c h → IsDistinct nat_eq (gone_with g c)
gone_once g [] h can = no_numbers
gone_once g (node t ∷ ss) h can = gone_once g ss (made (node t) h) can.1
gone_once g (link u v ∷ ss) h can = gone_once g ss (made (link u v) h) can.1
gone_once g (unlink u v ∷ ss) h can = gone_once g ss (made (unlink u v) h) can.1
gone_once g (relabel u t ∷ ss) h can = gone_once g ss (made (relabel u t) h) can.1
gone_once g (drop u ∷ ss) h can = elim (cases_Bool (is_live g u)) [
  | inr off ↦ rw off (gone_once g ss (made (drop u) h) can.1)
  | inl on ↦ (
      let more = given_made (drop u) h in
      let below = live_given h u can.0 in
      let once = dropped_once ss (without_node h u) u can.1 (omega (arith, below, more)) (ap is_some (label_gone h u)) in
      let out : has (gone_with g ss) u ≡ false = gone_has g ss u ∙ ap (λ b. is_live g u && b) once ∙ and-false (is_live g u) in
      rw on (IsDistinct-cons nat_eq u (gone_with g ss) (none_in nat_eq u (gone_with g ss) out) (gone_once g ss (made (drop u) h) can.1)))
]

-- The nodes that go: those of the graph that steps take away.
pub gone_are : (c : List Step) (g : Graph) → CanMakeAll c g → Lists (is_new_node (after c g) g) (gone_with g c)
gone_are c g can = record { once = gone_once g c g can; members = λ n. gone_has g c n ∙ sym (goes n) }
  where
    plain : (l a d : Bool) → (l && not ((l || a) && not d)) ≡ (l && d)
    plain true a true = refl
    plain true a false = refl
    plain false a d = refl

    goes : (n : ℕ) → (is_live g n && not (is_live (after c g) n)) ≡ (is_live g n && is_dropped c n)
    goes n = ap (λ b. is_live g n && not b) (live_after c g n can) ∙ plain (is_live g n) (is_added g (after c g) n) (is_dropped c n)

-- what stays isn't dropped
pub undropped : (c : List Step) (g : Graph) (n : ℕ) → CanMakeAll c g → is_live (after c g) n ≡ true → is_dropped c n ≡ false
undropped c g n can live = off (is_live g n || is_added g (after c g) n) (is_dropped c n) (sym (live_after c g n can) ∙ live)
  where
    off : (a d : Bool) → (a && not d) ≡ true → d ≡ false
    off true true h = absurd (true≢false (sym h))
    off true false h = refl
    off false d h = absurd (true≢false (sym h))

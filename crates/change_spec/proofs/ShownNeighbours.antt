-- The neighbours that are shown are those of the graph that the steps leave.
use Rattle.std.proofs.Common.{◌≡◌, ℕ, Bool, true, false, List, [], ◌∷◌, ◌++◌, refl, sym, ap, ◌∙◌, nat_eq, inl, inr, true≢false}
use Rattle.std.specs.Prelude.{◌&&◌, ◌||◌, not}
use Rattle.std.specs.List.{filter, IsDistinct, AllByRecursion}
use Rattle.std.proofs.Math.Bool.{and-false, and-true, or-false, or-true}
use Rattle.std.proofs.lemmas.Bool.{cases_Bool, and_parts, or_parts, not-true}
use Rattle.std.proofs.lemmas.Bool.Decides.{eqb_tells}
use Rattle.std.proofs.lemmas.List.Folds.{list_any-append}
use Rattle.std.proofs.lemmas.Map.Keys.{IsDistinct-head, IsDistinct-tail, IsDistinct-cons}
use Rattle.graph_spec.specs.Graphs.{Graph, has_edge}
use Rattle.graph_spec.specs.Members.{has, Lists}
use Rattle.graph_spec.proofs.GraphLaws.{edge_with, edge_without}
use Rattle.change_spec.specs.Steps.{Step, node, link, unlink, drop, relabel, made, after}
use Rattle.change_spec.specs.EdgesAfter.{edge_by, edge_after, concerns, concerned, added_onto, new_parents, shown_parents, added_from, new_children, shown_children}
use Rattle.change_spec.proofs.StepGraphs.{edge_dropped}

pub edge_step : (s : Step) (g : Graph) (p n : ℕ) → has_edge (made s g) p n ≡ edge_by s p n (has_edge g p n)
edge_step (node t) g p n = refl
edge_step (link u v) g p n = edge_with g u v p n
edge_step (unlink u v) g p n = edge_without g u v p n
edge_step (drop u) g p n = edge_dropped g u p n
edge_step (relabel u t) g p n = refl

pub edge_all : (c : List Step) (g : Graph) (p n : ℕ) → has_edge (after c g) p n ≡ edge_after c p n (has_edge g p n)
edge_all [] g p n = refl
edge_all (s ∷ ss) g p n = edge_all ss (made s g) p n ∙ ap (edge_after ss p n) (edge_step s g p n)

-- where no step concerns the edge it stays as it is
unconcerned_step : (s : Step) (p n : ℕ) (b : Bool) → concerns p n s ≡ false → edge_by s p n b ≡ b
unconcerned_step (node t) p n b h = refl
unconcerned_step (link u v) p n b h = ap (λ x. x || b) h
unconcerned_step (unlink u v) p n b h = ap (λ x. not x && b) h
unconcerned_step (drop u) p n b h = ap (λ x. b && not x) h ∙ and-true b
unconcerned_step (relabel u t) p n b h = refl

pub unconcerned : (c : List Step) (p n : ℕ) (b : Bool) → concerned c p n ≡ false → edge_after c p n b ≡ b
unconcerned [] p n b h = refl
unconcerned (s ∷ ss) p n b h =
    let both = or_parts (concerns p n s) (concerned ss p n) h in
    ap (edge_after ss p n) (unconcerned_step s p n b both.0) ∙ unconcerned ss p n b both.1

-- where one does, it makes no difference how the edge was
settles : (s : Step) (p n : ℕ) (a b : Bool) → concerns p n s ≡ true → edge_by s p n a ≡ edge_by s p n b
settles (node t) p n a b h = absurd (true≢false (sym h))
settles (link u v) p n a b h = ap (λ x. x || a) h ∙ sym (ap (λ x. x || b) h)
settles (unlink u v) p n a b h = ap (λ x. not x && a) h ∙ sym (ap (λ x. not x && b) h)
settles (drop u) p n a b h = ap (λ x. a && not x) h ∙ and-false a ∙ sym (ap (λ x. b && not x) h ∙ and-false b)
settles (relabel u t) p n a b h = absurd (true≢false (sym h))

pub settled : (c : List Step) (p n : ℕ) (a b : Bool) → concerned c p n ≡ true → edge_after c p n a ≡ edge_after c p n b
settled [] p n a b h = absurd (true≢false (sym h))
settled (s ∷ ss) p n a b h = elim (cases_Bool (concerns p n s)) [
  | inl on ↦ ap (edge_after ss p n) (settles s p n a b on)
  | inr off ↦ settled ss p n (edge_by s p n a) (edge_by s p n b) (sym (ap (λ x. x || concerned ss p n) off) ∙ h)
]

-- the edge is there in the end: it was there and nothing concerned it, or it comes with the steps
pub edge_parts : (c : List Step) (p n : ℕ) (b : Bool) → edge_after c p n b ≡ ((b && not (concerned c p n)) || edge_after c p n false)
edge_parts c p n b = elim (cases_Bool (concerned c p n)) [
  | inl on ↦ (
      let e : (b && not (concerned c p n)) ≡ false = ap (λ x. b && not x) on ∙ and-false b in
      settled c p n b false on ∙ sym (ap (λ x. x || edge_after c p n false) e))
  | inr off ↦ (
      let e : (b && not (concerned c p n)) ≡ b = ap (λ x. b && not x) off ∙ and-true b in
      let f : edge_after c p n false ≡ false = unconcerned c p n false off in
      unconcerned c p n b off ∙ sym (ap (λ x. x || edge_after c p n false) e ∙ ap (λ x. b || x) f ∙ or-false b))
]

-- what comes with the steps is concerned
pub comes_concerned : (c : List Step) (p n : ℕ) → edge_after c p n false ≡ true → concerned c p n ≡ true
comes_concerned c p n h = elim (cases_Bool (concerned c p n)) [
  | inl on ↦ on
  | inr off ↦ absurd (true≢false (sym h ∙ unconcerned c p n false off))
]

-- ---- parents

-- whether the first step brings the edge, and no later one concerns it
brings : (s : Step) (ss : List Step) (p n : ℕ) → (has (added_onto s ss n) p || edge_after ss p n false) ≡ edge_after ss p n (edge_by s p n false)
brings (node t) ss p n = refl
brings (unlink u v) ss p n = ap (edge_after ss p n) (sym (and-false (not (nat_eq p u && nat_eq n v))))
brings (drop u) ss p n = refl
brings (relabel u t) ss p n = refl
brings (link u v) ss p n = elim (cases_Bool (nat_eq p u && nat_eq n v)) [
  | inr off ↦ (
      let none : has (added_onto (link u v) ss n) p ≡ false = apart off in
      ap (λ x. x || edge_after ss p n false) none ∙ ap (edge_after ss p n) (sym (ap (λ x. x || false) off)))
  | inl on ↦ (
      let both = and_parts (nat_eq p u) (nat_eq n v) on in
      let same : p ≡ u = elim (eqb_tells p u) [ inl e ↦ e.1 | inr d ↦ absurd (true≢false (sym both.0 ∙ d.0)) ] in
      ap (λ x. x || edge_after ss p n false) (here both.1 both.0 same) ∙ sym (edge_parts ss p n true) ∙ ap (edge_after ss p n) (sym (ap (λ x. x || false) on)))
]
  where
    here : nat_eq n v ≡ true → nat_eq p u ≡ true → p ≡ u → has (added_onto (link u v) ss n) p ≡ (true && not (concerned ss p n))
    here onto from same = elim (cases_Bool (concerned ss u n)) [
      | inl on ↦ (rw (onto, on) (sym (ap (λ q. not (concerned ss q n)) same ∙ ap not on)))
      | inr off ↦ (rw (onto, off, from) (sym (ap (λ q. not (concerned ss q n)) same ∙ ap not off)))
    ]

    apart : (nat_eq p u && nat_eq n v) ≡ false → has (added_onto (link u v) ss n) p ≡ false
    apart off = elim (cases_Bool (nat_eq n v && not (concerned ss u n))) [
      | inr none ↦ (rw none refl)
      | inl some ↦ (
          let onto = (and_parts (nat_eq n v) (not (concerned ss u n)) some).0 in
          let from : nat_eq p u ≡ false = sym (ap (λ x. nat_eq p u && x) onto ∙ and-true (nat_eq p u)) ∙ off in
          rw (some, from) refl)
    ]

pub new_parents_are : (c : List Step) (p n : ℕ) → has (new_parents c n) p ≡ edge_after c p n false
new_parents_are [] p n = refl
new_parents_are (s ∷ ss) p n =
    list_any-append (nat_eq p) (added_onto s ss n) (new_parents ss n) ∙ ap (λ x. has (added_onto s ss n) p || x) (new_parents_are ss p n) ∙ brings s ss p n

has_filter : (q : ℕ → Bool) (xs : List ℕ) (m : ℕ) → has (filter q xs) m ≡ (has xs m && q m)
has_filter q [] m = refl
has_filter q (x ∷ xs) m = elim (cases_Bool (q x)) [
  | inl on ↦ (rw on (ap (λ b. nat_eq m x || b) (has_filter q xs m) ∙ first on))
  | inr off ↦ (rw off (has_filter q xs m ∙ second off))
]
  where
    first : q x ≡ true → (nat_eq m x || (has xs m && q m)) ≡ ((nat_eq m x || has xs m) && q m)
    first on = elim (eqb_tells m x) [
      | inl e ↦ (let t : q m ≡ true = ap q e.1 ∙ on in rw (e.0, t) refl)
      | inr d ↦ (rw d.0 refl)
    ]

    second : q x ≡ false → (has xs m && q m) ≡ ((nat_eq m x || has xs m) && q m)
    second off = elim (eqb_tells m x) [
      | inl e ↦ (let t : q m ≡ false = ap q e.1 ∙ off in rw (e.0, t) (and-false (has xs m)))
      | inr d ↦ (rw d.0 refl)
    ]

-- The parents that are shown: just those of the graph that the steps leave.
pub shown_parents_are : (c : List Step) (g : Graph) (n : ℕ) (parents : List ℕ) → ((p : ℕ) → has parents p ≡ has_edge g p n) → (p : ℕ) → has (shown_parents c n parents) p ≡ has_edge (after c g) p n
shown_parents_are c g n parents are p =
    list_any-append (nat_eq p) (filter (λ q. not (concerned c q n)) parents) (new_parents c n)
    ∙ ap (λ x. x || has (new_parents c n) p) (has_filter (λ q. not (concerned c q n)) parents p ∙ ap (λ x. x && not (concerned c p n)) (are p))
    ∙ ap (λ x. (has_edge g p n && not (concerned c p n)) || x) (new_parents_are c p n)
    ∙ sym (edge_parts c p n (has_edge g p n)) ∙ sym (edge_all c g p n)

-- ---- each once

none_in : (x : ℕ) (ys : List ℕ) → has ys x ≡ false → AllByRecursion (λ y. nat_eq x y ≡ false) ys
none_in x [] h = tt
none_in x (y ∷ ys) h = (let both = or_parts (nat_eq x y) (has ys x) h in (both.0, none_in x ys both.1))

distinct_nothing : IsDistinct nat_eq []
unfolding IsDistinct
distinct_nothing = tt

new_once : (c : List Step) (n : ℕ) → IsDistinct nat_eq (new_parents c n)
new_once [] n = distinct_nothing
new_once (node t ∷ ss) n = new_once ss n
new_once (unlink u v ∷ ss) n = new_once ss n
new_once (drop u ∷ ss) n = new_once ss n
new_once (relabel u t ∷ ss) n = new_once ss n
new_once (link u v ∷ ss) n = elim (cases_Bool (nat_eq n v && not (concerned ss u n))) [
  | inr off ↦ (rw off (new_once ss n))
  | inl on ↦ (
      let free = not-true (concerned ss u n) (and_parts (nat_eq n v) (not (concerned ss u n)) on).1 in
      let out : has (new_parents ss n) u ≡ false = new_parents_are ss u n ∙ unconcerned ss u n false free in
      rw on (IsDistinct-cons nat_eq u (new_parents ss n) (none_in u (new_parents ss n) out) (new_once ss n)))
]

filter_none : (q : ℕ → Bool) (x : ℕ) (xs : List ℕ) → AllByRecursion (λ y. nat_eq x y ≡ false) xs → AllByRecursion (λ y. nat_eq x y ≡ false) (filter q xs)
filter_none q x [] h = tt
filter_none q x (y ∷ ys) h = elim (cases_Bool (q y)) [
  | inl on ↦ (rw on (h.0, filter_none q x ys h.1))
  | inr off ↦ (rw off (filter_none q x ys h.1))
]

filter_once : (q : ℕ → Bool) (xs : List ℕ) → IsDistinct nat_eq xs → IsDistinct nat_eq (filter q xs)
filter_once q [] d = distinct_nothing
filter_once q (x ∷ xs) d = elim (cases_Bool (q x)) [
  | inl on ↦ (rw on (IsDistinct-cons nat_eq x (filter q xs) (filter_none q x xs (IsDistinct-head nat_eq x xs d)) (filter_once q xs (IsDistinct-tail nat_eq x xs d))))
  | inr off ↦ (rw off (filter_once q xs (IsDistinct-tail nat_eq x xs d)))
]

both_none : (x : ℕ) (xs ys : List ℕ) → AllByRecursion (λ y. nat_eq x y ≡ false) xs → AllByRecursion (λ y. nat_eq x y ≡ false) ys → AllByRecursion (λ y. nat_eq x y ≡ false) (xs ++ ys)
both_none x [] ys h k = k
both_none x (y ∷ xs) ys h k = (h.0, both_none x xs ys h.1 k)

joined_once : (xs ys : List ℕ) → IsDistinct nat_eq xs → IsDistinct nat_eq ys → ((m : ℕ) → has xs m ≡ true → has ys m ≡ false) → IsDistinct nat_eq (xs ++ ys)
joined_once [] ys d e h = e
joined_once (x ∷ xs) ys d e h =
    IsDistinct-cons nat_eq x (xs ++ ys) (both_none x xs ys (IsDistinct-head nat_eq x xs d) (none_in x ys (h x (self x))))
    (joined_once xs ys (IsDistinct-tail nat_eq x xs d) e (λ m k. h m (ap (λ b. nat_eq m x || b) k ∙ or-true (nat_eq m x))))
  where
    self : (x : ℕ) → (nat_eq x x || has xs x) ≡ true
    self x = elim (eqb_tells x x) [ inl q ↦ ap (λ b. b || has xs x) q.0 | inr q ↦ absurd (q.1 refl) ]

-- The parents that are shown are those of the graph that the steps leave, each once.
pub shown_parents_list : (c : List Step) (g : Graph) (n : ℕ) (parents : List ℕ) → Lists (λ p. has_edge g p n) parents → Lists (λ p. has_edge (after c g) p n) (shown_parents c n parents)
shown_parents_list c g n parents l = record {
  once = joined_once (filter (λ q. not (concerned c q n)) parents) (new_parents c n) (filter_once (λ q. not (concerned c q n)) parents l.once) (new_once c n) (λ m h.
      let both = and_parts (has parents m) (not (concerned c m n)) (sym (has_filter (λ q. not (concerned c q n)) parents m) ∙ h) in
      new_parents_are c m n ∙ unconcerned c m n false (not-true (concerned c m n) both.1));
  members = shown_parents_are c g n parents l.members;
}

-- ---- children

brings_on : (s : Step) (ss : List Step) (n m : ℕ) → (has (added_from s ss n) m || edge_after ss n m false) ≡ edge_after ss n m (edge_by s n m false)
brings_on (node t) ss n m = refl
brings_on (unlink u v) ss n m = ap (edge_after ss n m) (sym (and-false (not (nat_eq n u && nat_eq m v))))
brings_on (drop u) ss n m = refl
brings_on (relabel u t) ss n m = refl
brings_on (link u v) ss n m = elim (cases_Bool (nat_eq n u && nat_eq m v)) [
  | inr off ↦ (
      let none : has (added_from (link u v) ss n) m ≡ false = apart off in
      ap (λ x. x || edge_after ss n m false) none ∙ ap (edge_after ss n m) (sym (ap (λ x. x || false) off)))
  | inl on ↦ (
      let both = and_parts (nat_eq n u) (nat_eq m v) on in
      let same : m ≡ v = elim (eqb_tells m v) [ inl e ↦ e.1 | inr d ↦ absurd (true≢false (sym both.1 ∙ d.0)) ] in
      ap (λ x. x || edge_after ss n m false) (here both.0 both.1 same) ∙ sym (edge_parts ss n m true) ∙ ap (edge_after ss n m) (sym (ap (λ x. x || false) on)))
]
  where
    here : nat_eq n u ≡ true → nat_eq m v ≡ true → m ≡ v → has (added_from (link u v) ss n) m ≡ (true && not (concerned ss n m))
    here from onto same = elim (cases_Bool (concerned ss n v)) [
      | inl on ↦ (rw (from, on) (sym (ap (λ q. not (concerned ss n q)) same ∙ ap not on)))
      | inr off ↦ (rw (from, off, onto) (sym (ap (λ q. not (concerned ss n q)) same ∙ ap not off)))
    ]

    apart : (nat_eq n u && nat_eq m v) ≡ false → has (added_from (link u v) ss n) m ≡ false
    apart off = elim (cases_Bool (nat_eq n u && not (concerned ss n v))) [
      | inr none ↦ (rw none refl)
      | inl some ↦ (
          let from = (and_parts (nat_eq n u) (not (concerned ss n v)) some).0 in
          let onto : nat_eq m v ≡ false = sym (ap (λ x. x && nat_eq m v) from) ∙ off in
          rw (some, onto) refl)
    ]

pub new_children_are : (c : List Step) (n m : ℕ) → has (new_children c n) m ≡ edge_after c n m false
new_children_are [] n m = refl
new_children_are (s ∷ ss) n m =
    list_any-append (nat_eq m) (added_from s ss n) (new_children ss n) ∙ ap (λ x. has (added_from s ss n) m || x) (new_children_are ss n m) ∙ brings_on s ss n m

pub shown_children_are : (c : List Step) (g : Graph) (n : ℕ) (children : List ℕ) → ((m : ℕ) → has children m ≡ has_edge g n m) → (m : ℕ) → has (shown_children c n children) m ≡ has_edge (after c g) n m
shown_children_are c g n children are m =
    list_any-append (nat_eq m) (filter (λ q. not (concerned c n q)) children) (new_children c n)
    ∙ ap (λ x. x || has (new_children c n) m) (has_filter (λ q. not (concerned c n q)) children m ∙ ap (λ x. x && not (concerned c n m)) (are m))
    ∙ ap (λ x. (has_edge g n m && not (concerned c n m)) || x) (new_children_are c n m)
    ∙ sym (edge_parts c n m (has_edge g n m)) ∙ sym (edge_all c g n m)

children_once : (c : List Step) (n : ℕ) → IsDistinct nat_eq (new_children c n)
children_once [] n = distinct_nothing
children_once (node t ∷ ss) n = children_once ss n
children_once (unlink u v ∷ ss) n = children_once ss n
children_once (drop u ∷ ss) n = children_once ss n
children_once (relabel u t ∷ ss) n = children_once ss n
children_once (link u v ∷ ss) n = elim (cases_Bool (nat_eq n u && not (concerned ss n v))) [
  | inr off ↦ (rw off (children_once ss n))
  | inl on ↦ (
      let free = not-true (concerned ss n v) (and_parts (nat_eq n u) (not (concerned ss n v)) on).1 in
      let out : has (new_children ss n) v ≡ false = new_children_are ss n v ∙ unconcerned ss n v false free in
      rw on (IsDistinct-cons nat_eq v (new_children ss n) (none_in v (new_children ss n) out) (children_once ss n)))
]

-- The children that are shown are those of the graph that the steps leave, each once.
pub shown_children_list : (c : List Step) (g : Graph) (n : ℕ) (children : List ℕ) → Lists (has_edge g n) children → Lists (has_edge (after c g) n) (shown_children c n children)
shown_children_list c g n children l = record {
  once = joined_once (filter (λ q. not (concerned c n q)) children) (new_children c n) (filter_once (λ q. not (concerned c n q)) children l.once) (children_once c n) (λ m h.
      let both = and_parts (has children m) (not (concerned c n m)) (sym (has_filter (λ q. not (concerned c n q)) children m) ∙ h) in
      new_children_are c n m ∙ unconcerned c n m false (not-true (concerned c n m) both.1));
  members = shown_children_are c g n children l.members;
}

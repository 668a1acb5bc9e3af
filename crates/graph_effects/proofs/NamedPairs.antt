-- The pairs that steps name, each once, and what happens to all others.
use Rattle.std.proofs.Common.{◌≡◌, ◌≢◌, ◌≤◌, ℕ, ◌+◌, ◌-◌, Bool, true, false, List, [], ◌∷◌, ◌++◌, length, take, drop as drop_first, Option, refl, sym, ap, ◌∙◌, subst, inl, inr, true≢false}
use Rattle.std.specs.Prelude.{nat_eq, ◌&&◌, ◌||◌, not}
use Rattle.std.specs.List.{list_any, IsDistinct}
use Rattle.std.proofs.Math.Bool.{or-false, and-false, and-true}
use Rattle.std.proofs.lemmas.Bool.{cases_Bool, and_parts, or_parts}
use Rattle.std.proofs.lemmas.Bool.Decides.{Decides-eqb}
use Rattle.std.proofs.lemmas.List.{append_assoc, append-nil, drop_all}
use Rattle.std.proofs.lemmas.List.Folds.{list_any-append}
use Rattle.std.proofs.lemmas.Map.Keys.{IsDistinct-cons}
use Rattle.graph_spec.specs.Graphs.{Graph, IsGraph, is_live, has_edge}
use Rattle.change_spec.specs.Steps.{Step, node, link, unlink, drop, relabel, after}
use Rattle.change_spec.specs.Places.{CanMakeAll}
use Rattle.change_spec.specs.Named.{names, takes_away, is_named, is_dropped}
use Rattle.change_spec.specs.EdgesAfter.{concerns, concerned}
use Rattle.change_spec.proofs.ShownNeighbours.{edge_all, unconcerned}
use Rattle.graph_steps.specs.NamedSteps.{IsNextNamed}
use Rattle.graph_update.proofs.NamedParts.{parted}
use Rattle.graph_effects.specs.Effects.{same_pair, has_pair, ListsPairs, is_new_edge}
use Rattle.graph_effects.specs.StepEffects.{pair_if, names_pair, unless_named, named_last, passing, named_where, is_cut}
use Rattle.graph_effects.proofs.GoneNodes.{none_in, undropped}

pub if_has_pair : (b : Bool) (e : ℕ × ℕ) (u v : ℕ) → has_pair (pair_if b e) u v ≡ (b && same_pair (u, v) e)
if_has_pair true e u v = or-false (same_pair (u, v) e)
if_has_pair false e u v = refl

pub no_pairs : IsDistinct same_pair []
unfolding IsDistinct
no_pairs = tt

pub pairs_same : (p q : ℕ → ℕ → Bool) (xs : List (ℕ × ℕ)) → ((u v : ℕ) → p u v ≡ q u v) → ListsPairs p xs → ListsPairs q xs
pairs_same p q xs same l = record { once = l.once; members = λ u v. l.members u v ∙ same u v }

-- ---- the pairs

-- whether one of the steps names the pair
abbrev named : List Step → ℕ → ℕ → Bool
named c u v = list_any (names_pair u v) c

pub pair_self : (e : ℕ × ℕ) → same_pair e e ≡ true
pair_self e = rw ((Decides-eqb e.0 e.0).1 refl, (Decides-eqb e.1 e.1).1 refl) refl

-- a pair that is named here
pair_here : (p : ℕ → ℕ → Bool) (ss : List Step) (a b : ℕ) → (has_pair (passing p (unless_named ss a b)) a b || (named ss a b && p a b)) ≡ p a b
pair_here p ss a b = elim (cases_Bool (named ss a b)) [
  | inl on ↦ rw on refl
  | inr off ↦ rw off (or-false (has_pair (pair_if (p a b) (a, b)) a b) ∙ if_has_pair (p a b) (a, b) a b ∙ ap (λ t. p a b && t) (pair_self (a, b)) ∙ and-true (p a b))
]

-- and another one
pair_other : (p : ℕ → ℕ → Bool) (ss : List Step) (a b u v : ℕ) → (nat_eq u a && nat_eq v b) ≡ false → has_pair (passing p (unless_named ss a b)) u v ≡ false
pair_other p ss a b u v apart = elim (cases_Bool (named ss a b)) [
  | inl on ↦ rw on refl
  | inr off ↦ rw off (if_has_pair (p a b) (a, b) u v ∙ ap (λ t. p a b && t) apart ∙ and-false (p a b))
]

pair_more : (p : ℕ → ℕ → Bool) (ss : List Step) (a b u v : ℕ)
    → (has_pair (passing p (unless_named ss a b)) u v || (named ss u v && p u v)) ≡ (((nat_eq u a && nat_eq v b) || named ss u v) && p u v)
pair_more p ss a b u v = elim (cases_Bool (nat_eq u a && nat_eq v b)) [
  | inr off ↦ (let none = pair_other p ss a b u v off in rw (off, none) refl)
  | inl on ↦ (
      let both = and_parts (nat_eq u a) (nat_eq v b) on in
      let from = (Decides-eqb u a).0 both.0 in
      let onto = (Decides-eqb v b).0 both.1 in
      here from onto ∙ sym (ap (λ t. (t || named ss u v) && p u v) on))
]
  where
    here : u ≡ a → v ≡ b → (has_pair (passing p (unless_named ss a b)) u v || (named ss u v && p u v)) ≡ p u v
    here from onto =
        subst (λ x. (has_pair (passing p (unless_named ss a b)) x v || (named ss x v && p x v)) ≡ p x v) (sym from)
        (subst (λ y. (has_pair (passing p (unless_named ss a b)) a y || (named ss a y && p a y)) ≡ p a y) (sym onto) (pair_here p ss a b))

named_has : (p : ℕ → ℕ → Bool) (c : List Step) (u v : ℕ) → has_pair (named_where p c) u v ≡ (list_any (names_pair u v) c && p u v)
named_has p [] u v = refl
named_has p (node t ∷ ss) u v = named_has p ss u v
named_has p (drop w ∷ ss) u v = named_has p ss u v
named_has p (relabel w t ∷ ss) u v = named_has p ss u v
named_has p (link a b ∷ ss) u v =
    list_any-append (same_pair (u, v)) (passing p (unless_named ss a b)) (named_where p ss)
    ∙ ap (λ t. has_pair (passing p (unless_named ss a b)) u v || t) (named_has p ss u v) ∙ pair_more p ss a b u v
named_has p (unlink a b ∷ ss) u v =
    list_any-append (same_pair (u, v)) (passing p (unless_named ss a b)) (named_where p ss)
    ∙ ap (λ t. has_pair (passing p (unless_named ss a b)) u v || t) (named_has p ss u v) ∙ pair_more p ss a b u v

once_more : (p : ℕ → ℕ → Bool) (ss : List Step) (a b : ℕ) → IsDistinct same_pair (named_where p ss) → IsDistinct same_pair (passing p (unless_named ss a b) ++ named_where p ss)
once_more p ss a b d = elim (cases_Bool (named ss a b)) [
  | inl on ↦ rw on d
  | inr off ↦ rw off (elim (cases_Bool (p a b)) [
    | inr out ↦ rw out d
    | inl on ↦ (
        let none : list_any (same_pair (a, b)) (named_where p ss) ≡ false = named_has p ss a b ∙ ap (λ t. t && p a b) off in
        rw on (IsDistinct-cons same_pair (a, b) (named_where p ss) (none_in same_pair (a, b) (named_where p ss) none) d))
  ])
]

named_once : (p : ℕ → ℕ → Bool) (c : List Step) → IsDistinct same_pair (named_where p c)
named_once p [] = no_pairs
named_once p (node t ∷ ss) = named_once p ss
named_once p (drop w ∷ ss) = named_once p ss
named_once p (relabel w t ∷ ss) = named_once p ss
named_once p (link a b ∷ ss) = once_more p ss a b (named_once p ss)
named_once p (unlink a b ∷ ss) = once_more p ss a b (named_once p ss)

-- where no pair passes that isn't named
named_lists : (p : ℕ → ℕ → Bool) (c : List Step) → ((u v : ℕ) → p u v ≡ true → list_any (names_pair u v) c ≡ true) → ListsPairs p (named_where p c)
named_lists p c all = record { once = named_once p c; members = λ u v. named_has p c u v ∙ absorbed (list_any (names_pair u v) c) (p u v) (all u v) }
  where
    absorbed : (a b : Bool) → (b ≡ true → a ≡ true) → (a && b) ≡ b
    absorbed a true h = ap (λ t. t && true) (h refl)
    absorbed a false h = and-false a

-- ---- pairs that aren't named

unconcerned_step : (s : Step) (u v : ℕ) → names_pair u v s ≡ false → takes_away s u ≡ false → takes_away s v ≡ false → concerns u v s ≡ false
unconcerned_step (node t) u v h k l = refl
unconcerned_step (link a b) u v h k l = h
unconcerned_step (unlink a b) u v h k l = h
unconcerned_step (drop w) u v h k l = rw (k, l) refl
unconcerned_step (relabel w t) u v h k l = refl

unnamed : (c : List Step) (u v : ℕ) → list_any (names_pair u v) c ≡ false → is_dropped c u ≡ false → is_dropped c v ≡ false → concerned c u v ≡ false
unnamed [] u v h k l = refl
unnamed (s ∷ ss) u v h k l =
    let a = or_parts (names_pair u v s) (list_any (names_pair u v) ss) h in
    let b = or_parts (takes_away s u) (is_dropped ss u) k in
    let d = or_parts (takes_away s v) (is_dropped ss v) l in
    ap (λ t. t || concerned ss u v) (unconcerned_step s u v a.0 b.0 d.0) ∙ unnamed ss u v a.1 b.1 d.1

-- an edge between nodes that stay, where no step names it, is as it was
unnamed_same : (c : List Step) (g : Graph) (u v : ℕ) → CanMakeAll c g → is_live (after c g) u ≡ true → is_live (after c g) v ≡ true → list_any (names_pair u v) c ≡ false
    → has_edge (after c g) u v ≡ has_edge g u v
unnamed_same c g u v can lu lv off = edge_all c g u v ∙ unconcerned c u v (has_edge g u v) (unnamed c u v off (undropped c g u can lu) (undropped c g v can lv))

pub new_parts : (a b : Bool) → (a && not b) ≡ true → (a ≡ true) × (b ≡ false)
new_parts true true h = absurd (true≢false (sym h))
new_parts true false h = (refl, refl)
new_parts false b h = absurd (true≢false (sym h))

-- the steps name what is cut
cut_lists : (c : List Step) (g : Graph) → CanMakeAll c g → ListsPairs (is_cut g (after c g)) (named_where (is_cut g (after c g)) c)
cut_lists c g can = named_lists (is_cut g (after c g)) c why
  where
    why : (u v : ℕ) → is_cut g (after c g) u v ≡ true → list_any (names_pair u v) c ≡ true
    why u v h =
        let parts = and_parts (has_edge g u v && not (has_edge (after c g) u v)) (is_live (after c g) u && is_live (after c g) v) h in
        let edge = new_parts (has_edge g u v) (has_edge (after c g) u v) parts.0 in
        let live = and_parts (is_live (after c g) u) (is_live (after c g) v) parts.1 in
        elim (cases_Bool (list_any (names_pair u v) c)) [
          | inl on ↦ on
          | inr off ↦ absurd (true≢false (sym edge.0 ∙ sym (unnamed_same c g u v can live.0 live.1 off) ∙ edge.1))
        ]

-- and what comes
added_lists : (c : List Step) (g : Graph) → CanMakeAll c g → IsGraph (after c g) → ListsPairs (is_new_edge g (after c g)) (named_where (is_new_edge g (after c g)) c)
added_lists c g can graph = named_lists (is_new_edge g (after c g)) c why
  where
    why : (u v : ℕ) → is_new_edge g (after c g) u v ≡ true → list_any (names_pair u v) c ≡ true
    why u v h =
        let edge = new_parts (has_edge (after c g) u v) (has_edge g u v) h in
        elim (cases_Bool (list_any (names_pair u v) c)) [
          | inl on ↦ on
          | inr off ↦ absurd (true≢false (sym edge.0 ∙ unnamed_same c g u v can (graph.from u v edge.0) (graph.onto u v edge.0) off ∙ edge.1))
        ]

-- ---- as they are found

found_as : (p : ℕ → ℕ → Bool) (c k : List Step) (old new : List (ℕ × ℕ)) → ListsPairs p (named_where p c) → c ≡ k → old ≡ [] → new ≡ old ++ named_where p k → ListsPairs p new
found_as p c k old new l same none e = subst (ListsPairs p) (sym (e ∙ ap (λ es. es ++ named_where p k) none ∙ ap (named_where p) (sym same))) l

pub cut_found : (c : List Step) (g : Graph) (k : List Step) (old new : List (ℕ × ℕ)) → CanMakeAll c g → c ≡ k → old ≡ []
    → new ≡ old ++ named_where (is_cut g (after c g)) k → ListsPairs (is_cut g (after c g)) new
cut_found c g k old new can same none e = found_as (is_cut g (after c g)) c k old new (cut_lists c g can) same none e

pub added_found : (c : List Step) (g : Graph) (k : List Step) (old new : List (ℕ × ℕ)) → CanMakeAll c g → IsGraph (after c g) → c ≡ k → old ≡ []
    → new ≡ old ++ named_where (is_new_edge g (after c g)) k → ListsPairs (is_new_edge g (after c g)) new
added_found c g k old new can graph same none e = found_as (is_new_edge g (after c g)) c k old new (added_lists c g can graph) same none e

-- ---- one step more

pub named_next : (p : ℕ → ℕ → Bool) (s : Step) (rest left : List Step) (o : Option (ℕ × ℕ)) (xs ys whole : List (ℕ × ℕ)) → left ≡ s ∷ rest → xs ++ named_where p left ≡ whole
    → o ≡ named_last s rest → ys ≡ xs ++ passing p o → ys ++ named_where p rest ≡ whole
named_next p s rest left o xs ys whole cut h is e =
    ap (λ zs. zs ++ named_where p rest) (e ∙ ap (λ t. xs ++ passing p t) is) ∙ append_assoc xs (passing p (named_last s rest)) (named_where p rest)
    ∙ ap (λ zs. xs ++ named_where p zs) (sym cut) ∙ h

-- none is left
pub none_behind : (p : ℕ → ℕ → Bool) (c : List Step) (i : ℕ) (xs whole : List (ℕ × ℕ)) → length c ≤ i → xs ++ named_where p (drop_first i c) ≡ whole → xs ≡ whole
none_behind p c i xs whole past h = sym (append-nil xs) ∙ ap (λ k. xs ++ named_where p k) (sym (drop_all i c past)) ∙ h

-- ---- the steps that name an end

unnamed_from : (c : List Step) (u v : ℕ) → is_named c u ≡ false → list_any (names_pair u v) c ≡ false
unnamed_from [] u v h = refl
unnamed_from (s ∷ ss) u v h =
    let both = or_parts (names u s) (is_named ss u) h in
    ap (λ b. b || list_any (names_pair u v) ss) (one s both.0) ∙ unnamed_from ss u v both.1
  where
    one : (s : Step) → names u s ≡ false → names_pair u v s ≡ false
    one (node t) h = refl
    one (link a b) h = ap (λ x. x && nat_eq v b) (or_parts (nat_eq u a) (nat_eq u b) h).0
    one (unlink a b) h = ap (λ x. x && nat_eq v b) (or_parts (nat_eq u a) (nat_eq u b) h).0
    one (drop w) h = refl
    one (relabel w t) h = refl

unnamed_onto : (c : List Step) (u v : ℕ) → is_named c v ≡ false → list_any (names_pair u v) c ≡ false
unnamed_onto [] u v h = refl
unnamed_onto (s ∷ ss) u v h =
    let both = or_parts (names v s) (is_named ss v) h in
    ap (λ b. b || list_any (names_pair u v) ss) (one s both.0) ∙ unnamed_onto ss u v both.1
  where
    one : (s : Step) → names v s ≡ false → names_pair u v s ≡ false
    one (node t) h = refl
    one (link a b) h = ap (λ x. nat_eq u a && x) (or_parts (nat_eq v a) (nat_eq v b) h).1 ∙ and-false (nat_eq u a)
    one (unlink a b) h = ap (λ x. nat_eq u a && x) (or_parts (nat_eq v a) (nat_eq v b) h).1 ∙ and-false (nat_eq u a)
    one (drop w) h = refl
    one (relabel w t) h = refl

-- a test that fails at steps which don't name a node holds of those from a place on where it does of those from the next that names it
pub any_next : (p : Step → Bool) (c : List Step) (n from place : ℕ) → ((xs : List Step) → is_named xs n ≡ false → list_any p xs ≡ false) → IsNextNamed n c from place
    → list_any p (drop_first place c) ≡ list_any p (drop_first from c)
any_next p c n from place fails is = sym (
    ap (list_any p) (parted c from place is.ordered) ∙ list_any-append p (take (place - from) (drop_first from c)) (drop_first place c)
    ∙ ap (λ b. b || list_any p (drop_first place c)) (fails (take (place - from) (drop_first from c)) is.between))

-- the step at a place, and those behind it
pub any_there : (p : Step → Bool) (c : List Step) (i : ℕ) (s : Step) (here : Bool) → drop_first i c ≡ s ∷ drop_first (i + 1) c → here ≡ p s
    → list_any p (drop_first i c) ≡ (here || list_any p (drop_first (i + 1) c))
any_there p c i s here is e = ap (list_any p) is ∙ ap (λ b. b || list_any p (drop_first (i + 1) c)) (sym e)

pub begin_next : (c : List Step) (u v from place : ℕ) → IsNextNamed u c from place → list_any (names_pair u v) (drop_first place c) ≡ list_any (names_pair u v) (drop_first from c)
begin_next c u v from place is = any_next (names_pair u v) c u from place (λ xs h. unnamed_from xs u v h) is

pub end_next : (c : List Step) (u v from place : ℕ) → IsNextNamed v c from place → list_any (names_pair u v) (drop_first place c) ≡ list_any (names_pair u v) (drop_first from c)
end_next c u v from place is = any_next (names_pair u v) c v from place (λ xs h. unnamed_onto xs u v h) is

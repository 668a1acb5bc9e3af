-- The nodes that get another label by a list of steps, each once.
use Rattle.std.proofs.Common.{◌≡◌, ◌≢◌, ◌≤◌, ℕ, zero, suc, Bool, true, false, List, [], ◌∷◌, ◌++◌, length, drop as drop_first, Option, Some, None, is_some, refl, sym, ap, ◌∙◌, arith, inl, inr, true≢false, cond}
use Rattle.std.specs.Prelude.{nat_eq, ◌&&◌, ◌||◌, not, slice_get, bytes_eq}
use Rattle.std.specs.List.{list_any, IsDistinct}
use Rattle.std.proofs.Math.Bool.{and-false}
use Rattle.std.proofs.lemmas.Bool.{cases_Bool, and_parts, or_parts}
use Rattle.std.proofs.lemmas.Bool.Decides.{eqb_tells, Decides-eqb}
use Rattle.std.proofs.lemmas.List.{append_assoc, append-nil, drop_all}
use Rattle.std.proofs.lemmas.List.Folds.{list_any-append}
use Rattle.std.proofs.lemmas.Map.Keys.{IsDistinct-cons}
use Rattle.std.proofs.lemmas.Slice.Eq.{bytes_eq-Decides}
use Rattle.graph_spec.specs.Graphs.{Graph, IsGraph, is_live, is_seen, label_of}
use Rattle.graph_spec.specs.Members.{has, Lists}
use Rattle.label_graph.specs.GraphViews.{label_number}
use Rattle.label_graph.proofs.Positions.{position-at}
use Rattle.change_spec.specs.Steps.{Step, node, link, unlink, drop, relabel, made, after, is_text}
use Rattle.change_spec.specs.Places.{CanMakeAll}
use Rattle.change_spec.proofs.StepGraphs.{label_other, label_gone}
use Rattle.change_spec.proofs.StepPlaces.{label_added, live_given, given_made, gone_stays}
use Rattle.change_spec.specs.Named.{names, is_named}
use Rattle.graph_steps.specs.NamedSteps.{IsNextNamed}
use Rattle.graph_effects.specs.Effects.{is_same_label, is_relabelled}
use Rattle.graph_effects.specs.StepEffects.{node_if, relabels, relabelled_last, relabelled_where}
use Rattle.graph_effects.proofs.GoneNodes.{if_has, none_in, no_numbers}
use Rattle.graph_effects.proofs.NamedPairs.{any_next}

-- ---- labels keep their numbers

seen_stays : (seen : List (List ℕ)) (t : List ℕ) (b : Bool) (l : ℕ) (r : List ℕ) → slice_get seen l ≡ Some r → slice_get (cond b seen (seen ++ t ∷ [])) l ≡ Some r
seen_stays seen t true l r h = h
seen_stays [] t false l r h = absurd (cc)
seen_stays (x ∷ xs) t false zero r h = h
seen_stays (x ∷ xs) t false (suc l) r h = seen_stays xs t false l r h

seen_step : (s : Step) (g : Graph) (l : ℕ) (r : List ℕ) → slice_get g.seen l ≡ Some r → slice_get (made s g).seen l ≡ Some r
seen_step (node t) g l r h = seen_stays g.seen t (is_seen g.seen t) l r h
seen_step (link u v) g l r h = h
seen_step (unlink u v) g l r h = h
seen_step (drop u) g l r h = h
seen_step (relabel u t) g l r h = seen_stays g.seen t (is_seen g.seen t) l r h

pub seen_after : (c : List Step) (g : Graph) (l : ℕ) (r : List ℕ) → slice_get g.seen l ≡ Some r → slice_get (after c g).seen l ≡ Some r
seen_after [] g l r h = h
seen_after (s ∷ ss) g l r h = seen_after ss (made s g) l r (seen_step s g l r h)

-- ---- labels are the same exactly where their numbers are

pub same_text : (o p : Option (List ℕ)) → is_same_label o p ≡ true → p ≡ o
same_text None p h = absurd (true≢false (sym h))
same_text (Some t) None h = absurd (true≢false (sym h))
same_text (Some t) (Some r) h = ap Some (sym ((bytes_eq-Decides t r).0 h))

is_same_self : (t : List ℕ) → bytes_eq t t ≡ true
is_same_self t = (bytes_eq-Decides t t).1 refl

pub same_labels : (o p : Option (List ℕ)) → is_some o ≡ true → p ≡ o → is_same_label o p ≡ true
same_labels None p h e = absurd (true≢false (sym h))
same_labels (Some t) p h e = ap (is_text t) e ∙ is_same_self t

-- a node that has the same label in both graphs isn't relabelled
pub not_relabelled : (g g2 : Graph) (n : ℕ) → label_of g n ≡ label_of g2 n → is_relabelled g g2 n ≡ false
not_relabelled g g2 n same = ap (λ o. (is_some (label_of g n) && is_some o) && not (is_same_label (label_of g n) o)) (sym same) ∙ own (label_of g n)
  where
    own : (o : Option (List ℕ)) → ((is_some o && is_some o) && not (is_same_label o o)) ≡ false
    own None = refl
    own (Some t) = ap not (is_same_self t)

-- whether a node of both graphs is relabelled, by the numbers of its labels
pub by_numbers : (c : List Step) (g : Graph) (n a b : ℕ) → IsGraph (after c g) → is_live g n ≡ true → is_live (after c g) n ≡ true → slice_get g.seen a ≡ label_of g n
    → slice_get (after c g).seen b ≡ label_of (after c g) n → label_number (after c g) n ≡ Some b → not (nat_eq a b) ≡ is_relabelled g (after c g) n
by_numbers c g n a b graph live live2 first second number = sym (ap (λ t. t && not same) both ∙ ap not (sym tells))
  where
    both : (is_live g n && is_live (after c g) n) ≡ true
    both = rw (live, live2) refl

    same : Bool
    same = is_same_label (label_of g n) (label_of (after c g) n)

    text : (o : Option (List ℕ)) → is_some o ≡ true → (t : List ℕ) × (o ≡ Some t)
    text None h = absurd (true≢false (sym h))
    text (Some t) h = (t, refl)

    old : (t : List ℕ) × (label_of g n ≡ Some t)
    old = text (label_of g n) live

    kept : slice_get (after c g).seen a ≡ Some old.0
    kept = seen_after c g a old.0 (first ∙ old.1)

    one : (x y : ℕ) → Some x ≡ Some y → x ≡ y
    one x y e = cc

    tells : nat_eq a b ≡ same
    tells = elim (cases_Bool same) [
      | inl on ↦ (
          let text2 : label_of (after c g) n ≡ Some old.0 = same_text (label_of g n) (label_of (after c g) n) on ∙ old.1 in
          let there : label_number (after c g) n ≡ Some a = rw text2 (position-at (after c g).seen a old.0 graph.distinct kept) in
          (Decides-eqb a b).1 (one a b (sym there ∙ number)) ∙ sym on)
      | inr off ↦ elim (eqb_tells a b) [
        | inr d ↦ d.0 ∙ sym off
        | inl e ↦ absurd (true≢false (sym (same_labels (label_of g n) (label_of (after c g) n) live (sym second ∙ ap (slice_get (after c g).seen) (sym e.1) ∙ kept ∙ sym old.1)) ∙ off))
      ]
    ]

-- ---- labels that stay

label_step : (s : Step) (g : Graph) (n : ℕ) → is_live g n ≡ true → is_live (made s g) n ≡ true → relabels n s ≡ false → label_of (made s g) n ≡ label_of g n
label_step (node t) g n live live2 off = label_added g t n (λ e. (let below = live_given g n live in absurd (omega (arith, e, below))))
label_step (link u v) g n live live2 off = refl
label_step (unlink u v) g n live live2 off = refl
label_step (drop u) g n live live2 off = elim (eqb_tells n u) [
  | inl e ↦ absurd (true≢false (sym live2 ∙ ap (is_live (made (drop u) g)) e.1 ∙ ap is_some (label_gone g u)))
  | inr d ↦ label_other g.allocated u n None d.1
]
label_step (relabel u t) g n live live2 off = elim (eqb_tells n u) [
  | inl e ↦ absurd (true≢false (sym e.0 ∙ off))
  | inr d ↦ label_other g.allocated u n (Some t) d.1
]

-- a node of both graphs keeps its label, unless a step gives it one
label_after : (c : List Step) (g : Graph) (n : ℕ) → CanMakeAll c g → is_live g n ≡ true → is_live (after c g) n ≡ true → list_any (relabels n) c ≡ false
    → label_of (after c g) n ≡ label_of g n
label_after [] g n can live live2 off = refl
label_after (s ∷ ss) g n can live live2 off =
    let more = given_made s g in
    let below = live_given g n live in
    let none = or_parts (relabels n s) (list_any (relabels n) ss) off in
    let still : is_live (made s g) n ≡ true = elim (cases_Bool (is_live (made s g) n)) [
      | inl on ↦ on
      | inr dead ↦ absurd (true≢false (sym live2 ∙ gone_stays ss (made s g) n can.1 (omega (arith, below, more)) dead))
    ] in
    label_after ss (made s g) n can.1 still live2 none.1 ∙ label_step s g n live still none.0

-- ---- the nodes, each once

pub relabelled_next : (p : ℕ → Bool) (s : Step) (rest left : List Step) (xs ys whole : List ℕ) → left ≡ s ∷ rest → xs ++ relabelled_where p left ≡ whole
    → ys ≡ xs ++ relabelled_last p s rest → ys ++ relabelled_where p rest ≡ whole
relabelled_next p s rest left xs ys whole cut h k =
    ap (λ zs. zs ++ relabelled_where p rest) k ∙ append_assoc xs (relabelled_last p s rest) (relabelled_where p rest)
    ∙ ap (λ ss. xs ++ relabelled_where p ss) (sym cut) ∙ h

-- none is left
pub none_behind : (p : ℕ → Bool) (c : List Step) (i : ℕ) (xs whole : List ℕ) → length c ≤ i → xs ++ relabelled_where p (drop_first i c) ≡ whole → xs ≡ whole
none_behind p c i xs whole past h = sym (append-nil xs) ∙ ap (λ k. xs ++ relabelled_where p k) (sym (drop_all i c past)) ∙ h

-- a step that gives a node a label names it
unnamed_none : (c : List Step) (n : ℕ) → is_named c n ≡ false → list_any (relabels n) c ≡ false
unnamed_none [] n h = refl
unnamed_none (s ∷ ss) n h =
    let both = or_parts (names n s) (is_named ss n) h in
    ap (λ b. b || list_any (relabels n) ss) (one s both.0) ∙ unnamed_none ss n both.1
  where
    one : (s : Step) → names n s ≡ false → relabels n s ≡ false
    one (node t) h = refl
    one (link a b) h = refl
    one (unlink a b) h = refl
    one (drop w) h = refl
    one (relabel w t) h = h

pub label_next : (c : List Step) (n from place : ℕ) → IsNextNamed n c from place → list_any (relabels n) (drop_first place c) ≡ list_any (relabels n) (drop_first from c)
label_next c n from place is = any_next (relabels n) c n from place (λ xs h. unnamed_none xs n h) is

where_has : (p : ℕ → Bool) (c : List Step) (n : ℕ) → has (relabelled_where p c) n ≡ (p n && list_any (relabels n) c)
where_has p [] n = sym (and-false (p n))
where_has p (node t ∷ ss) n = where_has p ss n
where_has p (link u v ∷ ss) n = where_has p ss n
where_has p (unlink u v ∷ ss) n = where_has p ss n
where_has p (drop u ∷ ss) n = where_has p ss n
where_has p (relabel u t ∷ ss) n =
    list_any-append (nat_eq n) (node_if (p u && not (list_any (relabels u) ss)) u) (relabelled_where p ss)
    ∙ ap (λ b. b || has (relabelled_where p ss) n) (if_has (p u && not (list_any (relabels u) ss)) u n)
    ∙ ap (λ b. ((p u && not (list_any (relabels u) ss)) && nat_eq n u) || b) (where_has p ss n)
    ∙ elim (eqb_tells n u) [
      | inl e ↦ (
          let passes : p u ≡ p n = ap p (sym e.1) in
          let named : list_any (relabels u) ss ≡ list_any (relabels n) ss = ap (λ m. list_any (relabels m) ss) (sym e.1) in
          rw (e.0, passes, named) (first (p n) (list_any (relabels n) ss)))
      | inr d ↦ rw d.0 (ap (λ b. b || (p n && list_any (relabels n) ss)) (and-false (p u && not (list_any (relabels u) ss))))
    ]
  where
    first : (a b : Bool) → (((a && not b) && true) || (a && b)) ≡ (a && (true || b))
    first true true = refl
    first true false = refl
    first false b = refl

not_on : (b : Bool) → not b ≡ true → b ≡ false
not_on true h = sym h
not_on false h = refl

where_once : (p : ℕ → Bool) (c : List Step) → IsDistinct nat_eq (relabelled_where p c)
where_once p [] = no_numbers
where_once p (node t ∷ ss) = where_once p ss
where_once p (link u v ∷ ss) = where_once p ss
where_once p (unlink u v ∷ ss) = where_once p ss
where_once p (drop u ∷ ss) = where_once p ss
where_once p (relabel u t ∷ ss) = elim (cases_Bool (p u && not (list_any (relabels u) ss))) [
  | inr off ↦ rw off (where_once p ss)
  | inl on ↦ (
      let later = not_on (list_any (relabels u) ss) (and_parts (p u) (not (list_any (relabels u) ss)) on).1 in
      let out : has (relabelled_where p ss) u ≡ false = where_has p ss u ∙ ap (λ b. p u && b) later ∙ and-false (p u) in
      rw on (IsDistinct-cons nat_eq u (relabelled_where p ss) (none_in nat_eq u (relabelled_where p ss) out) (where_once p ss)))
]

-- a node that has another label was given one
is_given : (c : List Step) (g : Graph) (n : ℕ) → CanMakeAll c g → is_relabelled g (after c g) n ≡ true → list_any (relabels n) c ≡ true
is_given c g n can h = elim (cases_Bool (list_any (relabels n) c)) [
  | inl on ↦ on
  | inr off ↦ absurd (
      let parts = and_parts (is_live g n && is_live (after c g) n) (not (is_same_label (label_of g n) (label_of (after c g) n))) h in
      let live = and_parts (is_live g n) (is_live (after c g) n) parts.0 in
      let same = same_labels (label_of g n) (label_of (after c g) n) live.0 (label_after c g n can live.0 live.1 off) in
      true≢false (sym parts.1 ∙ ap not same))
]

-- The nodes that steps give labels, where these are others.
pub relabelled_are : (c : List Step) (g : Graph) → CanMakeAll c g → Lists (is_relabelled g (after c g)) (relabelled_where (is_relabelled g (after c g)) c)
relabelled_are c g can = record { once = where_once (is_relabelled g (after c g)) c; members = λ n. where_has (is_relabelled g (after c g)) c n ∙ all (is_relabelled g (after c g) n) (list_any (relabels n) c) (is_given c g n can) }
  where
    all : (a b : Bool) → (a ≡ true → b ≡ true) → (a && b) ≡ a
    all true b h = h refl
    all false b h = refl

-- The label that steps give a node.
use Rattle.std.proofs.Common.{◌≡◌, ℕ, zero, suc, ◌+◌, ◌-◌, ◌<◌, ◌≤◌, true, false, List, [], ◌∷◌, ◌++◌, length, length-append, take, drop, refl, sym, ap, ◌∙◌, subst, arith, inl, inr, true≢false}
use Rattle.std.specs.Prelude.{Option, Some, None, is_some, option_map, slice_get, IsTrue, nat_lt, not, ◌||◌, ◌&&◌, if◌then◌else◌}
use Rattle.std.specs.Option.{option_or}
use Rattle.std.proofs.Math.Bool.{or-false}
use Rattle.std.proofs.Math.Seq.{drop-drop}
use Rattle.std.proofs.lemmas.List.{take-append-drop}
use Rattle.std.proofs.lemmas.Bool.{and_parts, or_parts}
use Rattle.std.proofs.lemmas.Bool.Decides.{eqb_tells, nat_tests}
use Rattle.graph_spec.specs.Graphs.{Graph, is_live, label_of}
use Rattle.change_spec.specs.Steps.{Step, node, link, unlink, drop as drop_step, relabel, made, after, labelled}
use Rattle.change_spec.specs.Places.{CanMake, CanMakeAll}
use Rattle.change_spec.specs.Named.{names, is_named, is_dropped}
use Rattle.change_spec.proofs.Prefixes.{after_joined}
use Rattle.change_spec.proofs.NamedNodes.{is_added, live_after}
use Rattle.change_spec.proofs.StepGraphs.{label_other, label_gone, label_given}
use Rattle.change_spec.proofs.StepPlaces.{given_made, label_added as label_before, label_last, label_none, live_given, can_joined}
use Rattle.graph_steps.specs.NamedSteps.{IsNextNamed}
use Rattle.graph_steps.specs.NodePlaces.{node_places}
use Rattle.graph_steps.specs.StepLabels.{label_added, relabel_by, relabelled}
use Rattle.graph_steps.proofs.NamedParts.{stretch, stretch_more}
use Rattle.graph_steps.proofs.NodePlaces.{AddsNode, place_adds, places_count}

pub or_none : (o : Option (List ℕ)) → option_or o None ≡ o
or_none None = refl
or_none (Some t) = refl

or_joined : (a b c : Option (List ℕ)) → option_or (option_or a b) c ≡ option_or a (option_or b c)
or_joined None b c = refl
or_joined (Some t) b c = refl

-- an older label counts where there is no newer one
pub newer : {X : Type 0} (f : X → List ℕ) (a b : Option X) → option_map f (option_or a b) ≡ option_or (option_map f a) (option_map f b)
newer f None b = refl
newer f (Some x) b = refl

-- the label of the later steps counts, where there is one
pub relabelled_joined : (xs ys : List Step) (n : ℕ) → relabelled (xs ++ ys) n ≡ option_or (relabelled ys n) (relabelled xs n)
relabelled_joined [] ys n = sym (or_none (relabelled ys n))
relabelled_joined (x ∷ xs) ys n = ap (λ o. option_or o (relabel_by x n)) (relabelled_joined xs ys n) ∙ or_joined (relabelled ys n) (relabelled xs n) (relabel_by x n)

-- none is given where no step names the node
unnamed_step : (s : Step) (n : ℕ) → names n s ≡ false → relabel_by s n ≡ None
unnamed_step (node t) n h = refl
unnamed_step (link u v) n h = refl
unnamed_step (unlink u v) n h = refl
unnamed_step (drop_step u) n h = refl
unnamed_step (relabel u t) n h = ap (λ b. if b then Some t else None) h

unnamed_kept : (c : List Step) (n : ℕ) → is_named c n ≡ false → relabelled c n ≡ None
unnamed_kept [] n h = refl
unnamed_kept (s ∷ ss) n h =
    let both = or_parts (names n s) (is_named ss n) h in
    ap (λ o. option_or o (relabel_by s n)) (unnamed_kept ss n both.1) ∙ unnamed_step s n both.0

-- nor by steps up to the next one that does
pub relabelled_begun : (c : List Step) (n from i : ℕ) → IsNextNamed n c from i → relabelled (stretch c from i) n ≡ None
relabelled_begun c n from i next = unnamed_kept (stretch c from i) n next.between

pub relabelled_more : (c : List Step) (s : Step) (n from i j : ℕ) → from ≤ i → drop i c ≡ s ∷ drop (i + 1) c → IsNextNamed n c (i + 1) j
    → option_or (relabel_by s n) (relabelled (stretch c from i) n) ≡ relabelled (stretch c from j) n
relabelled_more c s n from i j low there next = sym (
    ap (λ k. relabelled k n) (stretch_more c s from i j low next.ordered there)
    ∙ relabelled_joined (stretch c from i) (s ∷ stretch c (i + 1) j) n
    ∙ ap (λ o. option_or (option_or o (relabel_by s n)) (relabelled (stretch c from i) n)) (unnamed_kept (stretch c (i + 1) j) n next.between))

-- ---- the steps from the end back

or_first : (a b : Option (List ℕ)) → option_or a b ≡ None → a ≡ None
or_first None b h = refl
or_first (Some t) b h = h

some_or : (a b : Option (List ℕ)) → is_some a ≡ true → option_or a b ≡ a
some_or None b h = absurd (true≢false (sym h))
some_or (Some t) b h = refl

none_left : (k : ℕ) (c : List Step) (n : ℕ) → relabelled c n ≡ None → relabelled (drop k c) n ≡ None
none_left zero c n h = h
none_left (suc k) [] n h = h
none_left (suc k) (s ∷ ss) n h = none_left k ss n (or_first (relabelled ss n) (relabel_by s n) h)

pub none_behind : (c : List Step) (n : ℕ) → relabelled (drop (length c) c) n ≡ None
none_behind [] n = refl
none_behind (s ∷ ss) n = none_behind ss n

pub none_mapped : {X : Type 0} (f : X → List ℕ) (o : Option X) → is_some o ≡ false → option_map f o ≡ None
none_mapped f None h = refl
none_mapped f (Some x) h = absurd (true≢false h)

pub some_mapped : {X : Type 0} (f : X → List ℕ) (o : Option X) → is_some o ≡ true → is_some (option_map f o) ≡ true
some_mapped f None h = h
some_mapped f (Some x) h = refl

-- one step more, which gives the node none
pub none_more : (c : List Step) (s : Step) (n i : ℕ) → drop i c ≡ s ∷ drop (i + 1) c → relabelled (drop (i + 1) c) n ≡ None → relabel_by s n ≡ None → relabelled (drop i c) n ≡ None
none_more c s n i there none off = ap (λ k. relabelled k n) there ∙ ap (λ o. option_or o (relabel_by s n)) none ∙ off

relabelled_cut : (c : List Step) (n from i : ℕ) → from ≤ i → relabelled (drop from c) n ≡ option_or (relabelled (drop i c) n) (relabelled (stretch c from i) n)
relabelled_cut c n from i low =
    let sum : from + (i - from) ≡ i = omega (arith, low) in
    ap (λ k. relabelled k n) (sym (take-append-drop (i - from) (drop from c)))
    ∙ relabelled_joined (stretch c from i) (drop (i - from) (drop from c)) n
    ∙ ap (λ k. option_or (relabelled k n) (relabelled (stretch c from i) n)) (drop-drop (i - from) from c ∙ ap (λ k. drop k c) sum)

-- one that gives it a label
pub last_label : (c : List Step) (s : Step) (n from i : ℕ) → from ≤ i → drop i c ≡ s ∷ drop (i + 1) c → relabelled (drop (i + 1) c) n ≡ None → is_some (relabel_by s n) ≡ true
    → relabel_by s n ≡ relabelled (drop from c) n
last_label c s n from i low there none on = sym (
    relabelled_cut c n from i low
    ∙ ap (λ o. option_or o (relabelled (stretch c from i) n)) (ap (λ k. relabelled k n) there ∙ ap (λ o. option_or o (relabel_by s n)) none)
    ∙ some_or (relabel_by s n) (relabelled (stretch c from i) n) on)

-- what is found from the front, where those behind give it none
pub relabelled_done : (c : List Step) (n from i past : ℕ) → from ≤ i → past ≤ i → relabelled (drop past c) n ≡ None → relabelled (stretch c from i) n ≡ relabelled (drop from c) n
relabelled_done c n from i past low behind none =
    let sum : past + (i - past) ≡ i = omega (arith, behind) in
    let rest : relabelled (drop i c) n ≡ None =
    ap (λ k. relabelled (drop k c) n) (sym sum) ∙ ap (λ k. relabelled k n) (sym (drop-drop (i - past) past c)) ∙ none_left (i - past) (drop past c) n none in
    sym (relabelled_cut c n from i low ∙ ap (λ o. option_or o (relabelled (stretch c from i) n)) rest)

-- ---- the label of a node that was there

lt_test : (a b : ℕ) → a < b → nat_lt a b ≡ true
lt_test a b h = grind (arith, nat_tests)

-- what is live in the end, and was there, was live
live_before : (c : List Step) (g : Graph) (n : ℕ) → n < length g.allocated → CanMakeAll c g → IsTrue (is_live (after c g) n) → IsTrue (is_live g n)
live_before c g n below can live =
    let both = and_parts (is_live g n || is_added g (after c g) n) (not (is_dropped c n)) (sym (live_after c g n can) ∙ live) in
    let old : is_added g (after c g) n ≡ false = ap (λ b. not b && nat_lt n (length (after c g).allocated)) (lt_test n (length g.allocated) below) in
    sym (ap (λ b. is_live g n || b) old ∙ or-false (is_live g n)) ∙ both.0

step_label : (s : Step) (g : Graph) (n : ℕ) → n < length g.allocated → CanMake s g → IsTrue (is_live (made s g) n) → label_of (made s g) n ≡ option_or (relabel_by s n) (label_of g n)
step_label (node t) g n below can live = label_before g t n (λ same. omega (arith, same, below))
step_label (link u v) g n below can live = refl
step_label (unlink u v) g n below can live = refl
step_label (drop_step u) g n below can live = elim (eqb_tells n u) [
  | inl i ↦ absurd (true≢false (sym live ∙ ap (is_live (made (drop_step u) g)) i.1 ∙ ap is_some (label_gone g u)))
  | inr d ↦ label_other g.allocated u n None d.1
]
step_label (relabel u t) g n below can live = elim (eqb_tells n u) [
  | inl i ↦ ap (label_of (labelled g u t)) i.1 ∙ label_given g u t can ∙ ap (λ b. option_or (if b then Some t else None) (label_of g n)) (sym i.0)
  | inr d ↦ label_other g.allocated u n (Some t) d.1 ∙ ap (λ b. option_or (if b then Some t else None) (label_of g n)) (sym d.0)
]

pub relabelled_label : (c : List Step) (g : Graph) (n : ℕ) → n < length g.allocated → CanMakeAll c g → IsTrue (is_live (after c g) n)
    → label_of (after c g) n ≡ option_or (relabelled c n) (label_of g n)
relabelled_label [] g n below can live = refl
relabelled_label (s ∷ ss) g n below can live =
    let more = given_made s g in
    let still : n < length (made s g).allocated = omega (arith, below, more) in
    relabelled_label ss (made s g) n still can.1 live
    ∙ ap (option_or (relabelled ss n)) (step_label s g n below can.0 (live_before ss (made s g) n still can.1 live))
    ∙ sym (or_joined (relabelled ss n) (relabel_by s n) (label_of g n))

-- ---- the label of a node that a step adds

-- the label of its step, unless a later one gives it another
pub added_labelled : (c : List Step) (g : Graph) (n j p : ℕ) (s : Step) → CanMakeAll c g → IsTrue (is_live (after c g) n) → n ≡ length g.allocated + j → slice_get (node_places c) j ≡ Some p
    → drop p c ≡ s ∷ drop (p + 1) c → label_of (after c g) n ≡ option_or (option_or (relabelled (drop p c) n) (label_added s)) (label_of g n)
added_labelled c g n j p s can live is place there =
    ap (λ k. label_of k n) split
    ∙ relabelled_label rest (made (node a.label) h) n below (can_joined (take p c) (node a.label ∷ rest) g (subst (λ k. CanMakeAll k g) whole can)).1.1
    (subst (λ k. IsTrue (is_live k n)) split live)
    ∙ ap (option_or (relabelled rest n)) (ap (label_of (made (node a.label) h)) number ∙ label_last h a.label ∙ ap label_added step)
    ∙ ap (λ o. option_or o (label_added s)) (sym (ap (λ k. relabelled k n) at_place ∙ or_none (relabelled rest n)))
    ∙ sym (ap (option_or (option_or (relabelled (drop p c) n) (label_added s))) (label_none g n (omega (arith, is))) ∙ or_none (option_or (relabelled (drop p c) n) (label_added s)))
  where
    a : AddsNode c g j p
    a = place_adds c g j p place

    rest : List Step
    rest = drop (p + 1) c

    h : Graph
    h = after (take p c) g

    next : suc p ≡ p + 1
    next = omega arith

    at_place : drop p c ≡ node a.label ∷ rest
    at_place = a.there ∙ ap (λ k. node a.label ∷ drop k c) next

    step : node a.label ≡ s
    step = (let both : node a.label ∷ rest ≡ s ∷ rest = sym at_place ∙ there in cc)

    whole : c ≡ take p c ++ node a.label ∷ rest
    whole = sym (take-append-drop p c) ∙ ap (λ k. take p c ++ k) at_place

    split : after c g ≡ after rest (made (node a.label) h)
    split = ap (λ k. after k g) whole ∙ after_joined (take p c) (node a.label ∷ rest) g

    number : n ≡ length h.allocated
    number = is ∙ sym a.number

    below : n < length (made (node a.label) h).allocated
    below = (let one = length-append h.allocated (Some a.label ∷ []) in omega (arith, number, one))

-- it is one of those that add nodes
pub added_earlier : (c : List Step) (g : Graph) (n : ℕ) → IsTrue (is_live (after c g) n) → n < length g.allocated + length (node_places c)
added_earlier c g n live = (let below = live_given (after c g) n live in let count = places_count 0 c g in omega (arith, below, count))

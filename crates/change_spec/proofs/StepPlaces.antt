-- Steps whose nodes and edges are there, one after another.
use Rattle.std.proofs.Common.{◌≡◌, ◌≢◌, ℕ, zero, suc, ◌<◌, ◌≤◌, false, List, [], ◌∷◌, ◌++◌, length, Option, Some, None, IsTrue, refl, sym, ap, ◌∙◌, arith, nat_eq, inl, inr, is_some, true≢false}
use Rattle.std.specs.Prelude.{◌&&◌, ◌||◌, not, option_and_then, slice_get, slice_set}
use Rattle.std.proofs.Math.Bool.{or-false, and-false, and-true}
use Rattle.std.proofs.lemmas.Bool.{cases_lt}
use Rattle.std.proofs.lemmas.Bool.Decides.{eqb_tells}
use Rattle.std.proofs.lemmas.List.{length-append}
use Rattle.std.proofs.lemmas.Option.{slice_get_past}
use Rattle.graph_spec.specs.Graphs.{Graph, IsGraph, label_of, is_live}
use Rattle.graph_spec.proofs.GraphLaws.{graph_with_node, graph_with_edge, graph_without_edge}
use Rattle.graph_spec.specs.Changes.{with_node}
use Rattle.change_spec.specs.Steps.{Step, node, link, unlink, drop, relabel, without_node, labelled, made, after}
use Rattle.change_spec.specs.Places.{CanMake, CanMakeAll}
use Rattle.change_spec.proofs.StepGraphs.{label_other, label_gone, label_given, graph_dropped, graph_labelled}

pub can_joined : (a b : List Step) (g : Graph) → CanMakeAll (a ++ b) g → CanMakeAll a g × CanMakeAll b (after a g)
can_joined [] b g h = (tt, h)
can_joined (s ∷ ss) b g h = (let r = can_joined ss b (made s g) h.1 in ((h.0, r.0), r.1))

pub can_more : (c : List Step) (s : Step) (g : Graph) → CanMakeAll c g → CanMake s (after c g) → CanMakeAll (c ++ s ∷ []) g
can_more [] s g h k = (k, tt)
can_more (x ∷ xs) s g h k = (h.0, can_more xs s (made x g) h.1 k)

-- ---- labels once a step is made

get_prefix : (given : List (Option (List ℕ))) (o : Option (List ℕ)) (n : ℕ) → n < length given → slice_get (given ++ o ∷ []) n ≡ slice_get given n
get_prefix [] o n h = absurd (omega (arith, h))
get_prefix (x ∷ xs) o zero h = refl
get_prefix (x ∷ xs) o (suc n) h = get_prefix xs o n (omega (arith, h))

pub label_added : (g : Graph) (t : List ℕ) (n : ℕ) → n ≢ length g.allocated → label_of (with_node g t) n ≡ label_of g n
label_added g t n apart = ap (λ o. option_and_then (λ l. l) o) (elim (cases_lt n (length g.allocated)) [
  | inl below ↦ get_prefix g.allocated (Some t) n below
  | inr past ↦
      slice_get_past (g.allocated ++ Some t ∷ []) n (let l = length-append g.allocated (Some t ∷ []) in omega (arith, apart, past, l))
      ∙ sym (slice_get_past g.allocated n past)
])

pub label_last : (g : Graph) (t : List ℕ) → label_of (with_node g t) (length g.allocated) ≡ Some t
label_last g t = last g.allocated
  where
    last : (given : List (Option (List ℕ))) → option_and_then (λ l. l) (slice_get (given ++ Some t ∷ []) (length given)) ≡ Some t
    last [] = refl
    last (x ∷ xs) = last xs

-- a number that isn't given has no label
pub label_none : (g : Graph) (n : ℕ) → length g.allocated ≤ n → label_of g n ≡ None
label_none g n past = ap (λ o. option_and_then (λ l. l) o) (slice_get_past g.allocated n past)

pub live_added : (g : Graph) (t : List ℕ) (n : ℕ) → is_live (with_node g t) n ≡ (is_live g n || nat_eq n (length g.allocated))
live_added g t n = elim (eqb_tells n (length g.allocated)) [
  | inl e ↦ (
      let here : label_of (with_node g t) n ≡ Some t = ap (label_of (with_node g t)) e.1 ∙ label_last g t in
      let none : label_of g n ≡ None = label_none g n (let f = e.1 in omega (arith, f)) in
      ap is_some here ∙ sym (ap (λ o. is_some o || nat_eq n (length g.allocated)) none ∙ e.0))
  | inr d ↦ ap is_some (label_added g t n d.1) ∙ sym (ap (λ b. is_live g n || b) d.0 ∙ or-false (is_live g n))
]

pub live_dropped : (g : Graph) (u n : ℕ) → is_live (without_node g u) n ≡ (is_live g n && not (nat_eq n u))
live_dropped g u n = elim (eqb_tells n u) [
  | inl e ↦ (
      let gone : label_of (without_node g u) n ≡ None = ap (label_of (without_node g u)) e.1 ∙ label_gone g u in
      ap is_some gone ∙ sym (ap (λ b. is_live g n && not b) e.0 ∙ and-false (is_live g n)))
  | inr d ↦ ap is_some (label_other g.allocated u n None d.1) ∙ sym (ap (λ b. is_live g n && not b) d.0 ∙ and-true (is_live g n))
]

pub live_labelled : (g : Graph) (u : ℕ) (t : List ℕ) (n : ℕ) → IsTrue (is_live g u) → is_live (labelled g u t) n ≡ is_live g n
live_labelled g u t n live = elim (eqb_tells n u) [
  | inl e ↦ (
      let here : label_of (labelled g u t) n ≡ Some t = ap (label_of (labelled g u t)) e.1 ∙ label_given g u t live in
      ap is_some here ∙ sym (ap (is_live g) e.1 ∙ live))
  | inr d ↦ ap is_some (label_other g.allocated u n (Some t) d.1)
]

-- ---- how many numbers are given

pub given_set : (g : Graph) (u : ℕ) (o : Option (List ℕ)) → length (slice_set g.allocated u o) ≡ length g.allocated
given_set g u o = count g.allocated u
  where
    count : (xs : List (Option (List ℕ))) (i : ℕ) → length (slice_set xs i o) ≡ length xs
    count [] i = refl
    count (x ∷ xs) zero = refl
    count (x ∷ xs) (suc i) = ap suc (count xs i)

pub given_made : (s : Step) (g : Graph) → length g.allocated ≤ length (made s g).allocated
given_made (node t) g = (let l = length-append g.allocated (Some t ∷ []) in omega (arith, l))
given_made (link u v) g = omega arith
given_made (unlink u v) g = omega arith
given_made (drop u) g = (let l = given_set g u None in omega (arith, l))
given_made (relabel u t) g = (let l = given_set g u (Some t) in omega (arith, l))

-- ---- numbers that are gone stay so

pub live_given : (g : Graph) (n : ℕ) → IsTrue (is_live g n) → n < length g.allocated
live_given g n h = elim (cases_lt n (length g.allocated)) [
  | inl below ↦ below
  | inr past ↦ absurd (true≢false (sym h ∙ ap is_some (label_none g n past)))
]

gone_step : (s : Step) (g : Graph) (n : ℕ) → CanMake s g → n < length g.allocated → is_live g n ≡ false → is_live (made s g) n ≡ false
gone_step (node t) g n can below off = live_added g t n ∙ ap (λ b. b || nat_eq n (length g.allocated)) off ∙ apart n (length g.allocated) below
  where
    apart : (a b : ℕ) → a < b → nat_eq a b ≡ false
    apart a b h = elim (eqb_tells a b) [ inl e ↦ absurd (let f = e.1 in omega (arith, f, h)) | inr d ↦ d.0 ]
gone_step (link u v) g n can below off = off
gone_step (unlink u v) g n can below off = off
gone_step (drop u) g n can below off = live_dropped g u n ∙ ap (λ b. b && not (nat_eq n u)) off
gone_step (relabel u t) g n can below off = live_labelled g u t n can ∙ off

pub gone_stays : (c : List Step) (g : Graph) (n : ℕ) → CanMakeAll c g → n < length g.allocated → is_live g n ≡ false → is_live (after c g) n ≡ false
gone_stays [] g n can below off = off
gone_stays (s ∷ ss) g n can below off =
    let more = given_made s g in
    gone_stays ss (made s g) n can.1 (omega (arith, below, more)) (gone_step s g n can.0 below off)

-- a node that is taken away is gone in the end
pub dropped_gone : (ss : List Step) (g : Graph) (u : ℕ) → CanMake (drop u) g → CanMakeAll ss (made (drop u) g) → is_live (after ss (made (drop u) g)) u ≡ false
dropped_gone ss g u live can =
    let more = given_made (drop u) g in
    let below = live_given g u live in
    gone_stays ss (made (drop u) g) u can (omega (arith, below, more)) (ap is_some (label_gone g u))

-- ---- a graph stays one

pub graph_can : (s : Step) (g : Graph) → CanMake s g → IsGraph g → IsGraph (made s g)
graph_can (node t) g can s = graph_with_node g t s
graph_can (link u v) g can s = graph_with_edge g u v s can.0 can.1
graph_can (unlink u v) g can s = graph_without_edge g u v s
graph_can (drop u) g can s = graph_dropped g u s
graph_can (relabel u t) g can s = graph_labelled g u t s can

pub graph_all : (c : List Step) (g : Graph) → CanMakeAll c g → IsGraph g → IsGraph (after c g)
graph_all [] g can s = s
graph_all (x ∷ xs) g can s = graph_all xs (made x g) can.1 (graph_can x g can.0 s)

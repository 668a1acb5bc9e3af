-- The places of the steps that add nodes, and the numbers of these.
use Rattle.std.proofs.Common.{◌≡◌, ℕ, zero, suc, ◌+◌, ◌<◌, ◌≤◌, List, [], ◌∷◌, ◌++◌, length, length-append, take, drop, refl, sym, ap, ◌∙◌, subst, arith}
use Rattle.std.specs.Prelude.{Some, None, slice_get}
use Rattle.std.proofs.lemmas.List.{take-append-drop, append_assoc, append-nil}
use Rattle.graph_spec.specs.Graphs.{Graph, empty_graph}
use Rattle.change_spec.specs.Steps.{Step, node, link, unlink, drop as drop_step, relabel, made, after}
use Rattle.change_spec.proofs.StepPlaces.{given_set}
use Rattle.graph_steps.specs.NodePlaces.{place_if, places_from, node_places}

-- the place of the first step, and those behind it
abbrev prefix_places : Step → ℕ → List ℕ → List ℕ
prefix_places s i rest = place_if s i ++ rest

first_place : (s : Step) (i : ℕ) (ss : List Step) → places_from i (s ∷ ss) ≡ prefix_places s i (places_from (suc i) ss)
first_place (node t) i ss = refl
first_place (link u v) i ss = refl
first_place (unlink u v) i ss = refl
first_place (drop_step u) i ss = refl
first_place (relabel u t) i ss = refl

-- one step more
pub places_more : (i : ℕ) (c : List Step) (s : Step) → places_from i (c ++ s ∷ []) ≡ places_from i c ++ place_if s (i + length c)
places_more i [] s = first_place s i [] ∙ append-nil (place_if s i) ∙ ap (place_if s) (omega arith)
places_more i (x ∷ xs) s =
    first_place x i (xs ++ s ∷ [])
    ∙ ap (prefix_places x i) (places_more (suc i) xs s ∙ ap (λ k. places_from (suc i) xs ++ place_if s k) (omega arith))
    ∙ sym (append_assoc (place_if x i) (places_from (suc i) xs) (place_if s (i + suc (length xs))))
    ∙ ap (λ ps. ps ++ place_if s (i + suc (length xs))) (sym (first_place x i xs))

-- as many numbers are allocated
pub places_count : (i : ℕ) (c : List Step) (g : Graph) → length (after c g).allocated ≡ length g.allocated + length (places_from i c)
places_count i [] g = omega arith
places_count i (node t ∷ ss) g =
    let rest = places_count (suc i) ss (made (node t) g) in
    let one = length-append g.allocated (Some t ∷ []) in
    omega (arith, rest, one)
places_count i (link u v ∷ ss) g = places_count (suc i) ss (made (link u v) g)
places_count i (unlink u v ∷ ss) g = places_count (suc i) ss (made (unlink u v) g)
places_count i (drop_step u ∷ ss) g = (let rest = places_count (suc i) ss (made (drop_step u) g) in let same = given_set g u None in omega (arith, rest, same))
places_count i (relabel u t ∷ ss) g = (let rest = places_count (suc i) ss (made (relabel u t) g) in let same = given_set g u (Some t) in omega (arith, rest, same))

-- the step that adds a node once so many others are added
pub record AddsNode (c : List Step) (g : Graph) (earlier place : ℕ) : Type 0 where
  pub label : List ℕ
  pub there : drop place c ≡ node label ∷ drop (suc place) c
  pub within : place < length c
  pub number : length (after (take place c) g).allocated ≡ length g.allocated + earlier

-- one step in front, which adds none
later : (x : Step) (ss : List Step) (g : Graph) (earlier place : ℕ) → length (made x g).allocated ≡ length g.allocated → AddsNode ss (made x g) earlier place → AddsNode (x ∷ ss) g earlier (suc place)
later x ss g earlier place same a =
    let within = a.within in
    record { label = a.label; there = a.there; within = omega (arith, within); number = a.number ∙ ap (λ k. k + earlier) same }

-- and one that does
after_one : (t : List ℕ) (ss : List Step) (g : Graph) (earlier place : ℕ) → AddsNode ss (made (node t) g) earlier place → AddsNode (node t ∷ ss) g (suc earlier) (suc place)
after_one t ss g earlier place a =
    let within = a.within in
    let number = a.number in
    let one = length-append g.allocated (Some t ∷ []) in
    record { label = a.label; there = a.there; within = omega (arith, within); number = omega (arith, number, one) }

found : (i : ℕ) (c : List Step) (g : Graph) (j p : ℕ) → slice_get (places_from i c) j ≡ Some p → (k : ℕ) × (p ≡ i + k) × AddsNode c g j k
found i [] g j p e = absurd (none j e)
  where
    none : (j : ℕ) → slice_get (places_from i []) j ≡ Some p → ⊥
    none zero h = cc
    none (suc j) h = cc
found i (node t ∷ ss) g zero p e =
    let same : i ≡ p = cc in
    (zero, omega (arith, same), record { label = t; there = refl; within = omega arith; number = omega arith })
found i (node t ∷ ss) g (suc j) p e =
    let f = found (suc i) ss (made (node t) g) j p e in
    let is = f.1 in
    (suc f.0, omega (arith, is), after_one t ss g j f.0 f.2)
found i (link u v ∷ ss) g j p e =
    let f = found (suc i) ss (made (link u v) g) j p e in
    let is = f.1 in
    (suc f.0, omega (arith, is), later (link u v) ss g j f.0 refl f.2)
found i (unlink u v ∷ ss) g j p e =
    let f = found (suc i) ss (made (unlink u v) g) j p e in
    let is = f.1 in
    (suc f.0, omega (arith, is), later (unlink u v) ss g j f.0 refl f.2)
found i (drop_step u ∷ ss) g j p e =
    let f = found (suc i) ss (made (drop_step u) g) j p e in
    let is = f.1 in
    (suc f.0, omega (arith, is), later (drop_step u) ss g j f.0 (given_set g u None) f.2)
found i (relabel u t ∷ ss) g j p e =
    let f = found (suc i) ss (made (relabel u t) g) j p e in
    let is = f.1 in
    (suc f.0, omega (arith, is), later (relabel u t) ss g j f.0 (given_set g u (Some t)) f.2)

pub place_adds : (c : List Step) (g : Graph) (j p : ℕ) → slice_get (node_places c) j ≡ Some p → AddsNode c g j p
place_adds c g j p e =
    let f = found 0 c g j p e in
    let is = f.1 in
    let same : f.0 ≡ p = omega (arith, is) in
    subst (AddsNode c g j) same f.2

pub place_within : (c : List Step) (j p : ℕ) → slice_get (node_places c) j ≡ Some p → p < length c
place_within c j p e = (place_adds c empty_graph j p e).within

-- ---- the first steps

get_prefix : (xs ys : List ℕ) (j p : ℕ) → j < length xs → slice_get (xs ++ ys) j ≡ Some p → slice_get xs j ≡ Some p
get_prefix [] ys j p h e = absurd (omega (arith, h))
get_prefix (x ∷ xs) ys zero p h e = e
get_prefix (x ∷ xs) ys (suc j) p h e = get_prefix xs ys j p (omega (arith, h)) e

places_joined : (i : ℕ) (a b : List Step) → (rest : List ℕ) × (places_from i (a ++ b) ≡ places_from i a ++ rest)
places_joined i [] b = (places_from i b, refl)
places_joined i (x ∷ xs) b =
    let rest = places_joined (suc i) xs b in (
      rest.0,
      first_place x i (xs ++ b) ∙ ap (prefix_places x i) rest.1 ∙ sym (append_assoc (place_if x i) (places_from (suc i) xs) rest.0)
          ∙ ap (λ ps. ps ++ rest.0) (sym (first_place x i xs)),
    )

places_taken : (c : List Step) (k : ℕ) → (rest : List ℕ) × (node_places c ≡ node_places (take k c) ++ rest)
places_taken c k = (let j = places_joined 0 (take k c) (drop k c) in (j.0, ap node_places (sym (take-append-drop k c)) ∙ j.1))

-- a step that adds a node is at one place, whatever steps follow
pub place_prefix : (c : List Step) (k j p : ℕ) → j < length (node_places (take k c)) → slice_get (node_places c) j ≡ Some p → slice_get (node_places (take k c)) j ≡ Some p
place_prefix c k j p h e =
    let t = places_taken c k in
    get_prefix (node_places (take k c)) t.0 j p h (ap (λ xs. slice_get xs j) (sym t.1) ∙ e)

pub fewer_places : (c : List Step) (k : ℕ) → length (node_places (take k c)) ≤ length (node_places c)
fewer_places c k =
    let t = places_taken c k in
    let sum = length-append (node_places (take k c)) t.0 in
    let same = ap length t.1 in
    omega (arith, sum, same)

pub places_few : (i : ℕ) (c : List Step) → length (places_from i c) ≤ length c
places_few i [] = omega arith
places_few i (node t ∷ ss) = (let rest = places_few (suc i) ss in omega (arith, rest))
places_few i (link u v ∷ ss) = (let rest = places_few (suc i) ss in omega (arith, rest))
places_few i (unlink u v ∷ ss) = (let rest = places_few (suc i) ss in omega (arith, rest))
places_few i (drop_step u ∷ ss) = (let rest = places_few (suc i) ss in omega (arith, rest))
places_few i (relabel u t ∷ ss) = (let rest = places_few (suc i) ss in omega (arith, rest))

-- The labels of a graph that steps leave, and their numbers.
use Rattle.std.proofs.Common.{◌≡◌, ℕ, zero, suc, ◌+◌, ◌-◌, ◌<◌, ◌≤◌, ◌^◌, Bool, true, false, cond, List, [], ◌∷◌, ◌++◌, length, Option, Some, None, Ok, Err, refl, sym, ap, ◌∙◌, subst, arith, inl, inr, nat_lt, get_or, take, length-append}
use Rattle.std.specs.Prelude.{◌||◌, not, is_some, Result, option_and_then, slice_get, position, bytes_eq, if◌then◌else◌}
use Rattle.std.specs.List.{list_any, prefix_len, position_or_len}
use Rattle.std.proofs.lemmas.Bool.{cases_Bool, and_parts}
use Rattle.std.proofs.lemmas.Bool.Decides.{nat_tests}
use Rattle.std.proofs.lemmas.List.Quantifiers.{position-Some}
use Rattle.std.proofs.lemmas.Option.{slice_get-get_or}
use Rattle.std.proofs.lemmas.Slice.Eq.{bytes_eq-Decides}
use Rattle.graph_spec.specs.declared.limits.Limits.{Limits}
use Rattle.graph_spec.specs.declared.refusal.Refusal.{Refusal}
use Rattle.graph_spec.specs.declared.refusal.Refusal.TheVariants.{NoNode, Limit}
use Rattle.graph_spec.specs.Graphs.{Graph, is_live, label_of, is_seen}
use Rattle.graph_spec.specs.Changes.{with_node, with_label, node_fits}
use Rattle.graph_spec.proofs.ListLemmas.{found, is_found}
use Rattle.label_graph.specs.GraphViews.{label_number}
use Rattle.change_spec.specs.Steps.{Step, node, link, unlink, drop, relabel, made, after, apply_step, apply_all, label_fits, labelled}
use Rattle.change_spec.proofs.StepGraphs.{first_made, stepped}
use Rattle.change_spec.proofs.Accepted.{accepted_all}
use Rattle.graph_steps.specs.NewChanges.{IsNew}
use Rattle.graph_steps.specs.StepLists.{step_of, steps_of}
use Rattle.graph_steps.specs.declared.changes.Step.{Step as Asked}
use Rattle.graph_steps.proofs.GrownCounts.{is_some-position}

-- ---- numbers

prefix_joined : (p : List ℕ → Bool) (xs ys : List (List ℕ)) → prefix_len p xs < length xs → prefix_len p (xs ++ ys) ≡ prefix_len p xs
prefix_joined p [] ys h = absurd (omega (arith, h))
prefix_joined p (x ∷ xs) ys h =
    elim (p x) as (λ b. cond b (1 + prefix_len p xs) 0 < length (x ∷ xs) → cond b (1 + prefix_len p (xs ++ ys)) 0 ≡ cond b (1 + prefix_len p xs) 0) [
      | true ↦ λ l. ap (λ n. 1 + n) (prefix_joined p xs ys (omega (arith, l)))
      | false ↦ λ l. refl
    ] h

-- a text that is found stays found
position_prefix : (p : List ℕ → Bool) (xs ys : List (List ℕ)) (i : ℕ) → position p xs ≡ Some i → position p (xs ++ ys) ≡ Some i
position_prefix p xs ys i e =
    let f = found (position_or_len p xs) (length xs) i e in
    let same = prefix_joined (λ x. not (p x)) xs ys f.0 in
    is_found (position_or_len p (xs ++ ys)) (length (xs ++ ys)) i (omega (arith, f.0, same, length-append xs ys)) (same ∙ f.1)

prefix_end : (p : List ℕ → Bool) (xs : List (List ℕ)) (t : List ℕ) → p t ≡ true → list_any p xs ≡ false → prefix_len (λ x. not (p x)) (xs ++ t ∷ []) ≡ length xs
prefix_end p [] t h n = ap (λ b. cond (not b) 1 0) h
prefix_end p (x ∷ xs) t h n =
    elim (p x) as (λ b. (b || list_any p xs) ≡ false → cond (not b) (1 + prefix_len (λ x. not (p x)) (xs ++ t ∷ [])) 0 ≡ length (x ∷ xs)) [
      | true ↦ λ l. cc
      | false ↦ λ l. (let r = prefix_end p xs t h l in omega (arith, r))
    ] n

position_end : (p : List ℕ → Bool) (xs : List (List ℕ)) (t : List ℕ) → p t ≡ true → list_any p xs ≡ false → position p (xs ++ t ∷ []) ≡ Some (length xs)
position_end p xs t h n =
    let e = prefix_end p xs t h n in
    is_found (position_or_len p (xs ++ t ∷ [])) (length (xs ++ t ∷ [])) (length xs) (omega (arith, e, length-append xs (t ∷ []))) e

kept_number : (seen : List (List ℕ)) (t : List ℕ) (p : List ℕ → Bool) (l : ℕ) → position p seen ≡ Some l → position p (with_label seen t) ≡ Some l
kept_number seen t p l e = elim (is_seen seen t) as (λ b. position p (if b then seen else (seen ++ t ∷ [])) ≡ Some l) [
  | true ↦ e
  | false ↦ position_prefix p seen (t ∷ []) l e
]

-- a text that wasn't seen has the next number
pub unseen_number : (seen : List (List ℕ)) (t : List ℕ) → is_seen seen t ≡ false → position (bytes_eq t) (with_label seen t) ≡ Some (length seen)
unseen_number seen t none = ap (λ b. position (bytes_eq t) (if b then seen else (seen ++ t ∷ []))) none ∙ position_end (bytes_eq t) seen t ((bytes_eq-Decides t t).1 refl) none

pub not_found : (seen : List (List ℕ)) (t : List ℕ) → position (bytes_eq t) seen ≡ None → is_seen seen t ≡ false
not_found seen t e = sym (is_some-position (bytes_eq t) seen) ∙ ap is_some e

pub number_stays : (c : List Step) (g : Graph) (p : List ℕ → Bool) (l : ℕ) → position p g.seen ≡ Some l → position p (after c g).seen ≡ Some l
number_stays [] g p l e = e
number_stays (s ∷ ss) g p l e = number_stays ss (made s g) p l (one s)
  where
    one : (s : Step) → position p (made s g).seen ≡ Some l
    one (node t) = kept_number g.seen t p l e
    one (link u v) = e
    one (unlink u v) = e
    one (drop u) = e
    one (relabel u t) = kept_number g.seen t p l e

-- the steps behind the first ones
rest_of : (ss : List Asked) (k : ℕ) (g : Graph) → (rest : List Step) × (after (steps_of ss) g ≡ after rest (after (steps_of (take k ss)) g))
rest_of [] zero g = ([], refl)
rest_of [] (suc k) g = ([], refl)
rest_of (x ∷ xs) zero g = (steps_of (x ∷ xs), refl)
rest_of (x ∷ xs) (suc k) g = rest_of xs k (made (step_of x) g)

pub number_prefix : (ss : List Asked) (k : ℕ) (g : Graph) (p : List ℕ → Bool) (l : ℕ) → position p (after (steps_of (take k ss)) g).seen ≡ Some l → position p (after (steps_of ss) g).seen ≡ Some l
number_prefix ss k g p l e = (let r = rest_of ss k g in ap (λ h. position p h.seen) r.1 ∙ number_stays r.0 (after (steps_of (take k ss)) g) p l e)

-- ---- how many labels there are

abbrev one_more : Bool → ℕ
one_more b = cond (not b) 1 0

seen_grown : (seen : List (List ℕ)) (t : List ℕ) → length (with_label seen t) ≡ length seen + one_more (is_seen seen t)
seen_grown seen t = elim (is_seen seen t) as (λ b. length (if b then seen else seen ++ t ∷ []) ≡ length seen + one_more b) [
  | true ↦ omega arith
  | false ↦ length-append seen (t ∷ [])
]

seen_grows : (c : List Step) (g : Graph) → length g.seen ≤ length (after c g).seen
seen_grows [] g = omega arith
seen_grows (s ∷ ss) g = (let a = one s in let b = seen_grows ss (made s g) in omega (arith, a, b))
  where
    one : (s : Step) → length g.seen ≤ length (made s g).seen
    one (node t) = (let l = seen_grown g.seen t in omega (arith, l))
    one (link u v) = omega arith
    one (unlink u v) = omega arith
    one (drop u) = omega arith
    one (relabel u t) = (let l = seen_grown g.seen t in omega (arith, l))

pub prefix_seen : (ss : List Asked) (k : ℕ) (g : Graph) → length (after (steps_of (take k ss)) g).seen ≤ length (after (steps_of ss) g).seen
prefix_seen ss k g = (let r = rest_of ss k g in let a = seen_grows r.0 (after (steps_of (take k ss)) g) in let b = ap (λ h. length h.seen) r.1 in omega (arith, a, b))

passes : (b : Bool) (r : Result Graph Refusal) (e : Refusal) (h : Graph) → (if b then r else Err e) ≡ Ok h → (b ≡ true) × (r ≡ Ok h)
passes true r e h p = (refl, p)
passes false r e h p = cc

grown_few : (seen : List (List ℕ)) (t : List ℕ) (labels most : ℕ) → (is_seen seen t || nat_lt (length seen) labels) ≡ true → labels ≤ 2 ^ 30 → length seen ≤ most → 2 ^ 30 ≤ most → length (with_label seen t) ≤ most
grown_few seen t labels most fits small few high = elim (cases_Bool (is_seen seen t)) [
  | inl on ↦ (
      let l = seen_grown seen t in
      let none : one_more (is_seen seen t) ≡ 0 = ap one_more on in
      omega (arith, l, none, few))
  | inr off ↦ (
      let l = seen_grown seen t in
      let one : one_more (is_seen seen t) ≡ 1 = ap one_more off in
      let below = under (length seen) labels (sym (ap (λ b. b || nat_lt (length seen) labels) off) ∙ fits) in
      omega (arith, l, one, below, small, high))
]
  where
    under : (a b : ℕ) → nat_lt a b ≡ true → a < b
    under a b h = grind (arith, nat_tests)

labels_step : (s : Step) (g h : Graph) (limits : Limits) (most : ℕ) → apply_step s g limits ≡ Ok h → length g.seen ≤ most → 2 ^ 30 ≤ most → length (made s g).seen ≤ most
labels_step (node t) g h limits most e few high =
    let fits = passes (node_fits g limits t) (Ok (with_node g t)) Limit h e in
    let one = and_parts (nat_lt (length g.allocated) limits.nodes) (is_seen g.seen t || nat_lt (length g.seen) limits.labels) fits.0 in
    grown_few g.seen t limits.labels most one.1 limits.labels_bounded few high
labels_step (link u v) g h limits most e few high = few
labels_step (unlink u v) g h limits most e few high = few
labels_step (drop u) g h limits most e few high = few
labels_step (relabel u t) g h limits most e few high =
    let live = passes (is_live g u) (if label_fits g limits t then Ok (labelled g u t) else Err Limit) NoNode h e in
    let fits = passes (label_fits g limits t) (Ok (labelled g u t)) Limit h live.1 in
    grown_few g.seen t limits.labels most fits.0 limits.labels_bounded few high

labels_all : (c : List Step) (g h : Graph) (limits : Limits) (most : ℕ) → apply_all c g limits ≡ Ok h → length g.seen ≤ most → 2 ^ 30 ≤ most → length (after c g).seen ≤ most
labels_all [] g h limits most e few high = few
labels_all (s ∷ ss) g h limits most e few high =
    let first = first_made (apply_step s g limits) (λ k. apply_all ss k limits) h e in
    let same = stepped s g first.0 limits first.1 in
    labels_all ss (made s g) h limits most (subst (λ k. apply_all ss k limits ≡ Ok h) same first.2) (labels_step s g first.0 limits most first.1 few high) high

pub new_labels : (c : List Step) (g : Graph) → IsNew c g → length g.seen < 2 ^ 32 → length (after c g).seen < 2 ^ 32
new_labels c g new few =
    let law = labels_all c g (after c g) new.limits (2 ^ 32 - 1) (accepted_all c g (after c g) new.limits new.accepted).1 (omega (arith, few)) (omega arith) in
    omega (arith, law)

-- ---- the label of a node

text_at : (seen : List (List ℕ)) (t : List ℕ) (l : ℕ) → position (bytes_eq t) seen ≡ Some l → slice_get seen l ≡ Some t
text_at seen t l e = (let p = position-Some (bytes_eq t) seen l t e in slice_get-get_or seen l t p.0 ∙ ap Some (sym ((bytes_eq-Decides t (get_or seen l t)).0 p.1)))

option_text : (seen : List (List ℕ)) (o : Option (List ℕ)) (l : ℕ) → option_and_then (λ t. position (bytes_eq t) seen) o ≡ Some l → slice_get seen l ≡ o
option_text seen None l e = cc
option_text seen (Some t) l e = text_at seen t l e

-- what is at the place of its number is its text
pub number_text : (g : Graph) (n l : ℕ) → label_number g n ≡ Some l → slice_get g.seen l ≡ label_of g n
number_text g n l e = option_text g.seen (label_of g n) l e

pub number_is : (g : Graph) (n l : ℕ) (t : List ℕ) → label_of g n ≡ Some t → position (bytes_eq t) g.seen ≡ Some l → label_number g n ≡ Some l
number_is g n l t e p = ap (option_and_then (λ r. position (bytes_eq r) g.seen)) e ∙ p

-- ---- a label that is kept

kept_option : (c : List Step) (g : Graph) (o : Option (List ℕ)) (l : ℕ) → option_and_then (λ t. position (bytes_eq t) g.seen) o ≡ Some l → option_and_then (λ t. position (bytes_eq t) (after c g).seen) o ≡ Some l
kept_option c g None l e = cc
kept_option c g (Some t) l e = number_stays c g (bytes_eq t) l e

-- where it keeps its label, it keeps the number
pub number_kept : (c : List Step) (g : Graph) (n l : ℕ) → label_of (after c g) n ≡ label_of g n → label_number g n ≡ Some l → label_number (after c g) n ≡ Some l
number_kept c g n l same e =
    ap (option_and_then (λ t. position (bytes_eq t) (after c g).seen)) same ∙ kept_option c g (label_of g n) l e

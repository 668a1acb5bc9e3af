-- The neighbours that are shown on one side of a node, and what it costs to read them.
use Rattle.std.proofs.Common.{◌≡◌, ℕ, zero, suc, nat_eq, ◌+◌, ◌<◌, ◌≤◌, Bool, true, false, List, [], length, refl, sym, ap, ◌∙◌, arith, inl, inr, true≢false}
use Rattle.std.specs.Prelude.{◌&&◌, ◌||◌, not, Option, None, Some, if◌then◌else◌}
use Rattle.std.specs.List.{IsDistinct}
use Rattle.std.specs.FinSet as set
use Rattle.std.proofs.Math.Bool.{or-true}
use Rattle.std.proofs.lemmas.Bool.{cases_Bool, cases_lt}
use Rattle.bisim_spec.specs.declared.sides.Side.{Side}
use Rattle.bisim_spec.specs.declared.sides.Side.TheVariants.{Parents, Children}
use Rattle.bisim_spec.specs.Below.{count_below}
use Rattle.graph_spec.specs.Members.{has, Lists}
use Rattle.graph_spec.specs.Graphs.{Graph, IsGraph, has_edge, is_live, empty_graph, edge_cmp}
use Rattle.bisim_spec.proofs.BelowLaws.{bit_of}
use Rattle.change_spec.specs.Steps.{Step, after}
use Rattle.change_spec.specs.Counts.{tally}
use Rattle.change_spec.specs.Named.{is_named, is_dropped}
use Rattle.change_spec.proofs.NamedNodes.{given_all, unnamed_parent, unnamed_child, unnamed_bare}
use Rattle.change_spec.proofs.ShownNeighbours.{unconcerned, edge_all, edge_parts, new_parents_are, new_children_are, shown_parents_list, shown_children_list}
use Rattle.change_spec.proofs.ShownCounts.{shown_cost}
use Rattle.change_spec.proofs.StepPlaces.{live_given}
use Rattle.graph_update.specs.PendingChanges.{lost_at}
use Rattle.graph_update.specs.ShownNeighbours.{leads_between, shown_at, new_at, comes_at, concerned_at, with_first, is_fresh}

pub shown_list : (side : Side) (c : List Step) (g : Graph) (n : ℕ) (items : List ℕ) → Lists (leads_between side g n) items → Lists (leads_between side (after c g) n) (shown_at side c n items)
shown_list Parents c g n items l = shown_parents_list c g n items l
shown_list Children c g n items l = shown_children_list c g n items l

new_are : (side : Side) (c : List Step) (n m : ℕ) → has (new_at side c n) m ≡ comes_at side c n m
new_are Parents c n m = new_parents_are c m n
new_are Children c n m = new_children_are c n m

-- whether the edge is there after the steps, by how it was before
joins_after : (side : Side) (c : List Step) (g : Graph) (n m : ℕ) → leads_between side (after c g) n m ≡ ((leads_between side g n m && not (concerned_at side c n m)) || comes_at side c n m)
joins_after Parents c g n m = edge_all c g m n ∙ edge_parts c m n (has_edge g m n)
joins_after Children c g n m = edge_all c g n m ∙ edge_parts c n m (has_edge g n m)

-- what comes and wasn't there is what is there and wasn't
fresh_same : (side : Side) (c : List Step) (g : Graph) (n m : ℕ) → (comes_at side c n m && not (leads_between side g n m)) ≡ (leads_between side (after c g) n m && not (leads_between side g n m))
fresh_same side c g n m = bits (comes_at side c n m) (leads_between side g n m) (concerned_at side c n m) ∙ ap (λ b. b && not (leads_between side g n m)) (sym (joins_after side c g n m))
  where
    bits : (x a k : Bool) → (x && not a) ≡ (((a && not k) || x) && not a)
    bits true true true = refl
    bits true true false = refl
    bits false true true = refl
    bits false true false = refl
    bits true false k = refl
    bits false false k = refl

-- ---- nodes that no step names

pub not_named : (c : List Step) (n : ℕ) (b : Bool) → (is_named c n ≡ true → b ≡ true) → b ≡ false → is_named c n ≡ false
not_named c n b h off = elim (cases_Bool (is_named c n)) [
  | inl on ↦ absurd (true≢false (sym (h on) ∙ off))
  | inr none ↦ none
]

pub unnamed_at : (side : Side) (c : List Step) (n m : ℕ) → is_named c m ≡ false → is_dropped c n ≡ false → concerned_at side c n m ≡ false
unnamed_at Parents c n m h k = unnamed_parent c m n h k
unnamed_at Children c n m h k = unnamed_child c n m h k

-- no neighbours come to such a node
pub unnamed_new : (side : Side) (c : List Step) (n : ℕ) → is_named c n ≡ false → new_at side c n ≡ []
unnamed_new Parents c n h = (unnamed_bare c n h).0
unnamed_new Children c n h = (unnamed_bare c n h).1

-- ---- one more step

-- one neighbour that may come, in front of others
pub first_fresh : (p : ℕ → Bool) (o : Option ℕ) (ms : List ℕ) → tally p (with_first o ms) ≡ tally p (with_first o []) + tally p ms
first_fresh p None ms = omega arith
first_fresh p (Some m) ms = omega arith

pub fresh_few : (p : ℕ → Bool) (o : Option ℕ) → tally p (with_first o []) ≤ 1
fresh_few p None = omega arith
fresh_few p (Some m) = (let few = one_most (p m) in omega (arith, few))
  where
    one_most : (b : Bool) → (if b then 1 else 0) ≤ 1
    one_most true = omega arith
    one_most false = omega arith

-- ---- a node that no step names, where none is dropped

pub unnamed_far : (side : Side) (c : List Step) (n m : ℕ) → is_named c n ≡ false → is_dropped c m ≡ false → concerned_at side c n m ≡ false
unnamed_far Parents c n m h k = unnamed_child c m n h k
unnamed_far Children c n m h k = unnamed_parent c n m h k

far_comes : (side : Side) (c : List Step) (n m : ℕ) → concerned_at side c n m ≡ false → comes_at side c n m ≡ false
far_comes Parents c n m h = unconcerned c m n false h
far_comes Children c n m h = unconcerned c n m false h

joins_bare : (side : Side) (c : List Step) (g : Graph) (n m : ℕ) → is_named c n ≡ false → is_dropped c m ≡ false → leads_between side (after c g) n m ≡ leads_between side g n m
joins_bare side c g n m h k =
    let far = unnamed_far side c n m h k in
    joins_after side c g n m ∙ ap (λ b. (leads_between side g n m && not b) || comes_at side c n m) far ∙ ap (λ b. (leads_between side g n m && not false) || b) (far_comes side c n m far) ∙ same (leads_between side g n m)
  where
    same : (a : Bool) → ((a && not false) || false) ≡ a
    same true = refl
    same false = refl

-- its neighbours stay
pub bare_list : (side : Side) (c : List Step) (g : Graph) (n : ℕ) (items : List ℕ) → is_named c n ≡ false → ((m : ℕ) → is_dropped c m ≡ false) → Lists (leads_between side g n) items → Lists (leads_between side (after c g) n) items
bare_list side c g n items h k l = record { once = l.once; members = λ m. l.members m ∙ sym (joins_bare side c g n m h (k m)) }

-- ---- what it costs to show neighbours

distinct_nothing : IsDistinct nat_eq []
unfolding IsDistinct
distinct_nothing = tt

nothing : (p : ℕ → Bool) → ((m : ℕ) → p m ≡ false) → Lists p []
nothing p none = record { once = distinct_nothing; members = λ m. sym (none m) }

bare_graph : (side : Side) (n m : ℕ) → leads_between side empty_graph n m ≡ false
bare_graph Parents n m = set.contains-empty edge_cmp (m, n)
bare_graph Children n m = set.contains-empty edge_cmp (n, m)

-- the neighbours that come, each once
new_list : (side : Side) (c : List Step) (n : ℕ) → Lists (comes_at side c n) (new_at side c n)
new_list side c n = record {
  once = (shown_list side c empty_graph n [] (nothing (leads_between side empty_graph n) (bare_graph side n))).once;
  members = new_are side c n;
}

comes_joins : (side : Side) (c : List Step) (g : Graph) (n m : ℕ) → comes_at side c n m ≡ true → leads_between side (after c g) n m ≡ true
comes_joins side c g n m h = joins_after side c g n m ∙ ap (λ b. (leads_between side g n m && not (concerned_at side c n m)) || b) h ∙ or-true (leads_between side g n m && not (concerned_at side c n m))

joins_given : (side : Side) (g : Graph) (n k : ℕ) → IsGraph g → leads_between side g n k ≡ true → k < length g.allocated
joins_given Parents g n k s h = live_given g k (s.from k n h)
joins_given Children g n k s h = live_given g k (s.onto n k h)

joins_live : (side : Side) (g : Graph) (n k : ℕ) → IsGraph g → leads_between side g n k ≡ true → is_live g n ≡ true
joins_live Parents g n k s h = s.onto k n h
joins_live Children g n k s h = s.from n k h

-- a node that isn't live has no neighbours
pub dead_list : (side : Side) (g : Graph) (n : ℕ) → IsGraph g → is_live g n ≡ false → Lists (leads_between side g n) []
dead_list side g n s dead = nothing (leads_between side g n) (λ m. elim (cases_Bool (leads_between side g n m)) [
  | inl on ↦ absurd (true≢false (sym (joins_live side g n m s on) ∙ dead))
  | inr off ↦ off
])

count_past : (n m : ℕ) (p : ℕ → Bool) → m ≤ n → ((k : ℕ) → m ≤ k → p k ≡ false) → count_below n p ≡ count_below m p
count_past zero m p h off = (let e : 0 ≡ m = omega (arith, h) in ap (λ k. count_below k p) e)
count_past (suc n) m p h off = elim (cases_lt m (suc n)) [
  | inl below ↦ (
      let z : bit_of (p n) ≡ 0 = ap bit_of (off n (omega (arith, below))) in
      let r = count_past n m p (omega (arith, below)) off in
      omega (arith, z, r))
  | inr past ↦ (let e : suc n ≡ m = omega (arith, h, past) in ap (λ k. count_below k p) e)
]

lost_past : (side : Side) (c : List Step) (g : Graph) (n : ℕ) → IsGraph g
    → count_below (length (after c g).allocated) (λ k. leads_between side g n k && not (leads_between side (after c g) n k)) ≡ lost_at side (record { before = g; change = c }) n
lost_past Parents c g n s = count_past (length (after c g).allocated) (length g.allocated) (λ k. leads_between Parents g n k && not (leads_between Parents (after c g) n k)) (given_all c g) (λ k past. elim (cases_Bool (leads_between Parents g n k)) [
  | inl on ↦ absurd (let b = joins_given Parents g n k s on in omega (arith, b, past))
  | inr off ↦ ap (λ b. b && not (leads_between Parents (after c g) n k)) off
])
lost_past Children c g n s = count_past (length (after c g).allocated) (length g.allocated) (λ k. leads_between Children g n k && not (leads_between Children (after c g) n k)) (given_all c g) (λ k past. elim (cases_Bool (leads_between Children g n k)) [
  | inl on ↦ absurd (let b = joins_given Children g n k s on in omega (arith, b, past))
  | inr off ↦ ap (λ b. b && not (leads_between Children (after c g) n k)) off
])

-- Some neighbours come, and hold all that weren't there: so many more than were there are shown, and lost.
side_cost : (side : Side) (c : List Step) (g : Graph) (n : ℕ) (items shown come : List ℕ) (new : ℕ → Bool) → IsGraph g → IsGraph (after c g)
    → Lists (leads_between side g n) items → Lists (leads_between side (after c g) n) shown → Lists new come → ((k : ℕ) → new k ≡ true → leads_between side (after c g) n k ≡ true)
    → ((k : ℕ) → (new k && not (leads_between side g n k)) ≡ (leads_between side (after c g) n k && not (leads_between side g n k)))
    → length items + tally (is_fresh side g n) come ≡ length shown + lost_at side (record { before = g; change = c }) n
side_cost side c g n items shown come new s s2 li ls lc within same =
    let more = given_all c g in
    let law = shown_cost (length (after c g).allocated) (leads_between side g n) (leads_between side (after c g) n) new items shown come li ls lc
    (λ k h. (let b = joins_given side g n k s h in omega (arith, b, more))) (λ k h. joins_given side (after c g) n k s2 h) (λ k h. joins_given side (after c g) n k s2 (within k h)) same in
    let lost = lost_past side c g n s in
    omega (arith, law, lost)

pub shown_paid : (side : Side) (c : List Step) (g : Graph) (n : ℕ) (items : List ℕ) → IsGraph g → IsGraph (after c g) → Lists (leads_between side g n) items
    → length items + tally (is_fresh side g n) (new_at side c n) ≡ length (shown_at side c n items) + lost_at side (record { before = g; change = c }) n
shown_paid side c g n items s s2 l =
    side_cost side c g n items (shown_at side c n items) (new_at side c n) (comes_at side c n) s s2 l (shown_list side c g n items l) (new_list side c n)
    (comes_joins side c g n) (fresh_same side c g n)

pub bare_paid : (side : Side) (c : List Step) (g : Graph) (n : ℕ) (items : List ℕ) → is_named c n ≡ false → IsGraph g → IsGraph (after c g)
    → Lists (leads_between side g n) items → Lists (leads_between side (after c g) n) items → length items ≡ length items + lost_at side (record { before = g; change = c }) n
bare_paid side c g n items h s s2 l l2 =
    let law = side_cost side c g n items items (new_at side c n) (comes_at side c n) s s2 l l2 (new_list side c n) (comes_joins side c g n) (fresh_same side c g n) in
    let none = ap (tally (is_fresh side g n)) (unnamed_new side c n h) in
    omega (arith, law, none)

pub dead_paid : (side : Side) (c : List Step) (g : Graph) (n : ℕ) (items : List ℕ) → is_live (after c g) n ≡ false → IsGraph g → IsGraph (after c g) → Lists (leads_between side g n) items
    → length items ≡ lost_at side (record { before = g; change = c }) n
dead_paid side c g n items dead s s2 l =
    let law = side_cost side c g n items [] [] (leads_between side (after c g) n) s s2 l (dead_list side (after c g) n s2 dead) (dead_list side (after c g) n s2 dead) (λ k h. h) (λ k. refl) in
    omega (arith, law)

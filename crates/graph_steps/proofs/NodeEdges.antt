-- The edges at a node that steps leave there, one step more at a time.
use Rattle.std.proofs.Common.{◌≡◌, ◌≢◌, ℕ, zero, suc, ◌+◌, ◌-◌, ◌<◌, ◌≤◌, Bool, true, false, cond, List, [], ◌∷◌, length, IsTrue, refl, sym, ap, ◌∙◌, arith, inl, inr, nat_eq, take, get_or, true≢false}
use Rattle.std.specs.Prelude.{◌&&◌, ◌||◌, not}
use Rattle.std.specs.FinSet as set
use Rattle.std.proofs.Math.Bool.{and-false, and-true, or-false, or-true}
use Rattle.std.proofs.lemmas.Bool.{cases_Bool, and_parts, or_parts, not-true}
use Rattle.std.proofs.lemmas.Bool.Decides.{eqb_tells}
use Rattle.std.proofs.lemmas.List.Folds.{list_any-append}
use Rattle.graph_spec.specs.Graphs.{Graph, IsGraph, has_edge, is_live}
use Rattle.graph_spec.proofs.EdgeOrder.{edge_cmp_total, eq_pair}
use Rattle.bisim_spec.proofs.BelowLaws.{bit_of}
use Rattle.bisim_spec.proofs.EdgeSets.{eq, kept_len}
use Rattle.change_spec.specs.Steps.{Step, node, link, unlink, drop, relabel, touches, made, after}
use Rattle.change_spec.specs.Named.{takes_away, is_dropped}
use Rattle.change_spec.specs.Places.{CanMake, CanMakeAll}
use Rattle.change_spec.proofs.KeptEdges.{kept_same, kept_twice, kept_more, kept_less, kept_gone}
use Rattle.change_spec.proofs.StepPlaces.{graph_all}
use Rattle.graph_steps.specs.declared.changes.Step.{Step as Asked}
use Rattle.graph_steps.specs.declared.changes.Step.TheVariants.{Node, Link, Unlink, Drop, Relabel}
use Rattle.graph_steps.specs.StepLists.{step_of, steps_of}
use Rattle.graph_steps.specs.Counted.{touching}
use Rattle.graph_steps.proofs.PrefixSteps.{more_at}
use Rattle.graph_steps.proofs.GrownCounts.{edges_same}
use Rattle.graph_steps.proofs.NamedParts.{live_stays}
use Rattle.graph_steps.specs.Degrees.{stays_at, staying, one_for, lost_by, gained_by, cut_by}

-- ---- what is gone

pub gone_more : (ss : List Asked) (i : ℕ) (s : Asked) (n : ℕ) → i < length ss → s ≡ get_or ss i s
    → is_dropped (steps_of (take (i + 1) ss)) n ≡ (is_dropped (steps_of (take i ss)) n || takes_away (step_of s) n)
gone_more ss i s n h e =
    ap (λ c. is_dropped c n) (more_at ss i s h e)
    ∙ list_any-append (λ x. takes_away x n) (steps_of (take i ss)) (step_of s ∷ [])
    ∙ ap (λ b. is_dropped (steps_of (take i ss)) n || b) (or-false (takes_away (step_of s) n))

-- a node that is live in the end wasn't taken away
pub live_not_gone : (ss : List Asked) (g : Graph) (n : ℕ) → CanMakeAll (steps_of ss) g → IsTrue (is_live (after (steps_of ss) g) n) → is_dropped (steps_of ss) n ≡ false
live_not_gone ss g n can live = live_stays (steps_of ss) g n can live

-- an edge that stays at a node has ends that do
pub counted_stay : (u : ℕ) (gone : ℕ → Bool) (a b : ℕ) → stays_at u gone (a, b) ≡ true → (gone a ≡ false) × (gone b ≡ false)
counted_stay u gone a b h =
    let both = and_parts (not (gone a)) (not (gone b)) (and_parts (touches u (a, b)) (not (gone a) && not (gone b)) h).1 in
    (not-true (gone a) both.0, not-true (gone b) both.1)

-- ---- the edges of the graph as it is

same_staying : (g : Graph) (u : ℕ) (d e : ℕ → Bool) → ((n : ℕ) → d n ≡ e n) → staying g u d ≡ staying g u e
same_staying g u d e h = kept_same g.edges (stays_at u d) (stays_at u e) (λ k on.
    ap (λ b. touches u k && (not b && not (d k.1))) (h k.0) ∙ ap (λ b. touches u k && (not (e k.0) && not b)) (h k.1))

-- one node more is gone, which isn't the node
module _ (g : Graph) (u w : ℕ) (d d2 : ℕ → Bool) (apart : u ≢ w) (free : d u ≡ false) (off : d w ≡ false) (more : (n : ℕ) → d2 n ≡ (d n || nat_eq n w)) where
  self : (n : ℕ) → nat_eq n n ≡ true
  self n = elim (eqb_tells n n) [ inl e ↦ e.0 | inr x ↦ absurd (x.1 refl) ]

  unlike : nat_eq u w ≡ false
  unlike = elim (eqb_tells u w) [ inl e ↦ absurd (apart e.1) | inr x ↦ x.0 ]

  unlike_back : nat_eq w u ≡ false
  unlike_back = elim (eqb_tells w u) [ inl e ↦ absurd (apart (sym e.1)) | inr x ↦ x.0 ]

  first : ℕ × ℕ
  first = (u, w)

  second : ℕ × ℕ
  second = (w, u)

  first_in : stays_at u d (u, w) ≡ true
  first_in = rw (self u, free, off) refl

  second_in : stays_at u d (w, u) ≡ true
  second_in = rw (self u, free, off, or-true (nat_eq w u)) refl

  gone_w : d2 w ≡ true
  gone_w = more w ∙ ap (λ b. d w || b) (self w) ∙ or-true (d w)

  first_out : stays_at u d2 (u, w) ≡ false
  first_out = ap (λ b. touches u (u, w) && (not (d2 u) && not b)) gone_w ∙ ap (λ b. touches u (u, w) && b) (and-false (not (d2 u))) ∙ and-false (touches u (u, w))

  second_out : stays_at u d2 (w, u) ≡ false
  second_out = ap (λ b. touches u (w, u) && (not b && not (d2 u))) gone_w ∙ and-false (touches u (w, u))

  back_apart : eq (w, u) (u, w) ≡ false
  back_apart = eq_pair w u u w ∙ ap (λ b. b && nat_eq u w) unlike_back

  -- an edge other than these two stays where it stayed
  others : (k : ℕ × ℕ) → eq k (u, w) ≡ false → eq k (w, u) ≡ false → stays_at u d k ≡ stays_at u d2 k
  others (a, b) fa fb = elim (cases_Bool (nat_eq a u || nat_eq b u)) [
    | inr none ↦ rw none refl
    | inl at ↦ (
        let pa = a_off at in
        let pb = b_off at in
        let ea : d2 a ≡ d a = more a ∙ ap (λ x. d a || x) pa ∙ or-false (d a) in
        let eb : d2 b ≡ d b = more b ∙ ap (λ x. d b || x) pb ∙ or-false (d b) in
        rw (ea, eb) refl)
  ]
    where
      a_off : (nat_eq a u || nat_eq b u) ≡ true → nat_eq a w ≡ false
      a_off at = elim (eqb_tells a w) [
        | inr x ↦ x.0
        | inl e ↦ elim (eqb_tells b u) [
          | inl f ↦ absurd (true≢false (sym (eq_pair a b w u ∙ ap (λ x. x && nat_eq b u) e.0 ∙ f.0) ∙ fb))
          | inr f ↦ absurd (true≢false (sym at ∙ ap (λ x. nat_eq a u || x) f.0 ∙ or-false (nat_eq a u) ∙ ap (λ m. nat_eq m u) e.1 ∙ unlike_back))
        ]
      ]

      b_off : (nat_eq a u || nat_eq b u) ≡ true → nat_eq b w ≡ false
      b_off at = elim (eqb_tells b w) [
        | inr x ↦ x.0
        | inl e ↦ elim (eqb_tells a u) [
          | inl f ↦ absurd (true≢false (sym (eq_pair a b u w ∙ ap (λ x. x && nat_eq b w) f.0 ∙ e.0) ∙ fa))
          | inr f ↦ absurd (true≢false (sym at ∙ ap (λ x. x || nat_eq b u) f.0 ∙ ap (λ m. nat_eq m u) e.1 ∙ unlike_back))
        ]
      ]

  pub one_gone : staying g u d2 + (one_for (has_edge g u w) + one_for (has_edge g w u)) ≡ staying g u d
  one_gone =
      let es = g.edges in
      let e1 = set.remove es (u, w) in
      let e2 = set.remove e1 (w, u) in
      let a = kept_gone es (stays_at u d) (u, w) in
      let b = kept_gone e1 (stays_at u d) (w, u) in
      let c = kept_gone es (stays_at u d2) (u, w) in
      let f = kept_gone e1 (stays_at u d2) (w, u) in
      let one : bit_of (set.contains es (u, w) && stays_at u d (u, w)) ≡ one_for (has_edge g u w) = ap (λ x. bit_of (set.contains es (u, w) && x)) first_in ∙ ap bit_of (and-true (set.contains es (u, w))) in
      let there : set.contains e1 (w, u) ≡ has_edge g w u = set.contains-remove edge_cmp_total es (u, w) (w, u) ∙ ap (λ x. not x && set.contains es (w, u)) back_apart in
      let two : bit_of (set.contains e1 (w, u) && stays_at u d (w, u)) ≡ one_for (has_edge g w u) = ap (λ x. bit_of (set.contains e1 (w, u) && x)) second_in ∙ ap bit_of (and-true (set.contains e1 (w, u)) ∙ there) in
      let none1 : bit_of (set.contains es (u, w) && stays_at u d2 (u, w)) ≡ 0 = ap (λ x. bit_of (set.contains es (u, w) && x)) first_out ∙ ap bit_of (and-false (set.contains es (u, w))) in
      let none2 : bit_of (set.contains e1 (w, u) && stays_at u d2 (w, u)) ≡ 0 = ap (λ x. bit_of (set.contains e1 (w, u) && x)) second_out ∙ ap bit_of (and-false (set.contains e1 (w, u))) in
      let same = kept_same e2 (stays_at u d) (stays_at u d2) (λ k on.
      let outer = and_parts (not (eq k (w, u))) (set.contains e1 k) (sym (set.contains-remove edge_cmp_total e1 (w, u) k) ∙ on) in
      let inner = and_parts (not (eq k (u, w))) (set.contains es k) (sym (set.contains-remove edge_cmp_total es (u, w) k) ∙ outer.1) in
      others k (not-true (eq k (u, w)) inner.0) (not-true (eq k (w, u)) outer.0)) in
      omega (arith, a, b, c, f, one, two, none1, none2, same)

-- one step more: the edges that stay
pub left_next : (ss : List Asked) (i : ℕ) (s : Asked) (g : Graph) (u count : ℕ) → i < length ss → s ≡ get_or ss i s → CanMakeAll (steps_of ss) g → IsTrue (is_live (after (steps_of ss) g) u)
    → (CanMake (step_of s) (after (steps_of (take i ss)) g)) → CanMakeAll (steps_of (take i ss)) g → is_dropped (steps_of (take i ss)) u ≡ false → is_dropped (steps_of (take (i + 1) ss)) u ≡ false
    → count ≡ staying g u (is_dropped (steps_of (take i ss))) → count - lost_by g u (step_of s) ≡ staying g u (is_dropped (steps_of (take (i + 1) ss)))
left_next ss i s g u count h e can live one prefix free free2 is = split s (λ n. gone_more ss i s n h e) one
  where
    d : ℕ → Bool
    d = is_dropped (steps_of (take i ss))

    d2 : ℕ → Bool
    d2 = is_dropped (steps_of (take (i + 1) ss))

    plain : (r : Step) → ((n : ℕ) → takes_away r n ≡ false) → ((n : ℕ) → d2 n ≡ (d n || takes_away r n)) → count - 0 ≡ staying g u d2
    plain r none more =
        let same = same_staying g u d2 d (λ n. more n ∙ ap (λ b. d n || b) (none n) ∙ or-false (d n)) in
        omega (arith, same, is)

    here : (w : ℕ) → u ≡ w → nat_eq u w ≡ true
    here w same = elim (eqb_tells u w) [ inl q ↦ q.0 | inr q ↦ absurd (q.1 same) ]

    split : (y : Asked) → ((n : ℕ) → d2 n ≡ (d n || takes_away (step_of y) n)) → CanMake (step_of y) (after (steps_of (take i ss)) g) → count - lost_by g u (step_of y) ≡ staying g u d2
    split (Node t) m c = plain (node t) (λ n. refl) m
    split (Link a b) m c = plain (link a b) (λ n. refl) m
    split (Unlink a b) m c = plain (unlink a b) (λ n. refl) m
    split (Relabel a t) m c = plain (relabel a t) (λ n. refl) m
    split (Drop w) m c =
        let apart : u ≢ w = λ same. true≢false (sym (m u ∙ ap (λ b. d u || b) (here w same) ∙ or-true (d u)) ∙ free2) in
        let off : d w ≡ false = live_not_gone (take i ss) g w prefix c in
        let law = one_gone g u w d d2 apart free off m in
        omega (arith, law, is)

-- ---- the edges whose ends all steps leave

-- one step more, where the node that it takes away is one that is gone in the end
pub staying_next : (s : Step) (h : Graph) (u : ℕ) (d : ℕ → Bool) → CanMake s h → ((n : ℕ) → takes_away s n ≡ true → d n ≡ true)
    → staying (made s h) u d + cut_by u d s ≡ staying h u d + gained_by h u d s
staying_next (node t) h u d can gone = omega arith
staying_next (relabel w t) h u d can gone = omega arith
staying_next (unlink a b) h u d can gone = (let law = kept_less h.edges (stays_at u d) (a, b) can.2 in omega (arith, law))
staying_next (link a b) h u d can gone = elim (cases_Bool (has_edge h a b)) [
  | inr off ↦ (
      let law = kept_more h.edges (stays_at u d) (a, b) off in
      let one : one_for (stays_at u d (a, b) && not (has_edge h a b)) ≡ one_for (stays_at u d (a, b)) = ap (λ x. one_for (stays_at u d (a, b) && not x)) off ∙ ap one_for (and-true (stays_at u d (a, b))) in
      omega (arith, law, one))
  | inl on ↦ (
      let none : one_for (stays_at u d (a, b) && not (has_edge h a b)) ≡ 0 = ap (λ x. one_for (stays_at u d (a, b) && not x)) on ∙ ap one_for (and-false (stays_at u d (a, b))) in
      let same = ap (λ es. set.len (set.retain es (stays_at u d))) (edges_same h.edges (a, b) on) in
      omega (arith, same, none))
]
staying_next (drop w) h u d can gone =
    let law = kept_twice h.edges (stays_at u d) (λ e. not (touches w e)) off in
    omega (arith, law)
  where
    here : nat_eq w w ≡ true
    here = elim (eqb_tells w w) [ inl e ↦ e.0 | inr x ↦ absurd (x.1 refl) ]

    no : (n : ℕ) → d n ≡ false → nat_eq n w ≡ false
    no n off = elim (eqb_tells n w) [
      | inr x ↦ x.0
      | inl e ↦ absurd (true≢false (sym (ap d e.1 ∙ gone w here) ∙ off))
    ]

    off : (k : ℕ × ℕ) → stays_at u d k ≡ true → not (touches w k) ≡ true
    off (a, b) h =
        let both = counted_stay u d a b h in
        rw (no a both.0, no b both.1) refl

-- in the end all edges at the node stay, since their ends are live
pub staying_all : (ss : List Asked) (g : Graph) (u : ℕ) → IsGraph g → CanMakeAll (steps_of ss) g → staying (after (steps_of ss) g) u (is_dropped (steps_of ss)) ≡ touching (after (steps_of ss) g) u
staying_all ss g u graph can = kept_same (after (steps_of ss) g).edges (stays_at u (is_dropped (steps_of ss))) (touches u) same
  where
    last : IsGraph (after (steps_of ss) g)
    last = graph_all (steps_of ss) g can graph

    same : (k : ℕ × ℕ) → set.contains (after (steps_of ss) g).edges k ≡ true → stays_at u (is_dropped (steps_of ss)) k ≡ touches u k
    same (a, b) on =
        let fa = live_not_gone ss g a can (last.from a b on) in
        let fb = live_not_gone ss g b can (last.onto a b on) in
        rw (fa, fb) (and-true (touches u (a, b)))

-- a node that a step takes away is gone in the end
pub gone_within : (ss : List Asked) (i : ℕ) (s : Asked) → i < length ss → s ≡ get_or ss i s → (n : ℕ) → takes_away (step_of s) n ≡ true → is_dropped (steps_of ss) n ≡ true
gone_within [] i s h e n t = absurd (omega (arith, h))
gone_within (x ∷ xs) zero s h e n t = ap (λ b. b || is_dropped (steps_of xs) n) (ap (λ y. takes_away (step_of y) n) (sym e) ∙ t)
gone_within (x ∷ xs) (suc i) s h e n t = ap (λ b. takes_away (step_of x) n || b) (gone_within xs i s (omega (arith, h)) e n t) ∙ or-true (takes_away (step_of x) n)

-- what isn't gone in the end isn't gone before
pub prefix_not_gone : (ss : List Asked) (i n : ℕ) → is_dropped (steps_of ss) n ≡ false → is_dropped (steps_of (take i ss)) n ≡ false
prefix_not_gone [] zero n h = refl
prefix_not_gone [] (suc i) n h = refl
prefix_not_gone (x ∷ xs) zero n h = refl
prefix_not_gone (x ∷ xs) (suc i) n h =
    let both = or_parts (takes_away (step_of x) n) (is_dropped (steps_of xs) n) h in
    rw both.0 (prefix_not_gone xs i n both.1)

-- each step adds one edge at most
edges_grow : (s : Step) (g : Graph) → set.len (made s g).edges ≤ set.len g.edges + 1
edges_grow (node t) g = omega arith
edges_grow (link u v) g = (let e = set.len-insert edge_cmp_total g.edges (u, v) in elim (cases_Bool (set.contains g.edges (u, v))) [
  | inl on ↦ (let f = e ∙ ap (λ b. cond b (set.len g.edges) (set.len g.edges + 1)) on in omega (arith, f))
  | inr off ↦ (let f = e ∙ ap (λ b. cond b (set.len g.edges) (set.len g.edges + 1)) off in omega (arith, f))
])
edges_grow (unlink u v) g = (let e = set.len-remove edge_cmp_total g.edges (u, v) in elim (cases_Bool (set.contains g.edges (u, v))) [
  | inl on ↦ (let f = e ∙ ap (λ b. cond b (set.len g.edges - 1) (set.len g.edges)) on in omega (arith, f))
  | inr off ↦ (let f = e ∙ ap (λ b. cond b (set.len g.edges - 1) (set.len g.edges)) off in omega (arith, f))
])
edges_grow (drop u) g = (let k = kept_len g.edges (λ e. not (touches u e)) in omega (arith, k))
edges_grow (relabel u t) g = omega arith

edges_few : (ss : List Asked) (i : ℕ) (g : Graph) → i ≤ length ss → set.len (after (steps_of (take i ss)) g).edges ≤ set.len g.edges + i
edges_few [] zero g h = omega arith
edges_few [] (suc i) g h = absurd (omega (arith, h))
edges_few (x ∷ xs) zero g h = omega arith
edges_few (x ∷ xs) (suc i) g h =
    let r = edges_few xs i (made (step_of x) g) (omega (arith, h)) in
    let k = edges_grow (step_of x) g in
    omega (arith, r, k)

pub staying_few : (ss : List Asked) (i : ℕ) (g : Graph) (u : ℕ) (d : ℕ → Bool) → i ≤ length ss → staying (after (steps_of (take i ss)) g) u d ≤ set.len g.edges + i
staying_few ss i g u d h =
    let a = kept_len (after (steps_of (take i ss)) g).edges (stays_at u d) in
    let b = edges_few ss i g h in
    omega (arith, a, b)

-- The nodes at which a change may leave a partition unstable, by its effects.
use Rattle.std.proofs.Common.{◌≡◌, ℕ, ◌<◌, List, [], ◌∷◌, ◌++◌, Option, Some, None, IsTrue, refl, sym, ◌∙◌, ap, arith, inl, inr, true, false, Bool, true≢false}
use Rattle.std.specs.Prelude.{nat_eq, ◌&&◌, ◌||◌, not}
use Rattle.std.specs.List.{IsDistinct}
use Rattle.std.proofs.lemmas.Bool.{cases_Bool, or_cases, or_left, or_right, and_parts, and_from, both_ways, not-true}
use Rattle.std.proofs.lemmas.Bool.Decides.{Decides-ltb, Decides-eqb}
use Rattle.std.proofs.lemmas.List.{append_assoc}
use Rattle.std.proofs.lemmas.List.Folds.{list_any-append}
use Rattle.graph_spec.specs.Graphs.{Graph, IsGraph, is_live, has_edge}
use Rattle.graph_spec.specs.Members.{at, has}
use Rattle.graph_spec.proofs.GraphLaws.{is_shape}
use Rattle.change_spec.specs.Steps.{Step, after}
use Rattle.change_spec.specs.Altered.{targets}
use Rattle.bisim_spec.specs.declared.sides.Side.TheVariants.{Parents}
use Rattle.bisim_spec.specs.IndexGraphs.{SupportTable, support_at}
use Rattle.bisim_spec.specs.Fits.{FitsOne}
use Rattle.bisim_spec.proofs.EdgeSupports.{support_adjacent}
use Rattle.graph_effects.specs.Effects.{EffectLists, AreEffects, has_pair, same_pair}
use Rattle.graph_effects.specs.StepEffects.{node_if, live_ends}
use Rattle.graph_effects.proofs.EffectLaws.{was_live, label_kept}
use Rattle.graph_effects.proofs.StepEffects.{ends_there, ends_from}
use Rattle.quotient.specs.Quotients.{Quotient, view_of}
use Rattle.one_update.specs.UnsteadyNodes.{AreUnsteady, AreUnkept, AreUnsteadyBy, is_unlisted, supports_block, supports_edge, unsupported_ends, unsteady_nodes}
use Rattle.one_update.proofs.SameParents.{keep_parents, self_together}

if_has : (b : Bool) (m n : ℕ) → has (node_if b m) n ≡ (b && nat_eq n m)
if_has true m n = or_off (nat_eq n m)
  where
    or_off : (t : Bool) → (t || false) ≡ t
    or_off true = refl
    or_off false = refl
if_has false m n = refl

-- ---- ends of edges between blocks without support

unsupported_has : (q : Quotient) (e : ℕ × ℕ) (es : List (ℕ × ℕ)) (n : ℕ) → has (unsupported_ends q (e ∷ es)) n ≡ ((not (supports_edge q e.0 e.1) && nat_eq n e.1) || has (unsupported_ends q es) n)
unsupported_has q e es n =
    list_any-append (nat_eq n) (node_if (not (supports_edge q e.0 e.1)) e.1) (unsupported_ends q es)
    ∙ ap (λ b. b || has (unsupported_ends q es) n) (if_has (not (supports_edge q e.0 e.1)) e.1 n)

-- such an end is that of an edge of the list
pub unsupported_from : (q : Quotient) (es : List (ℕ × ℕ)) (n : ℕ) → has (unsupported_ends q es) n ≡ true → (u : ℕ) × (has_pair es u n ≡ true)
unsupported_from q [] n h = absurd (true≢false (sym h))
unsupported_from q (e ∷ es) n h = elim (or_cases (not (supports_edge q e.0 e.1) && nat_eq n e.1) (has (unsupported_ends q es) n) (sym (unsupported_has q e es n) ∙ h)) [
  | inl here ↦ (
      let both = and_parts (not (supports_edge q e.0 e.1)) (nat_eq n e.1) here in
      (e.0, or_left (same_pair (e.0, n) e) (has_pair es e.0 n) (and_from (nat_eq e.0 e.0) (nat_eq n e.1) ((Decides-eqb e.0 e.0).1 refl) both.1)))
  | inr there ↦ (let r = unsupported_from q es n there in (r.0, or_right (same_pair (r.0, n) e) (has_pair es r.0 n) r.1))
]

-- and where the end of an edge is none, its blocks have support
pub unsupported_off : (q : Quotient) (es : List (ℕ × ℕ)) (u n : ℕ) → has_pair es u n ≡ true → has (unsupported_ends q es) n ≡ false → supports_edge q u n ≡ true
unsupported_off q [] u n h off = absurd (true≢false (sym h))
unsupported_off q (e ∷ es) u n h off = elim (cases_Bool (supports_edge q u n)) [
  | inl on ↦ on
  | inr none ↦ elim (or_cases (same_pair (u, n) e) (has_pair es u n) h) [
    | inl here ↦ (
        let both = and_parts (nat_eq u e.0) (nat_eq n e.1) here in
        let first = (Decides-eqb u e.0).0 both.0 in
        let second = (Decides-eqb n e.1).0 both.1 in
        let lacks : not (supports_edge q e.0 e.1) ≡ true = ap (λ x. not (supports_edge q x e.1)) (sym first) ∙ ap (λ y. not (supports_edge q u y)) (sym second) ∙ ap not none in
        absurd (both_ways (has (unsupported_ends q (e ∷ es)) n) off
        (unsupported_has q e es n ∙ or_left (not (supports_edge q e.0 e.1) && nat_eq n e.1) (has (unsupported_ends q es) n) (and_from (not (supports_edge q e.0 e.1)) (nat_eq n e.1) lacks both.1))))
    | inr there ↦ unsupported_off q es u n there (off_rest (not (supports_edge q e.0 e.1) && nat_eq n e.1) (has (unsupported_ends q es) n) (sym (unsupported_has q e es n) ∙ off))
  ]
]
  where
    off_rest : (a b : Bool) → (a || b) ≡ false → b ≡ false
    off_rest true b k = absurd (true≢false k)
    off_rest false b k = k

-- one step of the loop that notes these ends
pub unsupported_next : (q : Quotient) (e : ℕ × ℕ) (es left : List (ℕ × ℕ)) (b : Bool) (xs ys whole : List ℕ) → left ≡ e ∷ es → xs ++ unsupported_ends q left ≡ whole
    → b ≡ supports_edge q e.0 e.1 → ys ≡ xs ++ node_if (not b) e.1 → ys ++ unsupported_ends q es ≡ whole
unsupported_next q e es left b xs ys whole cut h is k =
    ap (λ zs. zs ++ unsupported_ends q es) (k ∙ ap (λ t. xs ++ node_if (not t) e.1) is)
    ∙ append_assoc xs (node_if (not (supports_edge q e.0 e.1)) e.1) (unsupported_ends q es) ∙ ap (λ zs. xs ++ unsupported_ends q zs) (sym cut) ∙ h

-- ---- the nodes that are listed

lists_has : (q : Quotient) (g2 : Graph) (e : EffectLists) (left : List (ℕ × ℕ)) (n : ℕ)
    → has (unsteady_nodes q g2 e left) n ≡ (((has e.came n || has e.relabelled n) || has (live_ends Parents g2 left) n) || has (unsupported_ends q e.added) n)
lists_has q g2 e left n =
    list_any-append (nat_eq n) ((e.came ++ e.relabelled) ++ live_ends Parents g2 left) (unsupported_ends q e.added)
    ∙ ap (λ b. b || has (unsupported_ends q e.added) n) (list_any-append (nat_eq n) (e.came ++ e.relabelled) (live_ends Parents g2 left))
    ∙ ap (λ b. (b || has (live_ends Parents g2 left) n) || has (unsupported_ends q e.added) n) (list_any-append (nat_eq n) e.came e.relabelled)

-- each is a target of the effects
listed_target : (g g2 : Graph) (q : Quotient) (e : EffectLists) (left : List (ℕ × ℕ)) (n : ℕ) → AreEffects g g2 e → AreUnkept g2 q.blocks.block_of e.lost left → has (unsteady_nodes q g2 e left) n ≡ true → IsTrue (has e.targets n)
listed_target g g2 q e left n w unkept h = elim (or_cases ((has e.came n || has e.relabelled n) || has (live_ends Parents g2 left) n) (has (unsupported_ends q e.added) n) (sym (lists_has q g2 e left n) ∙ h)) [
  | inl front ↦ elim (or_cases (has e.came n || has e.relabelled n) (has (live_ends Parents g2 left) n) front) [
    | inl nodes ↦ elim (or_cases (has e.came n) (has e.relabelled n) nodes) [ inl came ↦ w.target_came n came | inr other ↦ w.target_relabelled n other ]
    | inr lost ↦ (let r = ends_from Parents g2 left n lost in w.target_lost r.1.0 n (unkept.among r.1.0 n r.1.1) r.0)
  ]
  | inr added ↦ (let r = unsupported_from q e.added n added in w.target_added r.0 n r.1)
]

-- what a node that isn't listed isn't
record IsNone (q : Quotient) (g2 : Graph) (e : EffectLists) (left : List (ℕ × ℕ)) (n : ℕ) : Type 0 where
  pub came : has e.came n ≡ false
  pub relabelled : has e.relabelled n ≡ false
  pub lost : has (live_ends Parents g2 left) n ≡ false
  pub added : has (unsupported_ends q e.added) n ≡ false

none_of : (q : Quotient) (g2 : Graph) (e : EffectLists) (left : List (ℕ × ℕ)) (n : ℕ) → has (unsteady_nodes q g2 e left) n ≡ false → IsNone q g2 e left n
none_of q g2 e left n h =
    let all = parts ((has e.came n || has e.relabelled n) || has (live_ends Parents g2 left) n) (has (unsupported_ends q e.added) n) (sym (lists_has q g2 e left n) ∙ h) in
    let front = parts (has e.came n || has e.relabelled n) (has (live_ends Parents g2 left) n) all.0 in
    let nodes = parts (has e.came n) (has e.relabelled n) front.0 in
    record { came = nodes.0; relabelled = nodes.1; lost = front.1; added = all.1 }
  where
    parts : (a b : Bool) → (a || b) ≡ false → (a ≡ false) × (b ≡ false)
    parts true b k = absurd (true≢false k)
    parts false b k = (refl, k)

supported_blocks : (t : SupportTable) (o o2 : Option ℕ) → supports_block t o o2 ≡ true → (a b : ℕ) × (o ≡ Some a) × (o2 ≡ Some b) × (0 < support_at t a b)
supported_blocks t None o2 h = absurd (true≢false (sym h))
supported_blocks t (Some a) None h = absurd (true≢false (sym h))
supported_blocks t (Some a) (Some b) h = (a, b, refl, refl, (Decides-ltb 0 (support_at t a b)).0 h)

new_from : (a b : Bool) → a ≡ true → b ≡ false → (a && not b) ≡ true
new_from true false h k = refl
new_from true true h k = absurd (true≢false k)
new_from false b h k = absurd (true≢false (sym h))

pub unsteady_found : (g : Graph) (c : List Step) (q : Quotient) (e : EffectLists) (list : List ℕ) → IsGraph g → FitsOne g (view_of q) → AreEffects g (after c g) e
    → ((n : ℕ) → IsTrue (has e.targets n) → IsTrue (targets c g n)) → IsDistinct nat_eq list → AreUnsteadyBy q (after c g) e list
    → AreUnsteady g c q.blocks.block_of list
unsteady_found g c q e list graph fits w among once by = record {
  once = once;
  among = λ n h. among n (listed_target g (after c g) q e by.left n w by.unkept (sym (by.same n) ∙ h));
  labels = λ n h. (let k = unlisted n h in sym (label_kept g (after c g) e n w (was_live g (after c g) e n w k.0 k.1.came) k.0 k.1.relabelled));
  parents = keep_parents g (after c g) q.blocks.block_of (is_unlisted (after c g) list) graph fits.index.stable
      (λ x y h was. elim (cases_Bool (has_edge (after c g) x y)) [
        | inl stays ↦ (x, stays, self_together g q.blocks.block_of x fits.index.stable ((is_shape g graph).from x y was))
        | inr goes ↦ (
            let k = unlisted y h in
            let lost : has_pair e.lost x y ≡ true = w.lost.members x y ∙ new_from (has_edge g x y) (has_edge (after c g) x y) was goes in
            elim (by.unkept.others x y lost k.0) [
              | inl there ↦ absurd (both_ways (has (live_ends Parents (after c g) by.left) y) k.1.lost (ends_there Parents (after c g) by.left x y there k.0))
              | inr keeps ↦ keeps
            ])
      ])
      (λ x y h is new.
      let k = unlisted y h in
      let added : has_pair e.added x y ≡ true = w.added.members x y ∙ new_from (has_edge (after c g) x y) (has_edge g x y) is new in
      let (a, b, hx, hy, some) = supported_blocks q.supports (at q.blocks.block_of x) (at q.blocks.block_of y) (unsupported_off q e.added x y added k.1.added) in
      let base = fits.view.supports a b in
      (a, b, hx, hy, support_adjacent g q.blocks.block_of a b (omega (arith, some, base))));
}
  where
    unlisted : (n : ℕ) → IsTrue (is_unlisted (after c g) list n) → IsTrue (is_live (after c g) n) × IsNone q (after c g) e by.left n
    unlisted n h =
        let both = and_parts (is_live (after c g) n) (not (has list n)) h in
        (both.0, none_of q (after c g) e by.left n (sym (by.same n) ∙ not-true (has list n) both.1))

-- A change, then a split, then merges: how the partition of the 1-index moves.
use Rattle.std.proofs.Common.{◌≡◌, ℕ, ◌⊎◌, List, [], Option, Some, None, IsTrue, IsFalse, refl, sym, ◌∙◌, ap, inl, inr, true, false, Bool}
use Rattle.std.specs.Prelude.{◌&&◌, not}
use Rattle.std.proofs.lemmas.Bool.{cases_Bool, and_parts, and_from, both_ways, not-true, not_from_false, false_from_ne_true}
use Rattle.graph_spec.specs.Graphs.{Graph}
use Rattle.graph_spec.specs.Members.{has, at}
use Rattle.graph_spec.specs.Shapes.{Shape, IsNode, IsShape, shape_of}
use Rattle.bisim_spec.specs.Partitions.{IsPartition}
use Rattle.bisim_spec.specs.Stability.{Stable, Minimal}
use Rattle.bisim_spec.specs.Reach.{reach}
use Rattle.bisim_spec.proofs.Bisimilar.{is_some_at}
use Rattle.bisim_spec.proofs.Ranks.{acyclic_full}
use Rattle.bisim_spec.proofs.Reached.{reach_step}
use Rattle.bisim_spec.proofs.Together.{together_sym, together_some}
use Rattle.bisim_spec.proofs.Outside.{DiffersAt, SameOutside, IsOut, off_target, outside_reach}
use Rattle.bisim_spec.specs.KeptBlocks.{KeepsBlocks}
use Rattle.one_spec.specs.Merges.{Merges, AreMergeCandidates}
use Rattle.bisim_spec.proofs.Changed.{live_before}
use Rattle.one_spec.proofs.MergedPairs.{merges_stable, outside_merges}
use Rattle.one_spec.proofs.SplitRounds.{stable_at_end}
use Rattle.one_spec.proofs.MergeCandidates.{unmarked_candidates}
use Rattle.one_spec.proofs.Unmoved.{IsFiner, IsUnmoved, none_unmoved}
use Rattle.one_spec.specs.Splits.{IsClosed, IsSplitInside}
use Rattle.change_spec.specs.Steps.{Step, after}
use Rattle.change_spec.specs.Altered.{targets}
use Rattle.change_spec.specs.NextOne.{KeepsParents, OneStep}
use Rattle.change_spec.proofs.MoreTargets.{reach_wider}

-- what is reached is closed under children
pub reach_closed : (s : Shape) (from : ℕ → Bool) → IsShape s → IsClosed s (reach s from)
reach_closed s from shape = record { children = λ p n h e. reach_step s shape from p n h e }

-- what more nodes don't reach, fewer don't
pub out_of_fewer : (s : Shape) (from from2 : ℕ → Bool) (n : ℕ) → IsShape s → ((m : ℕ) → from m ≡ true → from2 m ≡ true) → IsFalse (reach s from2 n) → IsFalse (reach s from n)
out_of_fewer s from from2 n shape more off = false_from_ne_true (reach s from n) (λ h. both_ways (reach s from2 n) off (reach_wider s shape from from2 more n h))

-- A partition before a change, the same for the nodes that there are after it, and that once it is split.
pub record Stages (from : ℕ → Bool) (s s2 : Shape) (p p1 p2 : List (Option ℕ)) (new_blocks : List ℕ) : Type 0 where
  pub shape : IsShape s
  pub shape2 : IsShape s2
  pub differs : DiffersAt from s s2
  pub stable : Stable s p
  pub minimal : Minimal s p
  pub partition : IsPartition s2 p1
  pub keeps : KeepsBlocks s s2 p p1
  pub split : IsSplitInside s2 (reach s2 from) p1 p2 [] new_blocks

pub split_stable : (from : ℕ → Bool) (s s2 : Shape) (p p1 p2 : List (Option ℕ)) (new_blocks : List ℕ) → Stages from s s2 p p1 p2 new_blocks → Stable s2 p2
split_stable from s s2 p p1 p2 new_blocks g = stable_at_end s2 p2 (has []) (λ n. refl) g.split.stable

same_block : (from : ℕ → Bool) (s s2 : Shape) (p p1 p2 : List (Option ℕ)) (new_blocks : List ℕ) → Stages from s s2 p p1 p2 new_blocks
    → (n : ℕ) → from n ≡ false → IsNode s2 n → at p1 n ≡ at p n
same_block from s s2 p p1 p2 new_blocks g n off node = g.keeps.kept n (live_before from s s2 g.differs n off node) node

-- out of reach nodes are together as before
pub split_outside : (from : ℕ → Bool) (s s2 : Shape) (p p1 p2 : List (Option ℕ)) (new_blocks : List ℕ) → Stages from s s2 p p1 p2 new_blocks
    → SameOutside p p2 (IsOut s2 from)
split_outside from s s2 p p1 p2 new_blocks g = record {
  into = λ x y ox oy t. g.split.same.into x y ox.1 oy.1 (t.0, same x ox ∙ t.1, same y oy ∙ t.2);
  back = λ x y ox oy t. (let k = g.split.same.back x y ox.1 oy.1 t in (k.0, sym (same x ox) ∙ k.1, sym (same y oy) ∙ k.2));
}
  where
    same : (n : ℕ) → IsOut s2 from n → at p1 n ≡ at p n
    same n o = same_block from s s2 p p1 p2 new_blocks g n (off_target s2 from n o.1) o.0

-- nodes that are together once it is split were together before
pub split_finer : (from : ℕ → Bool) (s s2 : Shape) (p p1 p2 : List (Option ℕ)) (new_blocks : List ℕ) → Stages from s s2 p p1 p2 new_blocks → IsFiner s p p2
split_finer from s s2 p p1 p2 new_blocks g = record {
  within = λ u v nu nv t.
      let k = g.split.within.within u v t in
      let lu = g.partition.only u (together_some p1 u v k) in
      let lv = g.partition.only v (together_some p1 v u (together_sym p1 u v k)) in
      (k.0, sym (g.keeps.kept u nu lu) ∙ k.1, sym (g.keeps.kept v nv lv) ∙ k.2);
}

-- whether the node's block was not made
abbrev not_new : List ℕ → Option ℕ → Bool
not_new new_blocks None = false
not_new new_blocks (Some b) = not (has new_blocks b)

-- no target, and in a block that was not made
abbrev is_still : (ℕ → Bool) → List (Option ℕ) → List ℕ → ℕ → Bool
is_still from p2 new_blocks n = not (from n) && not_new new_blocks (at p2 n)

-- After a split the blocks that were made, and those of the targets, are the merge candidates.
pub split_candidates : (from : ℕ → Bool) (s s2 : Shape) (p p1 p2 : List (Option ℕ)) (new_blocks : List ℕ) → Stages from s s2 p p1 p2 new_blocks
    → AreMergeCandidates s2 p2 (λ b. IsTrue (has new_blocks b) ⊎ ((t : ℕ) × IsTrue (from t) × (at p2 t ≡ Some b)))
split_candidates from s s2 p p1 p2 new_blocks g = record {
  one = λ a b can. elim (unmarked.one a b can) [
    | inl h ↦ inl (why a can.first.0 can.first.1 (h can.first.0 can.first.1))
    | inr h ↦ inr (why b can.second.0 can.second.1 (h can.second.0 can.second.1))
  ];
}
  where
    unmoved : (n a : ℕ) → is_still from p2 new_blocks n ≡ true → at p2 n ≡ Some a → IsUnmoved from s2 p p2 n
    unmoved n a h e =
        let f = and_parts (not (from n)) (not_new new_blocks (at p2 n)) h in
        let off : from n ≡ false = not-true (from n) f.0 in
        let free : has new_blocks a ≡ false = not-true (has new_blocks a) (sym (ap (not_new new_blocks) e) ∙ f.1) in
        let node : IsNode s2 n = g.split.stable.partition.only n (is_some_at (at p2 n) a e) in
        elim (g.split.moved_new n a e) [
          | inl there ↦ absurd (both_ways (has new_blocks a) free there)
          | inr was ↦ record {
            node = node;
            off = off;
            same = e ∙ sym was ∙ same_block from s s2 p p1 p2 new_blocks g n off node;
          }
        ]

    unmarked : AreMergeCandidates s2 p2 (λ b. (n : ℕ) → at p2 n ≡ Some b → is_still from p2 new_blocks n ≡ false)
    unmarked =
        unmarked_candidates s2 p2 (is_still from p2 new_blocks) g.shape2 g.split.stable.partition (λ x y a b mx my hx hy ne can.
        none_unmoved from s s2 p p2 g.shape g.differs (split_finer from s s2 p p1 p2 new_blocks g) g.stable g.minimal x y a b (unmoved x a mx hx) (unmoved y b my hy) hx hy ne can)

    why : (b n : ℕ) → at p2 n ≡ Some b → is_still from p2 new_blocks n ≡ false → IsTrue (has new_blocks b) ⊎ ((t : ℕ) × IsTrue (from t) × (at p2 t ≡ Some b))
    why b n e h = elim (cases_Bool (from n)) [
      | inl on ↦ inr (n, on, e)
      | inr off ↦ elim (cases_Bool (has new_blocks b)) [
        | inl there ↦ inl there
        | inr free ↦ absurd (both_ways (is_still from p2 new_blocks n) h
            (and_from (not (from n)) (not_new new_blocks (at p2 n)) (not_from_false (from n) off) (ap (not_new new_blocks) e ∙ not_from_false (has new_blocks b) free)))
      ]
    ]

-- The next partition, after a change of which it isn't known that it keeps the parent blocks of its target. The stages may be those
-- from fewer nodes than the targets, where the graphs differ at these alone.
pub one_step_from : (c : List Step) (g : Graph) (from : ℕ → Bool) (p p1 p2 p3 : List (Option ℕ)) (new_blocks : List ℕ) → ((n : ℕ) → from n ≡ true → targets c g n ≡ true)
    → Stages from (shape_of g) (shape_of (after c g)) p p1 p2 new_blocks
    → Merges (shape_of (after c g)) p2 p3 → Minimal (shape_of (after c g)) p3 → (KeepsParents c (after c g) p → ⊥) → OneStep g p c (after c g) p3
one_step_from c g from p p1 p2 p3 new_blocks few stages merges min changes =
    let s = shape_of g in
    let s2 = shape_of (after c g) in
    let stable = merges_stable s2 p2 p3 merges (split_stable from s s2 p p1 p2 new_blocks stages) in
    let outside = outside_merges s s2 (IsOut s2 from) p p2 p3 (outside_reach from s s2 stages.shape2 stages.differs)
    (split_outside from s s2 p p1 p2 new_blocks stages) stages.stable stages.minimal merges in
    record {
      made = refl;
      index = record { stable = stable; minimal = min; whole = λ acyclic. acyclic_full s2 p3 stages.shape2 acyclic stable min };
      outside = λ u v nu nv mu mv ou ov. (
          let a = out u ou in
          let b = out v ov in
          (outside.back u v (mu, a) (mv, b), outside.into u v (mu, a) (mv, b)));
      still = λ keeps. absurd (changes keeps);
    }
  where
    out : (n : ℕ) → IsFalse (reach (shape_of (after c g)) (targets c g) n) → IsFalse (reach (shape_of (after c g)) from n)
    out n off = out_of_fewer (shape_of (after c g)) from (targets c g) n stages.shape2 few off

-- Moving groups of nodes to blocks of their own makes a round.
use Rattle.std.proofs.Common.{◌≡◌, ℕ, List, Option, Some, None, IsTrue, IsFalse, refl, sym, ◌∙◌, ap, false, Bool, inl, inr, true≢false}
use Rattle.std.specs.Prelude.{is_some}
use Rattle.std.proofs.lemmas.Bool.{cases_Bool, both_ways}
use Rattle.graph_spec.specs.Members.{at}
use Rattle.graph_spec.specs.Shapes.{Shape, IsNode, IsParent}
use Rattle.bisim_spec.specs.Partitions.{Together, IsPartition}
use Rattle.bisim_spec.specs.Stability.{StableBut}
use Rattle.bisim_spec.proofs.Bisimilar.{none_or_some, is_some_at}
use Rattle.bisim_spec.proofs.Together.{together_sym}
use Rattle.one_spec.specs.SplitRoundSteps.{MayStayTogether, IsSplitRound, IsRefinement, AreTargetBlocks}

abbrev pub is_moved : (ℕ → Option ℕ) → ℕ → Bool
is_moved target_block n = is_some (target_block n)

none_of : (o : Option ℕ) → is_some o ≡ false → o ≡ None
none_of None h = refl
none_of (Some x) h = absurd (true≢false h)

-- where two nodes that are together came from
data Came (s : Shape) (p : List (Option ℕ)) (looked : ℕ → Bool) (u v : ℕ) : Type 0 where
  grouped : Together p u v → MayStayTogether s p u v → Came s p looked u v
  rested : Together p u v → IsFalse (looked u) → IsFalse (looked v) → Came s p looked u v

came : (s : Shape) (p p2 : List (Option ℕ)) (looked : ℕ → Bool) (group : ℕ → ℕ) (target_block : ℕ → Option ℕ) → AreTargetBlocks s p p2 looked group target_block
    → (u v : ℕ) → Together p2 u v → Came s p looked u v
came s p p2 looked group target_block g u v (b, bu, bv) = elim (none_or_some (target_block u)) [
  | inr (c, cu) ↦ elim (none_or_some (target_block v)) [
    | inr (d, dv) ↦ (
        let e : Some d ≡ Some c = sym (g.moved v d dv) ∙ bv ∙ sym bu ∙ g.moved u c cu in
        let same = g.tells u v c cu (dv ∙ e) in
        grouped (g.together u v (g.only u c cu) (g.only v d dv) same) (g.alike u v (g.only u c cu) (g.only v d dv) same))
    | inl nv ↦ absurd (g.fresh u v c cu (sym (g.kept v nv) ∙ bv ∙ sym bu ∙ g.moved u c cu))
  ]
  | inl nu ↦ elim (none_or_some (target_block v)) [
    | inr (d, dv) ↦ absurd (g.fresh v u d dv (sym (g.kept u nu) ∙ bu ∙ sym bv ∙ g.moved v d dv))
    | inl nv ↦ (
        let t : Together p u v = (b, sym (g.kept u nu) ∙ bu, sym (g.kept v nv) ∙ bv) in
        elim (cases_Bool (looked u)) [
          | inl lu ↦ (
              let lv = g.whole u v lu nu t in
              let same = g.one u v lu lv nu nv t in
              grouped t (g.alike u v lu lv same))
          | inr fu ↦ elim (cases_Bool (looked v)) [
            | inl lv ↦ absurd (both_ways (looked u) fu (g.whole v u lv nv (together_sym p u v t)))
            | inr fv ↦ rested t fu fv
          ]
        ])
  ]
]

pub target_blocks_within : (s : Shape) (p p2 : List (Option ℕ)) (looked : ℕ → Bool) (group : ℕ → ℕ) (target_block : ℕ → Option ℕ) → AreTargetBlocks s p p2 looked group target_block → IsRefinement p p2
target_blocks_within s p p2 looked group target_block g = record { within = λ u v t. elim (came s p p2 looked group target_block g u v t) [ grouped k a ↦ k | rested k fu fv ↦ k ] }

-- a round, where the partition was stable but maybe at the nodes that are looked at
pub target_blocks_round : (s : Shape) (p p2 : List (Option ℕ)) (looked : ℕ → Bool) (group : ℕ → ℕ) (target_block : ℕ → Option ℕ) (next : ℕ → Bool) → StableBut s p looked
    → AreTargetBlocks s p p2 looked group target_block → ((q n : ℕ) → IsTrue (is_moved target_block q) → IsParent s q n → IsTrue (next n)) → IsSplitRound s p p2 (is_moved target_block) next
target_blocks_round s p p2 looked group target_block next st g children = record {
  kept = λ n h. g.kept n (none_of (target_block n) h);
  parted = λ u v t. elim (came s p p2 looked group target_block g u v t) [
    | grouped k a ↦ a
    | rested k fu fv ↦ record { label = st.label u v fu fv k; parents = st.parents u v fu fv k }
  ];
  listed = children;
}

-- nodes have blocks as before
pub target_blocks_partition : (s : Shape) (p p2 : List (Option ℕ)) (looked : ℕ → Bool) (group : ℕ → ℕ) (target_block : ℕ → Option ℕ) → AreTargetBlocks s p p2 looked group target_block
    → ((n : ℕ) → IsTrue (looked n) → IsNode s n) → IsPartition s p → IsPartition s p2
target_blocks_partition s p p2 looked group target_block g nodes partition = record {
  live = λ n h. elim (none_or_some (target_block n)) [
    | inl none ↦ ap is_some (g.kept n none) ∙ partition.live n h
    | inr (b, some) ↦ is_some_at (at p2 n) b (g.moved n b some)
  ];
  only = λ n h. elim (none_or_some (target_block n)) [
    | inl none ↦ partition.only n (sym (ap is_some (g.kept n none)) ∙ h)
    | inr (b, some) ↦ nodes n (g.only n b some)
  ];
}

-- a block with members has some still
pub target_blocks_left : (s : Shape) (p p2 : List (Option ℕ)) (looked : ℕ → Bool) (group : ℕ → ℕ) (target_block : ℕ → Option ℕ) → AreTargetBlocks s p p2 looked group target_block
    → (n b : ℕ) → at p n ≡ Some b → (m : ℕ) × Together p n m × (at p2 m ≡ Some b)
target_blocks_left s p p2 looked group target_block g n b e = elim (none_or_some (target_block n)) [
  | inl none ↦ (n, (b, e, e), g.kept n none ∙ e)
  | inr (c, some) ↦ (
      let m = g.left n c some in
      let t = m.1 in
      let f = t.1 in
      let h = t.2 in
      let at : at p m.0 ≡ Some b = cc in
      (m.0, t, g.kept m.0 m.2 ∙ at))
]

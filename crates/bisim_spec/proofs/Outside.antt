-- What a change leaves as it was: the nodes that aren't reached from its targets.
use Rattle.std.proofs.Common.{◌≡◌, ◌≢◌, ℕ, List, Option, Some, IsFalse, Bool, sym, ap, ◌∙◌, inl, inr}
use Rattle.std.proofs.lemmas.Bool.{false_from_ne_true, both_ways}
use Rattle.graph_spec.specs.Shapes.{Shape, IsNode, IsParent, IsShape}
use Rattle.graph_spec.specs.Members.{at}
use Rattle.bisim_spec.specs.Partitions.{Together}
use Rattle.bisim_spec.specs.Stability.{Stable, Mergeable, Minimal, merged}
use Rattle.bisim_spec.specs.Reach.{reach}
use Rattle.bisim_spec.proofs.Stable.{stable_label, stable_parents}
use Rattle.bisim_spec.proofs.Together.{together_sym, together_at, merged_keeps, merged_a, merged_b, merged_cases}
use Rattle.bisim_spec.proofs.MergeableBlocks.{mergeable_from}
use Rattle.bisim_spec.proofs.Reached.{reach_start, unreached_parent}

-- A node of the second shape that is no target has the label that it had in the first, and the same parents. A number that
-- is no node of the second shape may have had any.
pub record DiffersAt (target : ℕ → Bool) (s s2 : Shape) : Type 0 where
  pub label : (n : ℕ) → IsNode s2 n → IsFalse (target n) → s.label n ≡ s2.label n
  pub edge : (p n : ℕ) → IsNode s2 n → IsFalse (target n) → s.edge p n ≡ s2.edge p n

-- such nodes have their labels and parents, and their parents are such nodes
pub record IsOutside (s s2 : Shape) (Out : ℕ → Type 0) : Type 0 where
  pub parents : (p n : ℕ) → Out n → IsParent s2 p n → Out p
  pub label : (n : ℕ) → Out n → s.label n ≡ s2.label n
  pub edge : (p n : ℕ) → Out n → s.edge p n ≡ s2.edge p n

-- a node that isn't reached from the targets
abbrev pub IsOut : Shape → (ℕ → Bool) → ℕ → Type 0
IsOut s from n = IsNode s n × IsFalse (reach s from n)

-- what isn't reached is no target
pub off_target : (s : Shape) (from : ℕ → Bool) (n : ℕ) → IsFalse (reach s from n) → IsFalse (from n)
off_target s from n h = false_from_ne_true (from n) (λ t. both_ways (reach s from n) h (reach_start s from n t))

pub outside_reach : (target : ℕ → Bool) (s s2 : Shape) → IsShape s2 → DiffersAt target s s2 → IsOutside s s2 (IsOut s2 target)
outside_reach target s s2 shape d = record {
  parents = λ p n h e. (shape.from p n e, unreached_parent s2 shape target p n h.1 e);
  label = λ n h. d.label n h.0 (off_target s2 target n h.1);
  edge = λ p n h. d.edge p n h.0 (off_target s2 target n h.1);
}

-- two partitions group these nodes alike
pub record SameOutside (p p2 : List (Option ℕ)) (Out : ℕ → Type 0) : Type 0 where
  pub into : (x y : ℕ) → Out x → Out y → Together p x y → Together p2 x y
  pub back : (x y : ℕ) → Out x → Out y → Together p2 x y → Together p x y

-- nodes of the two blocks are together once the blocks are one, after the change and so before it
outside_merged : (p p2 : List (Option ℕ)) (Out : ℕ → Type 0) → SameOutside p p2 Out → (x y a b a0 b0 : ℕ) → Out x → Out y
    → at p2 x ≡ Some a → at p2 y ≡ Some b → at p x ≡ Some a0 → at p y ≡ Some b0
    → (u v : ℕ) → Out u → Out v → Together (merged a b p2) u v → Together (merged a0 b0 p) u v
outside_merged p p2 Out same x y a b a0 b0 ox oy hx hy kx ky u v ou ov t = elim (merged_cases a b p2 u v t) [
  | inl one ↦ merged_keeps a0 b0 p u v (same.back u v ou ov one)
  | inr (inl (eu, ev)) ↦
      (let pu = together_at p x u a0 (same.back x u ox ou (a, hx, eu)) kx in
      let pv = together_at p y v b0 (same.back y v oy ov (b, hy, ev)) ky in
      (a0, merged_a a0 b0 p u pu, merged_b a0 b0 p v pv))
  | inr (inr (eu, ev)) ↦
      (let pv = together_at p x v a0 (same.back x v ox ov (a, hx, ev)) kx in
      let pu = together_at p y u b0 (same.back y u oy ou (b, hy, eu)) ky in
      (a0, merged_b a0 b0 p u pu, merged_a a0 b0 p v pv))
]

-- Two blocks with members outside can't be merged after the change, where no two blocks could before.
pub none_outside : (s s2 : Shape) (Out : ℕ → Type 0) (p p2 : List (Option ℕ)) → IsOutside s s2 Out → SameOutside p p2 Out → Stable s p → Minimal s p
    → (x y a b : ℕ) → Out x → Out y → at p2 x ≡ Some a → at p2 y ≡ Some b → a ≢ b → Mergeable s2 p2 a b → ⊥
none_outside s s2 Out p p2 out same st min x y a b ox oy hx hy apart can =
    let tx = same.back x x ox ox (a, hx, hx) in
    let ty = same.back y y oy oy (b, hy, hy) in
    let apart0 : tx.0 ≢ ty.0 = λ e. apart (let t = same.into x y ox oy (tx.0, tx.1, ty.1 ∙ ap Some (sym e)) in let f = t.1 in let g = t.2 in let z : a ≡ b = cc in z) in
    let joined : Together (merged a b p2) x y = (a, merged_a a b p2 x hx, merged_b a b p2 y hy) in
    let over : (u v q : ℕ) → Out u → Out v → Together (merged a b p2) u v → IsParent s q u → (r : ℕ) × IsParent s r v × Together (merged tx.0 ty.0 p) q r =
    λ u v q ou ov t e.
    let e2 : IsParent s2 q u = sym (out.edge q u ou) ∙ e in
    let r = stable_parents s2 (merged a b p2) can u v t q e2 in (
      r.0,
      out.edge r.0 v ov ∙ r.1,
      outside_merged p p2 Out same x y a b tx.0 ty.0 ox oy hx hy tx.1 ty.1 q r.0 (out.parents q u ou e2) (out.parents r.0 v ov r.1) r.2,
    )
    in
    min.apart x y tx.0 ty.0 tx.1 ty.1 apart0 (mergeable_from s p tx.0 ty.0 x y st tx.1 ty.1 (record {
      label = out.label x ox ∙ stable_label s2 (merged a b p2) can x y joined ∙ sym (out.label y oy);
      parents = record {
        there = λ q e. over x y q ox oy joined e;
        back = λ q e. over y x q oy ox (together_sym (merged a b p2) x y joined) e;
      };
    }))

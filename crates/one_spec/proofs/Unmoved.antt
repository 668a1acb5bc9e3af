-- Blocks that can be merged after a change and a split: not both hold a node that stands where it stood.
use Rattle.std.proofs.Common.{◌≡◌, ◌≢◌, ℕ, List, Option, Some, IsFalse, Bool, sym, ◌∙◌, inl, inr}
use Rattle.graph_spec.specs.Members.{at}
use Rattle.graph_spec.specs.Shapes.{Shape, IsNode, IsParent, IsShape}
use Rattle.bisim_spec.specs.Partitions.{Together}
use Rattle.bisim_spec.specs.Stability.{Stable, Mergeable, Minimal, merged}
use Rattle.bisim_spec.proofs.Bisimilar.{is_some_at}
use Rattle.bisim_spec.proofs.Stable.{stable_label, stable_parents}
use Rattle.bisim_spec.proofs.Together.{together_sym, together_at, merged_keeps, merged_a, merged_b, merged_cases}
use Rattle.bisim_spec.proofs.MergeableBlocks.{mergeable_from}
use Rattle.bisim_spec.proofs.Outside.{DiffersAt}

-- nodes that are together now, and were live before, were together before
pub record IsFiner (s : Shape) (p p2 : List (Option ℕ)) : Type 0 where
  pub within : (u v : ℕ) → IsNode s u → IsNode s v → Together p2 u v → Together p u v

-- a node of the graph after the change, no target, and in the block in which it was
pub record IsUnmoved (target : ℕ → Bool) (s2 : Shape) (p p2 : List (Option ℕ)) (x : ℕ) : Type 0 where
  pub node : IsNode s2 x
  pub off : IsFalse (target x)
  pub same : at p2 x ≡ at p x

-- Two blocks that both hold an unmoved node can't be merged after a change, where no two could before and the partition is as
-- fine as it was.
pub none_unmoved : (target : ℕ → Bool) (s s2 : Shape) (p p2 : List (Option ℕ)) → IsShape s → DiffersAt target s s2 → IsFiner s p p2 → Stable s p → Minimal s p
    → (x y a b : ℕ) → IsUnmoved target s2 p p2 x → IsUnmoved target s2 p p2 y → at p2 x ≡ Some a → at p2 y ≡ Some b → a ≢ b → Mergeable s2 p2 a b → ⊥
none_unmoved target s s2 p p2 shape d fine st min x y a b ux uy hx hy ne can =
    min.apart x y a b kx ky ne (mergeable_from s p a b x y st kx ky (record {
      label = d.label x ux.node ux.off ∙ stable_label s2 (merged a b p2) can x y joined ∙ sym (d.label y uy.node uy.off);
      parents = record {
        there = λ q e. over x y q ux.node uy.node ux.off uy.off joined e;
        back = λ q e. over y x q uy.node ux.node uy.off ux.off (together_sym (merged a b p2) x y joined) e;
      };
    }))
  where
    kx : at p x ≡ Some a
    kx = sym ux.same ∙ hx

    ky : at p y ≡ Some b
    ky = sym uy.same ∙ hy

    joined : Together (merged a b p2) x y
    joined = (a, merged_a a b p2 x hx, merged_b a b p2 y hy)

    at_x : (q : ℕ) → IsNode s q → at p2 q ≡ Some a → at p q ≡ Some a
    at_x q n e = together_at p x q a (fine.within x q (st.partition.only x (is_some_at (at p x) a kx)) n (a, hx, e)) kx

    at_y : (q : ℕ) → IsNode s q → at p2 q ≡ Some b → at p q ≡ Some b
    at_y q n e = together_at p y q b (fine.within y q (st.partition.only y (is_some_at (at p y) b ky)) n (b, hy, e)) ky

    carried : (q r : ℕ) → IsNode s q → IsNode s r → Together (merged a b p2) q r → Together (merged a b p) q r
    carried q r nq nr t = elim (merged_cases a b p2 q r t) [
      | inl near ↦ merged_keeps a b p q r (fine.within q r nq nr near)
      | inr (inl (eq, er)) ↦ (a, merged_a a b p q (at_x q nq eq), merged_b a b p r (at_y r nr er))
      | inr (inr (eq, er)) ↦ (a, merged_b a b p q (at_y q nq eq), merged_a a b p r (at_x r nr er))
    ]

    over : (u v q : ℕ) → IsNode s2 u → IsNode s2 v → IsFalse (target u) → IsFalse (target v) → Together (merged a b p2) u v → IsParent s q u
        → (r : ℕ) × IsParent s r v × Together (merged a b p) q r
    over u v q lu lv nu nv t e =
        let r = stable_parents s2 (merged a b p2) can u v t q (sym (d.edge q u lu nu) ∙ e) in
        let f : IsParent s r.0 v = d.edge r.0 v lv nv ∙ r.1 in
        (r.0, f, carried q r.0 (shape.from q u e) (shape.from r.0 v f) r.2)

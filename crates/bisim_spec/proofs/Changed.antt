-- What a change makes of a stable partition.
use Rattle.std.proofs.Common.{◌≡◌, ℕ, List, Option, IsFalse, sym, ◌∙◌, ap}
use Rattle.std.specs.Prelude.{Bool, is_some}
use Rattle.graph_spec.specs.Shapes.{Shape, IsNode, IsParent, IsShape}
use Rattle.graph_spec.specs.Members.{at}
use Rattle.bisim_spec.specs.Partitions.{Together, IsPartition}
use Rattle.bisim_spec.specs.Stability.{StableBut, Stable}
use Rattle.bisim_spec.specs.KeptBlocks.{KeepsBlocks}
use Rattle.bisim_spec.proofs.Stable.{stable_label, stable_parents}
use Rattle.bisim_spec.proofs.Together.{together_sym, together_some}
use Rattle.bisim_spec.proofs.Outside.{DiffersAt}

-- what is no target and a node after is a node before
pub live_before : (target : ℕ → Bool) (s s2 : Shape) → DiffersAt target s s2 → (n : ℕ) → IsFalse (target n) → IsNode s2 n → IsNode s n
live_before target s s2 d n off h = ap is_some (d.label n h off) ∙ h

-- Nodes keep their blocks, a new node gets any, and one that goes loses its: what was a stable partition is stable after the
-- change, but maybe at the targets.
pub stable_but_changed : (target : ℕ → Bool) (s s2 : Shape) (block block2 : List (Option ℕ)) → IsShape s → IsShape s2 → DiffersAt target s s2
    → KeepsBlocks s s2 block block2 → Stable s block → IsPartition s2 block2 → StableBut s2 block2 target
stable_but_changed target s s2 block block2 shape shape2 d keeps st partition = record {
  partition = partition;
  label = λ u v nu nv t. sym (d.label u (first u v t) nu) ∙ stable_label s block st u v (before u v nu nv t) ∙ d.label v (second u v t) nv;
  parents = λ u v nu nv t q e.
      let e0 : IsParent s q u = d.edge q u (first u v t) nu ∙ e in
      let r = stable_parents s block st u v (before u v nu nv t) q e0 in
      let e2 : IsParent s2 r.0 v = sym (d.edge r.0 v (second u v t) nv) ∙ r.1 in (
        r.0,
        e2,
        (
          r.2.0,
          keeps.kept q (shape.from q u e0) (shape2.from q u e) ∙ r.2.1,
          keeps.kept r.0 (shape.from r.0 v r.1) (shape2.from r.0 v e2) ∙ r.2.2,
        ),
      );
}
  where
    first : (u v : ℕ) → Together block2 u v → IsNode s2 u
    first u v t = partition.only u (together_some block2 u v t)

    second : (u v : ℕ) → Together block2 u v → IsNode s2 v
    second u v t = first v u (together_sym block2 u v t)

    same : (n : ℕ) → IsFalse (target n) → IsNode s2 n → at block2 n ≡ at block n
    same n off h = keeps.kept n (live_before target s s2 d n off h) h

    before : (u v : ℕ) → IsFalse (target u) → IsFalse (target v) → Together block2 u v → Together block u v
    before u v nu nv t = (t.0, sym (same u nu (first u v t)) ∙ t.1, sym (same v nv (second u v t)) ∙ t.2)

-- The order of edges is total, and equal edges are the same.
use Rattle.std.proofs.Common.{◌≡◌, ℕ, rules, refl, ap, ◌∙◌, nat_eq}
use Rattle.std.specs.Prelude.{◌&&◌}
use Rattle.std.specs.Cmp.{IsTotalOrder, unsigned_tied}
use Rattle.std.specs.Cmp.Rules.{comparing}
use Rattle.std.specs.Ordering.{nat_cmp, ordering_then, eq_by_cmp, is_eq}
use Rattle.std.specs.declared.cmp.Ordering.{Ordering}
use Rattle.std.specs.declared.cmp.Ordering.TheVariants.{Less, Equal, Greater}
use Rattle.std.specs.FinSet as set
use Rattle.graph_spec.specs.Graphs.{edge_cmp}

pub edge_cmp_total : IsTotalOrder edge_cmp
edge_cmp_total = search (comparing, rules)

pub edge_cmp-IsAntisymmetric : (x y : ℕ × ℕ) → edge_cmp x y ≡ Equal → x ≡ y
edge_cmp-IsAntisymmetric x y e =
    elim (nat_cmp x.0 y.0) as (λ r. nat_cmp x.0 y.0 ≡ r → ordering_then r (nat_cmp x.1 y.1) ≡ Equal → x ≡ y) [
      | Less ↦ λ p q. cc
      | Equal ↦ λ p q i. (set.nat_cmp-IsAntisymmetric x.0 y.0 p i, set.nat_cmp-IsAntisymmetric x.1 y.1 q i)
      | Greater ↦ λ p q. cc
    ] refl e

is_eq-then : (q r : Ordering) → is_eq (ordering_then q r) ≡ (is_eq q && is_eq r)
is_eq-then Less r = refl
is_eq-then Equal r = refl
is_eq-then Greater r = refl

-- two edges are tied where their ends are equal
pub eq_pair : (u v a b : ℕ) → eq_by_cmp edge_cmp (u, v) (a, b) ≡ (nat_eq u a && nat_eq v b)
eq_pair u v a b = is_eq-then (nat_cmp u a) (nat_cmp v b) ∙ ap (λ x. x && is_eq (nat_cmp v b)) (unsigned_tied u a) ∙ ap (λ x. nat_eq u a && x) (unsigned_tied v b)

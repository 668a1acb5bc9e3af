-- Laws of levels, whichever sides count.
use Rattle.std.proofs.Common.{◌≡◌, ℕ, suc, List, Option, Some, Bool, IsTrue, IsFalse, refl, sym, inl, inr, true≢false}
use Rattle.std.proofs.lemmas.Bool.{or_left, or_right, or_cases}
use Rattle.graph_spec.specs.Members.{at}
use Rattle.graph_spec.specs.Shapes.{Shape, IsNode, IsShape}
use Rattle.bisim_spec.specs.declared.sides.Side.{Side}
use Rattle.bisim_spec.specs.declared.sides.Side.TheVariants as side
use Rattle.bisim_spec.specs.declared.sides.Sides.{Sides}
use Rattle.bisim_spec.specs.declared.sides.Sides.TheVariants as sides
use Rattle.bisim_spec.specs.Bisimilarity.{Matched, SameLabel}
use Rattle.bisim_spec.specs.Partitions.{IsPartition, Agrees}
use Rattle.bisim_spec.specs.Reach.{either_way}
use Rattle.bisim_spec.specs.SidedLevels.{counts, beside, AtLevel, spread, DiffersBy}
use Rattle.bisim_spec.proofs.Bisimilar.{some_of}
use Rattle.bisim_spec.proofs.Settled.{IsFamily, bis_family, both_family}
use Rattle.bisim_spec.proofs.Outside.{DiffersAt}

-- nodes of one label are those that are bisimilar to level 0
pub level_from_label : (which : Sides) (s : Shape) (u v : ℕ) → SameLabel s u v → AtLevel which s 0 u v
level_from_label sides.Parents s u v h = h
level_from_label sides.Both s u v h = h

pub label_from_level : (which : Sides) (s : Shape) (u v : ℕ) → AtLevel which s 0 u v → SameLabel s u v
label_from_level sides.Parents s u v h = h
label_from_level sides.Both s u v h = h

-- nodes that are parted by their labels alone are parted as at level 0
pub lowest_level : (which : Sides) (s : Shape) (block : List (Option ℕ)) → Agrees s block (SameLabel s) → Agrees s block (AtLevel which s 0)
lowest_level sides.Parents s block a = a
lowest_level sides.Both s block a = a

pub level_lower : (which : Sides) (s : Shape) (i u v : ℕ) → AtLevel which s (suc i) u v → AtLevel which s i u v
level_lower sides.Parents s i u v h = h.0
level_lower sides.Both s i u v h = h.0

-- one level up, from matched neighbours on the sides that count
pub level_up : (which : Sides) (s : Shape) (i u v : ℕ) → AtLevel which s i u v
    → ((d : Side) → IsTrue (counts which d) → Matched (λ p n. IsTrue (beside d s p n)) (AtLevel which s i) u v) → AtLevel which s (suc i) u v
level_up sides.Parents s i u v h m = (h, m side.Parents refl)
level_up sides.Both s i u v h m = (h, m side.Parents refl, m side.Children refl)

pub level_matched : (which : Sides) (s : Shape) (i u v : ℕ) → AtLevel which s (suc i) u v → (d : Side) → IsTrue (counts which d)
    → Matched (λ p n. IsTrue (beside d s p n)) (AtLevel which s i) u v
level_matched sides.Parents s i u v h side.Parents c = h.1
level_matched sides.Parents s i u v h side.Children c = absurd (true≢false (sym c))
level_matched sides.Both s i u v h side.Parents c = h.1
level_matched sides.Both s i u v h side.Children c = h.2

pub level_family : (which : Sides) (s : Shape) → IsShape s → IsFamily s (AtLevel which s)
level_family sides.Parents s shape = bis_family s shape
level_family sides.Both s shape = both_family s shape

pub beside_node : (s : Shape) → IsShape s → (d : Side) (p n : ℕ) → IsTrue (beside d s p n) → IsNode s p
beside_node s shape side.Parents p n e = shape.from p n e
beside_node s shape side.Children p n e = shape.onto n p e

-- neighbours have blocks in a partition
pub beside_block : (s : Shape) → IsShape s → (base : List (Option ℕ)) → IsPartition s base → (d : Side) (p n : ℕ) → IsTrue (beside d s p n) → (b : ℕ) × (at base p ≡ Some b)
beside_block s shape base partition d p n e = some_of (at base p) (partition.live p (beside_node s shape d p n e))

either_shape : (s : Shape) → IsShape s → IsShape (either_way s)
either_shape s shape = record {
  below = shape.below;
  from = λ u v e. elim (or_cases (s.edge u v) (s.edge v u) e) [ inl h ↦ shape.from u v h | inr h ↦ shape.onto v u h ];
  onto = λ u v e. elim (or_cases (s.edge u v) (s.edge v u) e) [ inl h ↦ shape.onto u v h | inr h ↦ shape.from v u h ];
}

pub spread_shape : (which : Sides) (s : Shape) → IsShape s → IsShape (spread which s)
spread_shape sides.Parents s shape = shape
spread_shape sides.Both s shape = either_shape s shape

-- what a node can change lies beside it
pub spread_beside : (which : Sides) (s : Shape) (d : Side) → IsTrue (counts which d) → (p n : ℕ) → IsTrue (beside d s p n) → IsTrue ((spread which s).edge p n)
spread_beside sides.Parents s side.Parents c p n e = e
spread_beside sides.Parents s side.Children c p n e = absurd (true≢false (sym c))
spread_beside sides.Both s side.Parents c p n e = or_left (s.edge p n) (s.edge n p) e
spread_beside sides.Both s side.Children c p n e = or_right (s.edge p n) (s.edge n p) e

-- a shape that differs at nodes whose parents are others differs there by parents
pub differs_by_parents : (target : ℕ → Bool) (s s2 : Shape) → DiffersAt target s s2 → DiffersBy sides.Parents target s s2
differs_by_parents target s s2 d = record { label = d.label; edge = λ e c p n live h. parents e c p n live h }
  where
    parents : (e : Side) → IsTrue (counts sides.Parents e) → (p n : ℕ) → IsNode s2 n → IsFalse (target n) → beside e s p n ≡ beside e s2 p n
    parents side.Parents c p n live h = d.edge p n live h
    parents side.Children c p n live h = absurd (true≢false (sym c))

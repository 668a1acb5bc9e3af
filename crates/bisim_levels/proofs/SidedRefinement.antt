-- Partitions that are refined by what lies around nodes are levels of bisimilarity.
use Rattle.std.proofs.Common.{◌≡◌, ℕ, suc, List, Option, Some, IsTrue, refl, sym, ◌∙◌, ap, subst}
use Rattle.graph_spec.specs.Members.{at}
use Rattle.graph_spec.specs.Shapes.{Shape, IsShape}
use Rattle.bisim_spec.specs.Bisimilarity.{Covers}
use Rattle.bisim_spec.specs.Partitions.{Together, IsPartition, Agrees}
use Rattle.bisim_spec.proofs.Settled.{IsFamily}
use Rattle.bisim_spec.specs.declared.sides.Side.{Side}
use Rattle.bisim_spec.specs.declared.sides.Sides.{Sides}
use Rattle.bisim_spec.specs.SidedLevels.{counts, beside, AtLevel}
use Rattle.bisim_levels.specs.SidedKeys.{mark, IsAround, RefinesBy}
use Rattle.bisim_spec.proofs.LevelSides.{level_up, level_matched, level_family, beside_block}
use Rattle.bisim_levels.proofs.SideMarks.{mark_apart}

-- neighbours in the same blocks make the same numbers
pub around_of : (sides : Sides) (s : Shape) (base : List (Option ℕ)) (u v : ℕ)
    → ((d : Side) → IsTrue (counts sides d) → Covers (λ p n. IsTrue (beside d s p n)) (Together base) u v) → (c : ℕ) → IsAround sides s base u c → IsAround sides s base v c
around_of sides s base u v covers c k =
    let q = covers k.side k.counted k.node k.is_beside in
    record {
      side = k.side;
      counted = k.counted;
      node = q.0;
      is_beside = q.1;
      block = k.block;
      has_block = (let t = q.2 in moved k.node q.0 k.block t.0 t.1 t.2 k.has_block);
      is = k.is;
    }
  where
    moved : (x y b a : ℕ) → at base x ≡ Some a → at base y ≡ Some a → at base x ≡ Some b → at base y ≡ Some b
    moved x y b a e f g = f ∙ sym e ∙ g

-- and the other way round, where neighbours have blocks
pub covers_of : (sides : Sides) (s : Shape) → IsShape s → (base : List (Option ℕ)) → IsPartition s base → (u v : ℕ) → ((c : ℕ) → IsAround sides s base u c → IsAround sides s base v c)
    → (d : Side) → IsTrue (counts sides d) → Covers (λ p n. IsTrue (beside d s p n)) (Together base) u v
covers_of sides s shape base partition u v there d counted p e =
    let b = beside_block s shape base partition d p u e in
    let k = there (mark sides d b.0) (record { side = d; counted = counted; node = p; is_beside = e; block = b.0; has_block = b.1; is = refl }) in
    let same = mark_apart sides d k.side counted k.counted b.0 k.block k.is in
    (k.node, subst (λ x. IsTrue (beside x s k.node v)) (sym same.side) k.is_beside, (b.0, b.1, k.has_block ∙ ap Some (sym same.block)))

-- a partition that is refined is one still
pub refined_partition : (s : Shape) (Around : ℕ → ℕ → Type 0) (block next : List (Option ℕ)) → IsPartition s block → RefinesBy (at block) Around next → IsPartition s next
refined_partition s Around block next p r = record { live = λ n h. r.kept n (p.live n h); only = λ n h. p.only n (r.only n h) }

-- the level above a level
pub refined_level : (sides : Sides) (s : Shape) → IsShape s → (block next : List (Option ℕ)) → RefinesBy (at block) (IsAround sides s block) next
    → (i : ℕ) → Agrees s block (AtLevel sides s i) → Agrees s next (AtLevel sides s (suc i))
refined_level sides s shape block next r i a = record {
  partition = refined_partition s (IsAround sides s block) block next a.partition r;
  related = λ u v t.
      let k = r.parted u v t.0 t.1 t.2 in
      level_up sides s i u v (a.related u v k.one_number) (λ d c. record {
        there = λ p e. let q = covers_of sides s shape block a.partition u v k.there d c p e in (q.0, q.1, a.related p q.0 q.2);
        back = λ p e. let q = covers_of sides s shape block a.partition v u k.back d c p e in (q.0, q.1, a.related p q.0 q.2);
      });
  grouped = λ u v nu nv h. r.grouped u v (record {
    one_number = a.grouped u v nu nv (family.finer i u v h);
    there = around_of sides s block u v (λ d c p e. let q = (level_matched sides s i u v h d c).there p e in (q.0, q.1, together p q.0 q.2));
    back = around_of sides s block v u (λ d c p e. let q = (level_matched sides s i u v h d c).back p e in (q.0, q.1, together p q.0 q.2));
  });
}
  where
    family : IsFamily s (AtLevel sides s)
    family = level_family sides s shape

    together : (p q : ℕ) → AtLevel sides s i p q → Together block p q
    together p q h = a.grouped p q (family.node i p q h) (family.node i q p (family.symm i p q h)) h

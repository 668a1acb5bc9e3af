-- Splitting goes on in rounds, and ends in a stable partition.
use Rattle.std.proofs.Common.{◌≡◌, ℕ, List, Option, IsFalse, IsTrue, sym, ◌∙◌, Bool}
use Rattle.std.proofs.lemmas.Bool.{false_from_ne_true, both_ways}
use Rattle.graph_spec.specs.Members.{at}
use Rattle.graph_spec.specs.Shapes.{Shape, IsParent, IsShape}
use Rattle.bisim_spec.specs.Partitions.{IsPartition}
use Rattle.bisim_spec.specs.Stability.{StableBut, Stable}
use Rattle.bisim_spec.specs.Reach.{reach}
use Rattle.bisim_spec.proofs.Reached.{reach_step}
use Rattle.one_spec.specs.SplitRoundSteps.{IsSplitRound, IsRefinement, SameBut}

-- nodes that have no moved parent are alike after a round where they are together
pub round_stable : (s : Shape) (p p2 : List (Option ℕ)) (moved next : ℕ → Bool) → IsPartition s p2 → IsSplitRound s p p2 moved next → StableBut s p2 next
round_stable s p p2 moved next partition r = record {
  partition = partition;
  label = λ u v nu nv t. (r.parted u v t).label;
  parents = λ u v nu nv t q e.
      let k = (r.parted u v t).parents q e in
      (k.0, k.1, (k.2.0, r.kept q (stays u q nu e) ∙ k.2.1, r.kept k.0 (stays v k.0 nv k.1) ∙ k.2.2));
}
  where
    stays : (n q : ℕ) → IsFalse (next n) → IsParent s q n → IsFalse (moved q)
    stays n q off e = false_from_ne_true (moved q) (λ m. both_ways (next n) off (r.listed q n m e))

-- where nothing is to be looked at any more, it is stable
pub stable_at_end : (s : Shape) (p : List (Option ℕ)) (next : ℕ → Bool) → ((n : ℕ) → IsFalse (next n)) → StableBut s p next → Stable s p
stable_at_end s p next none st = record {
  partition = st.partition;
  label = λ u v nu nv t. st.label u v (none u) (none v) t;
  parents = λ u v nu nv t. st.parents u v (none u) (none v) t;
}

-- what is moved is reached, and so are the children that are looked at next
pub next_reached : (s : Shape) (from moved next : ℕ → Bool) → IsShape s → ((n : ℕ) → IsTrue (moved n) → IsTrue (reach s from n))
    → ((n : ℕ) → IsTrue (next n) → (q : ℕ) × IsTrue (moved q) × IsParent s q n) → (n : ℕ) → IsTrue (next n) → IsTrue (reach s from n)
next_reached s from moved next shape within only n h = let q = only n h in reach_step s shape from q.0 n (within q.0 q.1) q.2

-- where moved nodes pass, the others are together as before
pub same_but_moved : (p p2 : List (Option ℕ)) (moved but : ℕ → Bool) → ((n : ℕ) → IsFalse (moved n) → at p2 n ≡ at p n)
    → ((n : ℕ) → IsTrue (moved n) → IsTrue (but n)) → SameBut p p2 but
same_but_moved p p2 moved but kept within = record {
  into = λ u v nu nv t. (t.0, kept u (off u nu) ∙ t.1, kept v (off v nv) ∙ t.2);
  back = λ u v nu nv t. (t.0, sym (kept u (off u nu)) ∙ t.1, sym (kept v (off v nv)) ∙ t.2);
}
  where
    off : (n : ℕ) → IsFalse (but n) → IsFalse (moved n)
    off n h = false_from_ne_true (moved n) (λ m. both_ways (but n) h (within n m))

pub same_but_on : (p q r : List (Option ℕ)) (but : ℕ → Bool) → SameBut p q but → SameBut q r but → SameBut p r but
same_but_on p q r but a b = record {
  into = λ u v nu nv t. b.into u v nu nv (a.into u v nu nv t);
  back = λ u v nu nv t. a.back u v nu nv (b.back u v nu nv t);
}

pub within_on : (p q r : List (Option ℕ)) → IsRefinement p q → IsRefinement q r → IsRefinement p r
within_on p q r a b = record { within = λ u v t. a.within u v (b.within u v t) }

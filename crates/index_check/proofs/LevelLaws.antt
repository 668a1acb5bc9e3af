-- Which lists are levels of bisimilarity, or full bisimilarity.
use Rattle.bisim_spec.proofs.BelowLaws.{count_few}
use Rattle.std.proofs.Common.{◌≡◌, ℕ, suc, ◌≤◌, is_some, List, Option, Bool, sym, ◌∙◌, subst}
use Rattle.graph_spec.specs.Shapes.{Shape, IsShape}
use Rattle.graph_spec.specs.Members.{at}
use Rattle.bisim_spec.specs.Bisimilarity.{Bis, Both, FB, node_count}
use Rattle.bisim_spec.specs.Partitions.{IsPartition, Agrees}
use Rattle.bisim_spec.proofs.Bisimilar.{some_of, is_some_at, both_node, both_sym}
use Rattle.bisim_spec.proofs.Keys.{bis_from_key, key_from_bis}
use Rattle.bisim_spec.proofs.Settled.{falls_to, both_family, fb_each, fb_settled}
use Rattle.bisim_spec.proofs.Stable.{stable_both_within, next_stable_both, stable_both_full}
use Rattle.bisim_spec.specs.declared.sides.Side.TheVariants.{Parents}
use Rattle.bisim_spec.specs.Stability.{StableBoth}
use Rattle.round_refinement.specs.Active.{IsCoarse}
use Rattle.round_refinement.specs.NeighbourSides.{is_neighbour}
use Rattle.bisim_spec.specs.Refinement.{Refines}
use Rattle.index_check.specs.ComparedLists.{Determines, AreSame}
use Rattle.round_refinement.proofs.LevelLaws.{refined_partition}

pub bis_up : (s : Shape) (block next : List (Option ℕ)) → Refines (at block) block (is_neighbour Parents s.edge) next
    → (i : ℕ) → Agrees s block (Bis s i) → Agrees s next (Bis s (suc i))
bis_up s block next r i a = record {
  partition = refined_partition s block block next (is_neighbour Parents s.edge) a.partition r;
  related = λ u v t.
      let k = r.parted u v t in
      bis_from_key s block i u v a (record { own = k.one_number; parents = k.neighbours });
  grouped = λ u v nu nv h.
      let k = key_from_bis s block i u v a nu nv h in
      r.grouped u v (record { one_number = k.own; neighbours = k.parents });
}

-- a partition is right where it is parted as one that is
pub right_where_same : (s : Shape) (right block : List (Option ℕ)) (R : ℕ → ℕ → Type 0) → Agrees s right R → IsPartition s block → AreSame right block → Agrees s block R
right_where_same s right block R a p same = record {
  partition = p;
  related = λ u v t.
      let nu = p.only u (is_some_at (at block u) t.0 t.1) in
      let x = some_of (at right u) (a.partition.live u nu) in
      a.related u v (x.0, x.1, sym (same.back u v t.0 t.1 t.2) ∙ x.1);
  grouped = λ u v nu nv h.
      let t = a.grouped u v nu nv h in
      let b = some_of (at block u) (p.live u nu) in
      (b.0, b.1, sym (same.there u v t.0 t.1 t.2) ∙ b.1);
}

-- and only there
pub same_where_right : (s : Shape) (right block : List (Option ℕ)) (R : ℕ → ℕ → Type 0) → Agrees s right R → Agrees s block R → AreSame right block
same_where_right s right block R a b = record {
  there = λ u v c e f.
      let nu = a.partition.only u (is_some_at (at right u) c e) in
      let nv = a.partition.only v (is_some_at (at right v) c f) in
      let t = b.grouped u v nu nv (a.related u v (c, e, f)) in
      t.1 ∙ sym t.2;
  back = λ u v c e f.
      let nu = b.partition.only u (is_some_at (at block u) c e) in
      let nv = b.partition.only v (is_some_at (at block v) c f) in
      let t = a.grouped u v nu nv (b.related u v (c, e, f)) in
      t.1 ∙ sym t.2;
}

-- where no more nodes are parted, the level is full
pub settled_full : (s : Shape) (block next : List (Option ℕ)) (i : ℕ) → IsShape s → Agrees s block (Both s i) → Agrees s next (Both s (suc i)) → Determines block next
    → Agrees s block (FB s)
settled_full s block next i shape a above d =
    let stays : (u v : ℕ) → Both s i u v → Both s (suc i) u v = λ u v r.
    let nu = both_node s i u v r in
    let nv = both_node s i v u (both_sym s i u v r) in
    let t = a.grouped u v nu nv r in
    let b = some_of (at next u) (above.partition.live u nu) in
    above.related u v (b.0, b.1, sym (d u v t.0 t.1 t.2) ∙ b.1)
    in
    let same : Agrees s block (Both s (suc i)) = record {
      partition = a.partition;
      related = λ u v t. stays u v (a.related u v t);
      grouped = λ u v nu nv r. a.grouped u v nu nv r.0;
    } in
    stable_both_full s block shape i (next_stable_both s block shape i a same) a

-- and a full level parts no more
pub full_stays : (s : Shape) (block next : List (Option ℕ)) → IsShape s → Agrees s block (FB s) → Agrees s next (Both s (suc (node_count s))) → Determines block next
full_stays s block next shape a above = λ u v c e f.
    let nu = a.partition.only u (is_some_at (at block u) c e) in
    let nv = a.partition.only v (is_some_at (at block v) c f) in
    let t = above.grouped u v nu nv ((fb_settled s shape).within u v (a.related u v (c, e, f))) in
    t.1 ∙ sym t.2

-- so is one of as many levels as there are numbers
pub counted_full : (s : Shape) (block : List (Option ℕ)) (i : ℕ) → IsShape s → node_count s ≤ i → Agrees s block (Both s i) → Agrees s block (FB s)
counted_full s block i shape many a = record {
  partition = a.partition;
  related = λ u v t. falls_to s (Both s) (both_family s shape) (node_count s) i many u v (a.related u v t);
  grouped = λ u v nu nv r. a.grouped u v nu nv (fb_each s shape i u v r);
}

pub level_more : (s : Shape) (block : List (Option ℕ)) (j i : ℕ) → suc j ≡ i → Agrees s block (Bis s (suc j)) → Agrees s block (Bis s i)
level_more s block j i e a = subst (λ k. Agrees s block (Bis s k)) e a

pub level_same : (s : Shape) (block : List (Option ℕ)) (j i : ℕ) → j ≡ i → Agrees s block (Bis s j) → Agrees s block (Bis s i)
level_same s block j i e a = subst (λ k. Agrees s block (Bis s k)) e a

pub both_same : (s : Shape) (block : List (Option ℕ)) (j i : ℕ) → j ≡ i → Agrees s block (Both s j) → Agrees s block (Both s i)
both_same s block j i e a = subst (λ k. Agrees s block (Both s k)) e a

pub determines_as : (x y a b : List (Option ℕ)) → x ≡ a → y ≡ b → Determines x y → Determines a b
determines_as x y a b e f d = subst (λ k. Determines a k) f (subst (λ k. Determines k y) e d)

pub few_nodes : (s : Shape) → node_count s ≤ s.size
few_nodes s = count_few s.size (λ n. is_some (s.label n))

pub refines_own : (x y base next : List (Option ℕ)) (neighbour_of : ℕ → ℕ → Bool) → x ≡ y → Refines (at x) base neighbour_of next → Refines (at y) base neighbour_of next
refines_own x y base next neighbour_of e r = subst (λ k. Refines (at k) base neighbour_of next) e r

-- stable blocks that are determined by a partition that is no finer than full bisimilarity are that
pub found_full : (s : Shape) (block coarse : List (Option ℕ)) → StableBoth s block → IsCoarse s coarse → Determines coarse block → Agrees s block (FB s)
found_full s block coarse st c d = record {
  partition = st.stable.partition;
  related = stable_both_within s block st (node_count s);
  grouped = λ u v nu nv r.
      let t = c.together u v r in
      let b = some_of (at block u) (st.stable.partition.live u nu) in
      (b.0, b.1, sym (d u v t.0 t.1 t.2) ∙ b.1);
}

-- and full bisimilarity is determined by it, where it is stable
pub full_found : (s : Shape) (block coarse : List (Option ℕ)) → StableBoth s coarse → IsCoarse s coarse → Agrees s block (FB s) → Determines coarse block
full_found s block coarse st c a = λ u v b e f.
    let nu = c.partition.only u (is_some_at (at coarse u) b e) in
    let nv = c.partition.only v (is_some_at (at coarse v) b f) in
    let t = a.grouped u v nu nv (stable_both_within s coarse st (node_count s) u v (b, e, f)) in
    t.1 ∙ sym t.2

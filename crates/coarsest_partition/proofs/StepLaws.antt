-- A partition that is refined step by step, until no node is active, is the coarsest stable one.
use Rattle.std.proofs.Common.{◌≡◌, ℕ, List, Option, IsSome, Bool, true, false, refl, sym, ◌∙◌, ap, subst, inl, inr, true≢false}
use Rattle.std.proofs.lemmas.Bool.{cases_Bool, both_ways}
use Rattle.std.proofs.lemmas.Bool.Decides.{eqb_tells}
use Rattle.graph_spec.specs.Graphs.{Graph, IsGraph}
use Rattle.graph_spec.specs.Shapes.{IsNode, shape_of}
use Rattle.bisim_spec.specs.Bisimilarity.{SameLabel, Matched, Bisim, FB, node_count}
use Rattle.graph_spec.specs.Members.{at}
use Rattle.bisim_spec.specs.Partitions.{Together, IsPartition, Agrees}
use Rattle.bisim_spec.specs.Stability.{Stable, StableBoth}
use Rattle.bisim_spec.proofs.Bisimilar.{some_of, label_same, matched_self, label_sym, label_node, matched_map, bis_sym, bis_label, bis_self, both_sym, both_label, both_self}
use Rattle.bisim_spec.proofs.Settled.{bisim_settled, fb_settled}
use Rattle.bisim_spec.proofs.Stable.{stable_within, stable_both_within}
use Rattle.bisim_spec.proofs.Together.{together_sym, together_some}
use Rattle.bisim_spec.specs.declared.sides.Side.{Side}
use Rattle.bisim_spec.specs.declared.sides.Side.TheVariants.{Parents, Children}
use Rattle.graph_spec.proofs.GraphLaws.{is_shape}
use Rattle.block_splitting.specs.Splits.{IsNeighbour}
use Rattle.coarsest_partition.specs.Refined.{parents_alone, both_sides, IsTarget, IsRefined, IsStep}

-- a neighbour is a node
neighbour_node : (g : Graph) → IsGraph g → (t : Side) (q n : ℕ) → IsNeighbour t g q n → IsNode (shape_of g) q
neighbour_node g s Parents q n e = s.from q n e
neighbour_node g s Children q n e = s.onto n q e

-- bisimilarity, and bisimilarity both ways, are such relations

pub bisim_target : (g : Graph) → IsGraph g → IsTarget g parents_alone (Bisim (shape_of g))
bisim_target g s = record {
  symm = bis_sym (shape_of g) (node_count (shape_of g));
  self = λ t q n neighbour_of. bis_self (shape_of g) (is_shape g s) (node_count (shape_of g)) q (neighbour_node g s t q n neighbour_of);
  label = bis_label (shape_of g) (node_count (shape_of g));
  matched = by;
}
  where
    by : (t : Side) → parents_alone t ≡ true → (u v : ℕ) → Bisim (shape_of g) u v → Matched (IsNeighbour t g) (Bisim (shape_of g)) u v
    by Parents k u v r = ((bisim_settled (shape_of g) (is_shape g s)).within u v r).1
    by Children k u v r = absurd (true≢false (sym k))

pub fb_target : (g : Graph) → IsGraph g → IsTarget g both_sides (FB (shape_of g))
fb_target g s = record {
  symm = both_sym (shape_of g) (node_count (shape_of g));
  self = λ t q n neighbour_of. both_self (shape_of g) (is_shape g s) (node_count (shape_of g)) q (neighbour_node g s t q n neighbour_of);
  label = both_label (shape_of g) (node_count (shape_of g));
  matched = by;
}
  where
    by : (t : Side) → both_sides t ≡ true → (u v : ℕ) → FB (shape_of g) u v → Matched (IsNeighbour t g) (FB (shape_of g)) u v
    by Parents k u v r = ((fb_settled (shape_of g) (is_shape g s)).within u v r).1
    by Children k u v r = ((fb_settled (shape_of g) (is_shape g s)).within u v r).2

-- nodes of one label together, and all of them active, is a start
pub start : (g : Graph) (kept : Side → Bool) (R : ℕ → ℕ → Type 0) (block : List (Option ℕ)) (active : Side → ℕ → Bool) → IsTarget g kept R
    → Agrees (shape_of g) block (SameLabel (shape_of g)) → ((t : Side) → kept t ≡ true → (n : ℕ) → IsSome (at block n) → active t n ≡ true)
    → IsRefined g kept R block active
start g kept R block active target a all = record {
  coarse = together;
  label = a.related;
  closed = λ t k u v r w. all t k v (together_some block v u (together_sym block u v (together u v r)));
  settled = λ t k u v nu nv e. absurd (both_ways (active t u) nu (all t k u (together_some block u v e)));
}
  where
    together : (u v : ℕ) → R u v → Together block u v
    together u v r =
        let l = target.label u v r in
        a.grouped u v (label_node (shape_of g) u v l) (label_node (shape_of g) v u (label_sym (shape_of g) u v l)) l

-- neighbours in the same blocks stay so where none of them moved
stays_matched : {N : ℕ → ℕ → Type 0} (old new : List (Option ℕ)) (u v : ℕ) → ((q : ℕ) → N q u → at new q ≡ at old q)
    → ((q : ℕ) → N q v → at new q ≡ at old q) → Matched N (Together old) u v → Matched N (Together new) u v
stays_matched old new u v su sv m = record {
  there = λ p e. let q = m.there p e in (q.0, q.1, moved p q.0 (su p e) (sv q.0 q.1) q.2);
  back = λ p e. let q = m.back p e in (q.0, q.1, moved p q.0 (sv p e) (su q.0 q.1) q.2);
}
  where
    moved : (p q : ℕ) → at new p ≡ at old p → at new q ≡ at old q → Together old p q → Together new p q
    moved p q ep eq t = (t.0, ep ∙ t.1, eq ∙ t.2)

-- the step keeps what holds
pub step : (g : Graph) (kept : Side → Bool) (R : ℕ → ℕ → Type 0) (old new : List (Option ℕ)) (active next : Side → ℕ → Bool) → IsTarget g kept R
    → IsRefined g kept R old active → IsStep g kept old new active next → IsRefined g kept R new next
step g kept R old new active next target w s = record {
  coarse = together;
  label = λ u v t. w.label u v (s.finer u v t);
  closed = λ t k u v r e. elim (s.active_why t k u e) [
    | inl (l, before) ↦ s.left_active t k v l (w.closed t k u v r before)
    | inr (q, neighbour_of, moved) ↦ active_nodes t k u v q r neighbour_of moved e ((target.matched t k u v r).there q neighbour_of)
  ];
  settled = λ t k u v nu nv e. elim (eqb_tells u v) [
    | inl same ↦ (
        let self : Matched (IsNeighbour t g) (Together new) u u = matched_self (λ q neighbour_of. together q q (target.self t q u neighbour_of)) in
        subst (λ x. Matched (IsNeighbour t g) (Together new) u x) same.1 self)
    | inr apart ↦ stays_matched old new u v (λ q. s.still t k q u v nu e apart.1) (λ q. s.still t k q v u nv (together_sym new u v e) (λ x. apart.1 (sym x)))
        (elim (s.parted t k u v nu nv e) [
          | inl (du, dv) ↦ w.settled t k u v du dv (s.finer u v e)
          | inr m ↦ m
        ])
  ];
}
  where
    together : (u v : ℕ) → R u v → Together new u v
    together u v r =
        s.grouped u v (w.coarse u v r) (matched_map w.coarse (target.matched s.side s.side_kept u v r)) (w.closed s.side s.side_kept u v r)
        (w.closed s.side s.side_kept v u (target.symm u v r))

    active_nodes : (t : Side) → kept t ≡ true → (u v q : ℕ) → R u v → IsNeighbour t g q u → (at new q ≡ at old q → ⊥) → next t u ≡ true → (p : ℕ) × IsNeighbour t g p v × R q p → next t v ≡ true
    active_nodes t k u v q e neighbour_of moved active_u (p, neighbour_v, r) = elim (cases_Bool (next t v)) [
      | inl yes_v ↦ yes_v
      | inr none ↦ elim (eqb_tells v u) [
        | inl same ↦ ap (next t) same.1 ∙ active_u
        | inr apart ↦ absurd (moved (
            let same = s.still t k p v u none (together_sym new u v (together u v e)) apart.1 neighbour_v in
            let now = together q p r in
            let then = w.coarse q p r in
            let a = now.1 in
            let b = now.2 in
            let c = then.1 in
            let d = then.2 in
            cc))
      ]
    ]

-- when no node is active
pub part : (g : Graph) (kept : Side → Bool) (R : ℕ → ℕ → Type 0) (block : List (Option ℕ)) (active : Side → ℕ → Bool) → IsRefined g kept R block active
    → ((n : ℕ) → IsNode (shape_of g) n → R n n) → IsPartition (shape_of g) block
part g kept R block active w self = record {
  live = λ n h. together_some block n n (w.coarse n n (self n h));
  only = λ n h. let b = some_of (at block n) h in label_node (shape_of g) n n (w.label n n (b.0, b.1, b.1));
}

pub bisim_part : (g : Graph) → IsGraph g → (block : List (Option ℕ)) (active : Side → ℕ → Bool) → IsRefined g parents_alone (Bisim (shape_of g)) block active → IsPartition (shape_of g) block
bisim_part g s block active w = part g parents_alone (Bisim (shape_of g)) block active w (bis_self (shape_of g) (is_shape g s) (node_count (shape_of g)))

pub fb_part : (g : Graph) → IsGraph g → (block : List (Option ℕ)) (active : Side → ℕ → Bool) → IsRefined g both_sides (FB (shape_of g)) block active → IsPartition (shape_of g) block
fb_part g s block active w = part g both_sides (FB (shape_of g)) block active w (both_self (shape_of g) (is_shape g s) (node_count (shape_of g)))

pub bisim_end : (g : Graph) → IsGraph g → (block : List (Option ℕ)) (active : Side → ℕ → Bool) → IsRefined g parents_alone (Bisim (shape_of g)) block active
    → ((n : ℕ) → active Parents n ≡ false) → Agrees (shape_of g) block (Bisim (shape_of g))
bisim_end g s block active w none =
    let p : IsPartition (shape_of g) block = part g parents_alone (Bisim (shape_of g)) block active w (bis_self (shape_of g) (is_shape g s) (node_count (shape_of g))) in
    let stable : Stable (shape_of g) block = record {
      partition = p;
      label = λ u v nu nv t. label_same (shape_of g) u v (w.label u v t);
      parents = λ u v nu nv t. (w.settled Parents refl u v (none u) (none v) t).there;
    } in
    record {
      partition = p;
      related = stable_within (shape_of g) block stable (node_count (shape_of g));
      grouped = λ u v nu nv r. w.coarse u v r;
    }

pub fb_end : (g : Graph) → IsGraph g → (block : List (Option ℕ)) (active : Side → ℕ → Bool) → IsRefined g both_sides (FB (shape_of g)) block active
    → ((t : Side) (n : ℕ) → active t n ≡ false) → Agrees (shape_of g) block (FB (shape_of g))
fb_end g s block active w none =
    let p : IsPartition (shape_of g) block = part g both_sides (FB (shape_of g)) block active w (both_self (shape_of g) (is_shape g s) (node_count (shape_of g))) in
    let stable : StableBoth (shape_of g) block = record {
      stable = record {
        partition = p;
        label = λ u v nu nv t. label_same (shape_of g) u v (w.label u v t);
        parents = λ u v nu nv t. (w.settled Parents refl u v (none Parents u) (none Parents v) t).there;
      };
      children = λ u v t. (w.settled Children refl u v (none Children u) (none Children v) t).there;
    } in
    record {
      partition = p;
      related = stable_both_within (shape_of g) block stable (node_count (shape_of g));
      grouped = λ u v nu nv r. w.coarse u v r;
    }

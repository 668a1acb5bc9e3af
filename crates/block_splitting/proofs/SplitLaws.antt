-- What a round does, from what its parts do.
use Rattle.std.proofs.Common.{◌≡◌, ℕ, ◌<◌, ◌≤◌, ◌⊎◌, List, [], Option, Some, IsSome, is_some, sym, ◌∙◌, ap, subst, arith, inl, inr, true, false, Bool, slice_get, slice_index, get_or, count_by}
use Rattle.std.proofs.lemmas.Bool.{cases_lt, cases_Bool}
use Rattle.std.proofs.lemmas.Option.{slice_get-get_or}
use Rattle.graph_spec.specs.Graphs.{Graph, IsGraph}
use Rattle.graph_spec.specs.Shapes.{shape_of}
use Rattle.graph_spec.specs.Members.{has, at}
use Rattle.bisim_spec.specs.Partitions.{Together, IsPartition}
use Rattle.bisim_spec.specs.declared.sides.Side.{Side}
use Rattle.bisim_levels.specs.NeighbourSides.{is_neighbour}
use Rattle.bisim_spec.specs.Refinement.{StayTogether}
use Rattle.bisim_levels.proofs.LabelledNodes.{neighbour_block}
use Rattle.bisim_spec.proofs.WrittenKeys.{together_from_key, key_from_together}
use Rattle.block_partition.specs.LabelledPartitions.{Partition, IsBlock, block_count}
use Rattle.block_splitting.specs.Groups.{AreGrouped, NeighbourKey}
use Rattle.block_splitting.specs.Moved.{AreParted}
use Rattle.block_splitting.specs.Splits.{IsSplit, AreLabelled, AreInhabited}
use Rattle.block_splitting.proofs.Lists.{none_empty}
use Rattle.block_splitting.proofs.Keyed.{AreKeys}
use Rattle.block_splitting.proofs.SplitNodes.{Parts, Placed, OneKey, placed, told, kept_one, was_active_of}

-- the parts, from what each function tells
pub parts_from : (K : ℕ → List ℕ → Type 0) (p r : Partition) (list active_nodes moved : List ℕ) (keys : List (List ℕ)) (group group2 : List ℕ) → list ≡ active_nodes → group2 ≡ group → AreKeys K p.block_of
    → ((n b : ℕ) → at p.block_of n ≡ Some b → IsBlock p b) → AreGrouped K (has list) keys group → AreParted p r (has active_nodes) keys group2 (has moved) → Parts K p r (has active_nodes) moved keys group
parts_from K p r list active_nodes moved keys group group2 e eg a live w m = record {
  keys_are = a;
  live = live;
  grouped = subst (λ (xs : List ℕ). AreGrouped K (has xs) keys group) e w;
  parted = subst (λ (gs : List ℕ). AreParted p r (has active_nodes) keys gs (has moved)) eg m;
}

-- a round by the keys of neighbours' blocks
pub split_of : (g : Graph) → IsGraph g → (side : Side) (p r : Partition) (seen : ℕ → Bool) (moved : List ℕ) (keys : List (List ℕ)) (group : List ℕ) → IsPartition (shape_of g) p.block_of
    → Parts (NeighbourKey g side p.block_of) p r seen moved keys group → IsSplit g side seen p.block_of r.block_of (has moved)
split_of g s side p r seen moved keys group part w = record {
  finer = λ u v t. elim (tell u v t) [ inl (un, old) ↦ old | inr o ↦ (one u v o).one_number ];
  parted = λ u v t. elim (tell u v t) [ inl (un, old) ↦ inl un | inr o ↦ inr (one u v o).neighbours ];
  grouped = λ u v t near su sv.
      kept_one (NeighbourKey g side p.block_of) p r seen moved keys group w u v t
      (λ x y k l. key_from_together (at p.block_of) p.block_of (is_neighbour side g) u v x y (record { one_number = t; neighbours = near }) k l) su sv;
  still = w.parted.moved_are.still;
  went = w.parted.moved_are.went;
  was_active = was_active_of seen (λ n. slice_index w.parted.chosen (slice_index group n)) p.block_of r.block_of (has moved) w.parted.moved_are;
}
  where
    tell : (u v : ℕ) → Together r.block_of u v → (((seen u ≡ false) × (seen v ≡ false)) × Together p.block_of u v) ⊎ OneKey (NeighbourKey g side p.block_of) seen u v
    tell = told (NeighbourKey g side p.block_of) p r seen moved keys group w

    one : (u v : ℕ) → OneKey (NeighbourKey g side p.block_of) seen u v → StayTogether (at p.block_of) p.block_of (is_neighbour side g) u v
    one u v o = together_from_key (at p.block_of) p.block_of (is_neighbour side g) u v o.key (neighbour_block g s side p.block_of part) o.first_has o.second_has

-- where no block is new nothing moves
pub more_of : (K : ℕ → List ℕ → Type 0) (p r : Partition) (seen : ℕ → Bool) (moved : List ℕ) (keys : List (List ℕ)) (group : List ℕ)
    → Parts K p r seen moved keys group → ((moved ≡ []) × (block_count p ≤ block_count r)) ⊎ (block_count p < block_count r)
more_of K p r seen moved keys group w = elim (cases_lt (block_count p) (block_count w.parted.middle)) [
  | inl more ↦ inr (omega (arith, more, count_is))
  | inr few ↦ inl (
    (none_empty moved (λ n. elim (cases_Bool (has moved n)) [
      | inr f ↦ f
      | inl went ↦ absurd (
          let a = placed K p r seen moved keys group w n
          (was_active_of seen (λ m. slice_index w.parted.chosen (slice_index group m)) p.block_of r.block_of (has moved) w.parted.moved_are n went) in
          let same = w.parted.chosen_are.none_new (let l = w.parted.chosen_are.mono in omega (arith, few, l)) (slice_index group n) a.own a.key a.below a.at_key a.begins in
          w.parted.moved_are.went n went (a.there ∙ ap Some same ∙ sym a.own_is))
    ])),
    (let l = w.parted.chosen_are.mono in omega (arith, l, count_is)),
  )
]
  where
    count_is : block_count r ≡ block_count w.parted.middle
    count_is = ap (count_by is_some) w.parted.labels

-- each block has its members' label still
pub labelled_of : (g : Graph) (K : ℕ → List ℕ → Type 0) (p r : Partition) (seen : ℕ → Bool) (moved : List ℕ) (keys : List (List ℕ)) (group : List ℕ)
    → Parts K p r seen moved keys group → AreLabelled g p → AreLabelled g r
labelled_of g K p r seen moved keys group w h = record {
  each = λ n b e. ap (λ (ls : List (Option ℕ)). at ls b) w.parted.labels ∙ elim (cases_Bool (seen n)) [
    | inl y ↦ (
        let a = placed K p r seen moved keys group w n y in
        let there = a.there in
        let same : slice_index w.parted.chosen (slice_index group n) ≡ b = cc in
        ap (at w.parted.middle.labels) (sym same) ∙ w.parted.chosen_are.label (slice_index group n) a.own a.key a.below a.at_key a.begins ∙ h.each n a.own a.own_is)
    | inr f ↦ (
        let old : at p.block_of n ≡ Some b = sym (w.parted.moved_are.others n f) ∙ e in
        w.parted.chosen_are.stay b (w.live n b old) ∙ h.each n b old)
  ];
}

-- each block has a member still
pub inhabited_of : (K : ℕ → List ℕ → Type 0) (p r : Partition) (seen : ℕ → Bool) (moved : List ℕ) (keys : List (List ℕ)) (group : List ℕ)
    → Parts K p r seen moved keys group → AreInhabited p → AreInhabited r
inhabited_of K p r seen moved keys group w h = record {
  each = λ b live. elim (w.parted.chosen_are.only b (subst (λ (ls : List (Option ℕ)). IsSome (at ls b)) w.parted.labels live)) [
    | inr (k, below, e) ↦ by_group k b (get_or keys k []) (slice_get-get_or keys k [] below) e
    | inl old ↦ (
        let m = h.each b old in
        elim (cases_Bool (seen m.0)) [
          | inr f ↦ (m.0, w.parted.moved_are.others m.0 f ∙ m.1)
          | inl y ↦ (
              let a = put m.0 y in
              let own = a.own_is in
              let here = m.1 in
              let same : a.own ≡ b = cc in
              let k = w.parted.retained_groups.each (slice_index group m.0) a.own a.key a.below a.at_key a.begins in
              elim (w.parted.chosen_are.each k.0 a.own k.1 k.2 k.4 k.5) [
                | inl kept ↦ by_group k.0 b k.1 k.4 (kept.same ∙ same)
                | inr (free, not_kept) ↦ elim not_kept.why [
                  | inl other ↦ absurd (other k.3)
                  | inr (n, block, clean) ↦ (n, w.parted.moved_are.others n clean ∙ block ∙ ap Some same)
                ]
              ])
        ])
  ];
}
  where
    put : (n : ℕ) → seen n ≡ true → Placed K p.block_of r.block_of keys group w.parted.chosen n
    put = placed K p r seen moved keys group w

    by_group : (k b : ℕ) (key : List ℕ) → slice_get keys k ≡ Some key → slice_index w.parted.chosen k ≡ b → (n : ℕ) × (at r.block_of n ≡ Some b)
    by_group k b key e is =
        let n = w.grouped.inhabited k key e in
        let a = put n.0 n.1 in
        let keys_same = w.keys_are.unique n.0 a.key key a.is n.2 in
        let groups : slice_index group n.0 ≡ k = w.grouped.distinct.apart (slice_index group n.0) k key (a.at_key ∙ ap Some keys_same) e in
        (n.0, a.there ∙ ap (λ x. Some (slice_index w.parted.chosen x)) groups ∙ ap Some is)
